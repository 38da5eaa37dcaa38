use Rattle.sb_shows.proofs.OtherCr3.{no_cr3_of_another}
use Rattle.sb_shows.proofs.defects.no_cr3_of_another.Goals as goal

pub returns : goal.returns
returns c = no_cr3_of_another
