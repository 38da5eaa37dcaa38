use Rattle.sb_shows.proofs.Refuted.{no_entry_of_an_unused_index}
use Rattle.sb_shows.proofs.defects.no_entry_of_an_unused_index.Goals as goal

pub returns : goal.returns
returns c = no_entry_of_an_unused_index
