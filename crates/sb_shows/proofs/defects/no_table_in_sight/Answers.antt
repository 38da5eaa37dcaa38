use Rattle.sb_shows.proofs.Refuted.{no_table_in_sight}
use Rattle.sb_shows.proofs.defects.no_table_in_sight.Goals as goal

pub returns : goal.returns
returns c = no_table_in_sight
