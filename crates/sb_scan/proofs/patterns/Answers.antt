-- The list that the search gives is that of all places.
use Rattle.std.proofs.lemmas.Result.{IfOk-weaker}
use Rattle.sb_scan.proofs.Places.{all_patterns}
use Rattle.sb_scan.proofs.patterns.Goals as goal

pub returns : goal.returns
returns c = IfOk-weaker c.all_matches.result _ _ (λ places found. all_patterns _ _ found) c.all_matches.ensures
