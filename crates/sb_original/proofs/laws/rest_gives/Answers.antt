use Rattle.sb_original.proofs.Going.{left_gives}
use Rattle.sb_original.proofs.laws.rest_gives.Goals as goal

pub returns : goal.returns
returns g c = left_gives g.R.Rewritten.bus g.R.Rewritten.holds
