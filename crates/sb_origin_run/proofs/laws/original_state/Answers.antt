use Rattle.sb_origin_run.proofs.Steps.{state_is}
use Rattle.sb_origin_run.proofs.laws.original_state.Goals as goal

pub returns : goal.returns
returns g c = state_is g.R.Codes.bus g.R.Codes.holds
