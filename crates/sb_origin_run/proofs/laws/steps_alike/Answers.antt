use Rattle.sb_origin_run.proofs.Steps.{step_alike}
use Rattle.sb_origin_run.proofs.laws.steps_alike.Goals as goal

pub returns : goal.returns
returns g c =
    step_alike g.R.Codes.bus g.R.Codes.original g.R.Codes.holds g.R.Codes.outside g.R.Codes.naming g.R.Codes.target
    g.R.Codes.source g.R.Codes.place
