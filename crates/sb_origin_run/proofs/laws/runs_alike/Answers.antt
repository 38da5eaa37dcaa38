use Rattle.sb_origin_run.proofs.Runs.{run_alike}
use Rattle.sb_origin_run.proofs.laws.runs_alike.Goals as goal

pub returns : goal.returns
returns g c =
    run_alike g.R.Codes.bus g.R.Codes.original g.R.Codes.holds g.R.Codes.outside g.R.Codes.naming g.R.Codes.target
    g.R.Codes.source g.R.Codes.place
