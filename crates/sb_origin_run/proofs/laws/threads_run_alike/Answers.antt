use Rattle.sb_origin_run.proofs.Many.{threads_alike}
use Rattle.sb_origin_run.proofs.laws.threads_run_alike.Goals as goal

pub returns : goal.returns
returns g c =
    threads_alike g.R.ThreadCodes.is_thread g.R.ThreadCodes.buses g.R.ThreadCodes.originals g.R.ThreadCodes.holds
    g.R.ThreadCodes.outside
    g.R.ThreadCodes.naming g.R.ThreadCodes.targets g.R.ThreadCodes.sources g.R.ThreadCodes.places
