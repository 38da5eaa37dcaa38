use Rattle.sb_origin_run.proofs.Registers.{threads_straight}
use Rattle.sb_origin_run.proofs.laws.registers_of_threads_stay.Goals as goal

pub returns : goal.returns
returns g c =
    threads_straight g.R.ThreadCodes.is_thread g.R.ThreadCodes.buses g.R.ThreadCodes.holds g.R.ThreadCodes.outside
    g.R.ThreadCodes.has_bytes g.R.ThreadCodes.targets g.R.ThreadCodes.sources g.R.ThreadCodes.places
