use Rattle.sb_origin_process.proofs.Runs.{process_runs}
use Rattle.sb_origin_process.proofs.laws.process_runs.Goals as goal

pub returns : goal.returns
returns c = process_runs
