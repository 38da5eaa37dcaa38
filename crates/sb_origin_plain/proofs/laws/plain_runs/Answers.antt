use Rattle.sb_origin_plain.proofs.Runs.{plain_runs}
use Rattle.sb_origin_plain.proofs.laws.plain_runs.Goals as goal

pub returns : goal.returns
returns c = plain_runs
