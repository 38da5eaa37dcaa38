use Rattle.sb_origin_plain.proofs.Threads.{plain_threads}
use Rattle.sb_origin_plain.proofs.laws.plain_threads_run.Goals as goal

pub returns : goal.returns
returns c = plain_threads
