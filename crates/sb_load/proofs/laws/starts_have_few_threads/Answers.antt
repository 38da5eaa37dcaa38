use Rattle.sb_load.proofs.FirstState.{few_threads}
use Rattle.sb_load.proofs.laws.starts_have_few_threads.Goals as goal

pub returns : goal.returns
returns c = few_threads
