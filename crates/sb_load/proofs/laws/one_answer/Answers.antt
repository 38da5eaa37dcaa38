use Rattle.sb_load.proofs.OneAnswer.{one_answer}
use Rattle.sb_load.proofs.laws.one_answer.Goals as goal

pub returns : goal.returns
returns c = one_answer
