use Rattle.sb_root.proofs.BaseAnswers.{base_answers}
use Rattle.sb_root.proofs.laws.base_answers.Goals as goal

pub returns : goal.returns
returns c = base_answers
