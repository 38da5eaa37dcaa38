use Rattle.sb_decode.proofs.Exact.{none_begins_another, one_begins, spelled_apart}
use Rattle.sb_decode.proofs.OneAnswer.{one_answer}
use Rattle.sb_decode.proofs.one_spelling.Goals as goal

pub returns-clause-prefix : goal.returns-clause-prefix
returns-clause-prefix c = none_begins_another

pub returns-clause-begins : goal.returns-clause-begins
returns-clause-begins c = one_begins

pub returns-clause-spelled : goal.returns-clause-spelled
returns-clause-spelled c = spelled_apart

pub returns-clause-answer : goal.returns-clause-answer
returns-clause-answer c = one_answer
