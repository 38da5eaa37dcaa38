use Rattle.sb_agree.proofs.Held.{writes_held}
use Rattle.sb_agree.proofs.laws.written_words_are_held.Goals as goal

pub returns : goal.returns
returns c = writes_held
