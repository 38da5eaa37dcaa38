use Rattle.sb_agree.proofs.Alike.{word_alike_on}
use Rattle.sb_agree.proofs.laws.words_agree.Goals as goal

pub returns : goal.returns
returns c = word_alike_on
