use Rattle.sb_origin_plain.proofs.Plain.{has_words}
use Rattle.sb_origin_plain.proofs.laws.plain_words.Goals as goal

pub returns : goal.returns
returns c = has_words
