use Rattle.sb_nested.proofs.Count.{reads_at_most_24}
use Rattle.sb_nested.proofs.laws.at_most_24_words.Goals as goal

pub returns : goal.returns
returns c = reads_at_most_24
