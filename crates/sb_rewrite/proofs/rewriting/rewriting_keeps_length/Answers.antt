use Rattle.sb_rewrite.proofs.Length.{keeps_length}
use Rattle.sb_rewrite.proofs.rewriting.rewriting_keeps_length.Goals as goal

pub returns : goal.returns
returns c = keeps_length
