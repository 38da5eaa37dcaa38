use Rattle.sb_rewrite.proofs.Within.{starts_in_text}
use Rattle.sb_rewrite.proofs.rewriting.starts_stand_in_text.Goals as goal

pub returns : goal.returns
returns c = starts_in_text
