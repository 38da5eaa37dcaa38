use Rattle.sb_rewrite.proofs.Free.{leaves_none}
use Rattle.sb_rewrite.proofs.rewriting.rewriting_leaves_none.Goals as goal

pub returns : goal.returns
returns c = leaves_none
