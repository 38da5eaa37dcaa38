use Rattle.sb_rewrite.proofs.rewritten.Rewritten.is_start.Goals as goal

pub returns : goal.returns
returns c = rw c.starts.ensures at c.contains.ensures.held
