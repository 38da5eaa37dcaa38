use Rattle.std.proofs.Common.{length}
use Rattle.sb_rewrite.proofs.Checked.{MovableChecked}
use Rattle.sb_rewrite.proofs.rewriting.check_movable.Given as goal

abbrev pub invariant-loop-rest : goal.invariant-loop-rest
invariant-loop-rest l = MovableChecked l.text l.rest

abbrev pub decreases-loop-rest : goal.decreases-loop-rest
decreases-loop-rest l = length l.rest
