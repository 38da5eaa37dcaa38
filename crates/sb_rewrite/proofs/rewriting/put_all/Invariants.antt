use Rattle.std.proofs.Common.{length}
use Rattle.sb_rewrite.proofs.Putting.{PutSoFar}
use Rattle.sb_rewrite.proofs.rewriting.put_all.Given as goal

abbrev pub invariant-loop-rest : goal.invariant-loop-rest
invariant-loop-rest l = PutSoFar l.text l.rest l.draft l.jumps.items

abbrev pub decreases-loop-rest : goal.decreases-loop-rest
decreases-loop-rest l = length l.rest
