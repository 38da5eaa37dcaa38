use Rattle.std.proofs.Common.{length}
use Rattle.sb_rewrite.proofs.Passed.{PassesSoFar}
use Rattle.sb_rewrite.proofs.passes.push_passes.Given as goal

abbrev pub invariant-loop-length : goal.invariant-loop-length
invariant-loop-length l = PassesSoFar l.slot l.bytes l.initial.passes.items l.from l.rest l.passes.items

abbrev pub decreases-loop-length : goal.decreases-loop-length
decreases-loop-length l = length l.rest
