use Rattle.std.proofs.Common.{length}
use Rattle.sb_rewrite.proofs.Listed.{Partway}
use Rattle.sb_rewrite.proofs.listing.list.Given as goal

abbrev pub invariant-loop-rest : goal.invariant-loop-rest
invariant-loop-rest l = Partway l.text l.rest l.starts

abbrev pub decreases-loop-rest : goal.decreases-loop-rest
decreases-loop-rest l = length l.rest
