use Rattle.std.proofs.Common.{length}
use Rattle.sb_rewrite.proofs.Checked.{TargetsChecked}
use Rattle.sb_rewrite.proofs.rewriting.check_targets.Given as goal

abbrev pub invariant-loop-rest : goal.invariant-loop-rest
invariant-loop-rest l = TargetsChecked l.text l.rest l.listing

abbrev pub decreases-loop-rest : goal.decreases-loop-rest
decreases-loop-rest l = length l.rest
