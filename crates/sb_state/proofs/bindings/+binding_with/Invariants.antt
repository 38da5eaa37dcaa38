use Rattle.std.proofs.Common.{length}
use Rattle.sb_state.proofs.bindings.+binding_with.Given as goal

abbrev pub decreases-binding_with : goal.decreases-binding_with
decreases-binding_with l = length l.bindings.now
