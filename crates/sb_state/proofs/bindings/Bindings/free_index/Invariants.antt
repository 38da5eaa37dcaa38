-- The lowest free index is the lowest one from here on.
use Rattle.std.proofs.Common.{◌≡◌, ◌≤◌, ◌-◌}
use Rattle.sb_state.specs.Bindings.{free_index_from, free_index}
use Rattle.sb_state.proofs.bindings.Bindings.free_index.Given as goal

abbrev pub invariant-loop-index : goal.invariant-loop-index
invariant-loop-index l = record {
  last : l.index ≤ 15;
  lowest : free_index_from l.self l.index (15 - l.index) ≡ free_index l.self;
}

abbrev pub decreases-loop-index : goal.decreases-loop-index
decreases-loop-index l = 15 - l.index
