use Rattle.std.proofs.Common.{ℕ, ◌-◌, ◌<◌}
use Rattle.sb_root.specs.Root.{IsSet}
use Rattle.sb_root.proofs.root_kernel.RootKernel.free_index.Given as goal

abbrev pub invariant-loop-index : goal.invariant-loop-index
invariant-loop-index l = (lower : ℕ) → lower < l.index → IsSet l.self l.thread lower

abbrev pub decreases-loop-index : goal.decreases-loop-index
decreases-loop-index l = 16 - l.index
