use Rattle.std.proofs.Common.{arith}
use Rattle.sb_root.proofs.Indices.{free_within}
use Rattle.sb_root.proofs.root_kernel.RootKernel.free_index.Goals as goal

pub is_set-requires-clause-index : goal.is_set-requires-clause-index
is_set-requires-clause-index c =
    free_within c.args.self.now c.args.thread c.loop-index.index c.requires.room c.loop-index.invariant

pub overflow_add-index : goal.overflow_add-index
overflow_add-index c =
    let within = free_within c.args.self.now c.args.thread c.loop-index.index c.requires.room c.loop-index.invariant in
    omega arith
