use Rattle.std.proofs.Common.{arith}
use Rattle.sb_root.proofs.Shared.{region_cleared}
use Rattle.sb_root.proofs.root_kernel.clear_shared.Goals as goal

pub loop-region-preserved : goal.loop-region-preserved
loop-region-preserved c =
    let before = c.loop-region.invariant in
    region_cleared _ _ _ c.loop-region.region _ c.region_table.ensures c.clear_frame.ensures.written c.clear_frame.ensures.size
    before.2 c.requires.least (omega arith) c.loop-region-test.true before.0
