use Rattle.sb_load_tests.proofs.Built.{all_first}
use Rattle.sb_load_tests.proofs.bundles.are_core_starts.Goals as goal

pub loop-core-preserved : goal.loop-core-preserved
loop-core-preserved c =
    all_first _ _ _ _ c.loop-core-test.true c.loop-core.invariant (c.is_core_start.ensures c.if-not-is_core_start.false)
