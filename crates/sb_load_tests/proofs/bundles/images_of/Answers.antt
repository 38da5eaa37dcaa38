use Rattle.sb_bundle.specs.Limits.{IsImage}
use Rattle.sb_load_tests.proofs.Built.{all_and_one}
use Rattle.sb_load_tests.proofs.bundles.images_of.Goals as goal

pub loop-program-preserved : goal.loop-program-preserved
loop-program-preserved c =
    rw c.in_ok-push.ensures.items (all_and_one IsImage _ _ c.loop-program.invariant c.in_ok-image.ensures)
