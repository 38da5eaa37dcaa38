use Rattle.std.specs.List.{AllByRecursion}
use Rattle.sb_bundle.specs.Limits.{IsImage}
use Rattle.sb_load_tests.proofs.bundles.images_of.Given as goal

abbrev pub invariant-loop-program : goal.invariant-loop-program
invariant-loop-program l = AllByRecursion IsImage l.images.items
