use Rattle.std.proofs.Common.{take}
use Rattle.std.specs.List.{AllByRecursion}
use Rattle.sb_bundle.specs.Limits.{IsCoreStart}
use Rattle.sb_load_tests.proofs.bundles.are_core_starts.Given as goal

abbrev pub invariant-loop-core : goal.invariant-loop-core
invariant-loop-core l = AllByRecursion (IsCoreStart l.processes) (take l.core-index l.cores)
