use Rattle.std.proofs.Common.{◌≡◌, ◌++◌, take}
use Rattle.std.specs.List.{flat_map}
use Rattle.sb_bundle.specs.Spelling.{core_bytes}
use Rattle.sb_bundle.proofs.writing.put_cores.Given as goal

abbrev pub invariant-loop-core : goal.invariant-loop-core
invariant-loop-core l = l.out.items ≡ l.initial.out.items ++ flat_map core_bytes (take l.core-index l.cores)
