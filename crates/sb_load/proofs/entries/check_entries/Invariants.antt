use Rattle.std.proofs.Common.{take}
use Rattle.std.specs.List.{AllByRecursion}
use Rattle.sb_load.specs.Loading.{HasEntry}
use Rattle.sb_load.proofs.entries.check_entries.Given as goal

abbrev pub invariant-loop-number : goal.invariant-loop-number
invariant-loop-number l = AllByRecursion (HasEntry l.rewritten) (take l.number l.cores)
