-- The ends so far and those that are left make up the whole.
use Rattle.std.proofs.Common.{◌≡◌, ◌++◌, drop}
use Rattle.sb_machine.specs.End.{core_ends}
use Rattle.sb_machine.proofs.end.core_ends.Given as goal

abbrev pub invariant-loop-number : goal.invariant-loop-number
invariant-loop-number l =
    l.ends.items ++ core_ends l.parts l.number (drop l.number l.parts.cores) ≡ core_ends l.parts 0 l.parts.cores
