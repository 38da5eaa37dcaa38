-- The cores so far and those that are left make up the whole.
use Rattle.std.proofs.Common.{◌≡◌, ◌++◌, drop}
use Rattle.sb_machine.specs.Start.{first_cores}
use Rattle.sb_machine.proofs.start.first_cores.Given as goal

abbrev pub invariant-loop-thread : goal.invariant-loop-thread
invariant-loop-thread l =
    l.cores.items ++ first_cores l.memory l.root l.thread (drop l.thread l.starts) ≡ first_cores l.memory l.root 0 l.starts
