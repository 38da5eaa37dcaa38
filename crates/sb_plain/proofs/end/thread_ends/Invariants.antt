-- The ends so far and those that are left make up the whole.
use Rattle.std.proofs.Common.{◌≡◌, ◌++◌, drop}
use Rattle.sb_trace.specs.End.{thread_ends}
use Rattle.sb_plain.proofs.end.thread_ends.Given as goal

abbrev pub invariant-loop-number : goal.invariant-loop-number
invariant-loop-number l =
    l.ends.items ++ thread_ends l.state l.number (drop l.number l.state.threads) ≡ thread_ends l.state 0 l.state.threads
