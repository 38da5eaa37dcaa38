-- The threads so far and those that are left make up the whole.
use Rattle.std.proofs.Common.{◌≡◌, ◌++◌, drop, map}
use Rattle.sb_state.specs.Start.{start_threads}
use Rattle.sb_plain.specs.Start.{entry_of}
use Rattle.sb_plain.proofs.start.threads.start_threads.Given as goal

abbrev pub invariant-loop-thread : goal.invariant-loop-thread
invariant-loop-thread l =
    l.threads.items ++ start_threads l.thread (map entry_of (drop l.thread l.cores)) ≡ start_threads 0 (map entry_of l.cores)
