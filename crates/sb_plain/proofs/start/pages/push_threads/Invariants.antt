-- The pages so far and those of the threads that are left make up the whole.
use Rattle.std.proofs.Common.{◌≡◌, ◌++◌, drop, map}
use Rattle.sb_state.specs.Start.{threads_pages}
use Rattle.sb_plain.specs.Start.{entry_of}
use Rattle.sb_plain.proofs.start.pages.push_threads.Given as goal

abbrev pub invariant-loop-thread : goal.invariant-loop-thread
invariant-loop-thread l =
    l.pages.pages ++ threads_pages l.thread (map entry_of (drop l.thread l.cores))
    ≡ l.initial.pages.pages ++ threads_pages 0 (map entry_of l.cores)
