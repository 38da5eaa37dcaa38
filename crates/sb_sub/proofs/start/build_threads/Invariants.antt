-- What is built, and what is left.
use Rattle.std.proofs.Common.{◌≡◌, ◌≤◌, ◌+◌, ◌*◌, ℕ}
use Rattle.sb_memory.specs.Physical.{frame_count}
use Rattle.sb_frames.specs.Book.{free_count}
use Rattle.sb_mapping.specs.StartThreads.{HasNoViews}
use Rattle.sb_sub.proofs.StartEntries.{EntriesLeft}
use Rattle.sb_sub.proofs.start.build_threads.Given as goal

abbrev pub invariant-loop-thread : goal.invariant-loop-thread
invariant-loop-thread l = record {
  left : EntriesLeft l.loaded l.thread l.root l.book l.memory l.processes;
  none : (thread : ℕ) → l.thread ≤ thread → HasNoViews l.root thread;
  frames : frame_count l.memory ≡ frame_count l.fn.memory;
  fewer : free_count l.book + 12 * l.thread ≡ free_count l.fn.book;
}
