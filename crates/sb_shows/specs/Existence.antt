-- That there is memory which shows a state.
use Rattle.std.specs.Prelude.{ℕ, ◌≡◌, ◌≤◌, length}
use Rattle.sb_memory.specs.Physical.{Physical, frame_count}
use Rattle.sb_trace.specs.State.{State}
use Rattle.sb_shows.specs.Shows.{CoreWords, Shows}

-- Memory of each size that has room for it shows a state of one process and one thread, though not a sound one: its trampoline
-- pages are zeros, and it has no text, pool or stack page.
abbrev pub SomeMemoryShows : Type 0
SomeMemoryShows =
    (frames : ℕ) → 530 ≤ frames → frames ≤ 8192
    → (state : State) × (memory : Physical) × (cores : ℕ → CoreWords) × (length state.processes ≡ 1)
    × (length state.threads ≡ 1) × (frame_count memory ≡ frames) × Shows state memory cores
