-- The dump of a machine.
use Rattle.std.specs.Prelude.{ℕ, List, length}
use Rattle.sb_memory.specs.Physical.{frame_count}
use Rattle.sb_trace.specs.State.{State}
use Rattle.sb_shows.specs.Dump.{dump_text, IsDumpOf}
use Rattle.sb_machine.specs.Machine.{Machine, words_of}
use Rattle.sb_machine.specs.StandsFor.{IsMachineOf}

-- the dump of its memory and of the words of its cores
abbrev pub machine_dump : Machine → List ℕ
machine_dump machine = dump_text machine.memory (words_of machine) (length machine.cores) (frame_count machine.memory)

-- it shows each state for which the machine stands
abbrev pub DumpShows : Machine → Type 0
DumpShows machine =
    (state : State) → IsMachineOf machine state → IsDumpOf (machine_dump machine) state (frame_count machine.memory)
