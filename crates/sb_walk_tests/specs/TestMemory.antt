-- The memory of the tests: one frame is missing, and the places of the first calls are noted.
use Rattle.std.specs.Prelude.{ℕ, ◌++◌, false, List, [], ◌∷◌, length, set, nat_lt, if◌then◌else◌}
use Rattle.sb_memory.specs.Physical.{Physical}
use Rattle.sb_memory.specs.Accounts.{PhysCall, place_of}

-- a memory without one of its frames
abbrev pub without_frame : Physical → ℕ → Physical
without_frame memory frame = record memory { present = set memory.present frame false }

-- the places noted after one more, if they are fewer than eight
unfoldable pub noted_place : ℕ → List ℕ → List ℕ
noted_place place places = if nat_lt (length places) 8 then places ++ place ∷ [] else places

-- the places noted after a call
abbrev pub noted : PhysCall → Physical → List ℕ → List ℕ
noted call memory places = noted_place (place_of call) places
