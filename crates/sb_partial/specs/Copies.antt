-- Copies of frames, with what was read of them and what was written.
use Rattle.std.specs.Prelude.{ℕ, ◌+◌, ◌*◌, ◌≤◌, true, false, List, Option, Some, None, All, set, replicate}
use Rattle.sb_memory.specs.Physical.{Physical, frame_count}
use Rattle.sb_memory.specs.Words.{put_bytes}
use Rattle.sb_memory.specs.declared.page.TheConstants.{PAGE_SIZE}
use Rattle.sb_agree.specs.Noted.{Noted, nothing}

-- The copies as they were given, the memory with what was written since, what was noted, and what was noted when the present
-- step began.
pub record Copied : Type 0 where
  pub given : Physical
  pub memory : Physical
  pub noted : Noted
  pub began : Noted

-- copies to which nothing was done
abbrev pub untouched : Physical → Copied
untouched copies = record { given = copies; memory = copies; noted = nothing; began = nothing }

-- so many frames, none of which is there
abbrev pub no_copies : ℕ → Physical
no_copies frames = record { bytes = replicate (PAGE_SIZE * frames) 0; present = replicate frames false }

-- with a copy of one more frame
abbrev pub with_copy : Physical → ℕ → List ℕ → Physical
with_copy copies frame bytes =
    record { bytes = put_bytes copies.bytes (PAGE_SIZE * frame) bytes; present = set copies.present frame true }

-- these words, by their numbers, lie in frames of the memory
abbrev pub AllInside : Physical → List ℕ → Type 0
AllInside copies words = All (λ word. 8 * word + 8 ≤ PAGE_SIZE * frame_count copies) words

-- the copies, where there were any, or none of so many frames
abbrev pub copied_in : ℕ → Option Copied → Copied
copied_in frames None = untouched (no_copies frames)
copied_in frames (Some copied) = copied
