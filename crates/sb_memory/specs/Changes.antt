-- What a change of a memory leaves as it was.
use Rattle.std.specs.Prelude.{ℕ, ◌≡◌, List, length, get_or}
use Rattle.std.specs.List.{Contains}
use Rattle.sb_memory.specs.Physical.{Physical, frame_of}

-- only bytes of these frames differ
pub record SameOutside (frames : List ℕ) (old new : Physical) : Type 0 where
  pub present : new.present ≡ old.present
  pub size : length new.bytes ≡ length old.bytes
  pub bytes : (place : ℕ) → ¬ Contains frames (frame_of place) → get_or new.bytes place 0 ≡ get_or old.bytes place 0
