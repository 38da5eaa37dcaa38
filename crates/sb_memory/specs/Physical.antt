-- Physical memory: its bytes, and which frames are there. A frame is 4,096 bytes.
use Rattle.std.specs.Prelude.{ℕ, ◌≡◌, ◌+◌, ◌*◌, ◌/◌, ◌%◌, ◌^◌, ◌<◌, Bool, true, false, List, length, replicate, get_or}
use Rattle.sb_memory.specs.declared.page.TheConstants.{PAGE_SIZE}

-- the bytes of all frames, one after another, and for each frame whether it is there
pub record Physical : Type 0 where
  pub bytes : List ℕ
  pub present : List Bool

-- the number of frames
abbrev pub frame_count : Physical → ℕ
frame_count memory = length memory.present

-- the frame of a place
abbrev pub frame_of : ℕ → ℕ
frame_of place = place / PAGE_SIZE

-- whether a frame is there
abbrev pub has_frame : Physical → ℕ → Bool
has_frame memory frame = get_or memory.present frame false

-- no frame is missing
abbrev pub HasAllFrames : Physical → Type 0
HasAllFrames memory = (frame : ℕ) → frame < frame_count memory → has_frame memory frame ≡ true

-- a place in a frame of the memory, whether or not that frame is there
abbrev pub IsPlace : Physical → ℕ → Type 0
IsPlace memory place = place < PAGE_SIZE * frame_count memory

-- such a place at which a word of 8 bytes may stand
pub record IsWordPlace (memory : Physical) (place : ℕ) : Type 0 where
  pub inside : IsPlace memory place
  pub aligned : place % 8 ≡ 0

-- the bytes of a frame are those of a page
abbrev pub HoldsBytes : Physical → ℕ → List ℕ → Type 0
HoldsBytes memory frame page =
    (offset : ℕ) → offset < PAGE_SIZE → get_or memory.bytes (PAGE_SIZE * frame + offset) 0 ≡ get_or page offset 0

-- there are few frames, and each has its bytes
pub record HasSize (memory : Physical) : Type 0 where
  pub count : frame_count memory < 2 ^ 32
  pub bytes : length memory.bytes ≡ PAGE_SIZE * frame_count memory

-- what holds of each physical memory
pub record IsPhysical (memory : Physical) : Type 0 where
  pub size : HasSize memory
  pub bytes : (place : ℕ) → get_or memory.bytes place 0 < 256

-- memory of zeros that has all its frames
abbrev pub zeroed_memory : ℕ → Physical
zeroed_memory frames = record { bytes = replicate (PAGE_SIZE * frames) 0; present = replicate frames true }
