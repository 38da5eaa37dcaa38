-- When a frame is filled with the bytes of a page, and the calls of physical memory that fill one.
use Rattle.std.specs.Prelude.{ℕ, ◌≡◌, ◌+◌, ◌*◌, ◌%◌, ◌<◌, ◌≤◌, List, [], ◌∷◌, length, replicate}
use Rattle.sb_memory.specs.declared.page.TheConstants.{PAGE_SIZE}
use Rattle.sb_memory.specs.Physical.{Physical, HasSize, HoldsBytes, frame_count}
use Rattle.sb_memory.specs.Reading.{with_bytes}
use Rattle.sb_memory.specs.Words.{clear_frame, put_bytes, put_word}
use Rattle.sb_memory.specs.Changes.{SameOutside}
use Rattle.sb_trace.specs.PageWords.{zeros}
use Rattle.sb_trace.specs.Start.{page_padded}

-- a frame holds the bytes of a page, and no other frame changed
pub record FillsFrame (frame : ℕ) (page : List ℕ) (old filled : Physical) : Type 0 where
  pub same : SameOutside (frame ∷ []) old filled
  pub held : HoldsBytes filled frame page

-- a frame that is cleared is filled with zeros
abbrev pub ClearsFill : Type 0
ClearsFill =
    (memory : Physical) (frame : ℕ) → HasSize memory → frame < frame_count memory
    → FillsFrame frame zeros memory (with_bytes memory (clear_frame memory.bytes frame))

-- a frame into which the bytes of a page are put is filled with them
abbrev pub PagesFill : Type 0
PagesFill =
    (memory : Physical) (frame : ℕ) (page : List ℕ) → HasSize memory → frame < frame_count memory → length page ≡ PAGE_SIZE
    → FillsFrame frame page memory (with_bytes memory (put_bytes memory.bytes (PAGE_SIZE * frame) page))

-- a frame full of a filler, into which at most a page of bytes is put, is filled with these bytes and the filler behind them
abbrev pub ImagesFill : Type 0
ImagesFill =
    (old memory : Physical) (frame filler : ℕ) (bytes : List ℕ) → HasSize memory → frame < frame_count memory
    → length bytes ≤ PAGE_SIZE → FillsFrame frame (replicate PAGE_SIZE filler) old memory
    → FillsFrame frame (page_padded filler bytes) old (with_bytes memory (put_bytes memory.bytes (PAGE_SIZE * frame) bytes))

-- a frame that is filled with a page, into which a word is put, is filled with the page with that word in it
abbrev pub WordsFill : Type 0
WordsFill =
    (old memory : Physical) (frame at word : ℕ) (page : List ℕ) → HasSize memory → frame < frame_count memory
    → length page ≡ PAGE_SIZE → at % 8 ≡ 0 → at + 8 ≤ PAGE_SIZE → FillsFrame frame page old memory
    → FillsFrame frame (put_word page at word) old (with_bytes memory (put_word memory.bytes (PAGE_SIZE * frame + at) word))
