-- Calls of physical memory that fill a frame with the bytes of a page.
use Rattle.std.proofs.Common.{◌≡◌, ◌∙◌, sym, ap, subst, ℕ, zero, ◌+◌, ◌-◌, ◌*◌, ◌<◌, ◌≤◌, inl, inr, List, [], ◌∷◌, ◌++◌, length, get_or, lit<, arith}
use Rattle.std.specs.Prelude.{replicate}
use Rattle.std.proofs.lemmas.Bool.{cases_lt}
use Rattle.std.proofs.lemmas.List.{get_or-replicate, get_or_append_left, get_or-append-add}
use Rattle.sb_memory.specs.Physical.{Physical, frame_of}
use Rattle.sb_memory.specs.Changes.{SameOutside}
use Rattle.sb_memory.specs.Reading.{with_bytes}
use Rattle.sb_memory.specs.Words.{put_bytes}
use Rattle.sb_memory.proofs.Words.{get_or-sets_other, get_or-sets_same, byte_of_cleared, word_held}
use Rattle.sb_memory.proofs.Changes.{same_outside_then, same_outside_word}
use Rattle.sb_memory.proofs.Frames.{bytes_within, cleared_within}
use Rattle.sb_trace.specs.PageWords.{zeros}
use Rattle.sb_trace.specs.Start.{page_padded}
use Rattle.sb_shows.specs.Fills.{ClearsFill, PagesFill, ImagesFill, WordsFill}

-- a page of zeros has zeros
pub zero_at : (offset : ℕ) → offset < 4096 → get_or zeros offset 0 ≡ 0
unfolding zeros
zero_at offset below = get_or-replicate 4096 offset 0 0 below

-- a frame is cleared
pub clears_fill : ClearsFill
clears_fill memory frame size inside =
    let bytes = size.bytes in
    record {
      same = cleared_within memory frame;
      held = λ offset below. byte_of_cleared memory.bytes frame (4096 * frame + offset) (omega arith) (omega arith)
          ∙ sym (zero_at offset below);
    }

-- bytes that are put at the start of a frame change no other frame
put_within : (memory : Physical) (frame : ℕ) (bytes : List ℕ) → length bytes ≤ 4096
    → SameOutside (frame ∷ []) memory (with_bytes memory (put_bytes memory.bytes (4096 * frame) bytes))
put_within memory frame bytes few =
    let here : frame_of (4096 * frame) ≡ frame = omega arith in
    subst (λ n. SameOutside (n ∷ []) memory (with_bytes memory (put_bytes memory.bytes (4096 * frame) bytes))) here
    (bytes_within memory (4096 * frame) bytes (omega arith))

-- the bytes that were put are there,
put_here : (bytes new : List ℕ) (at offset : ℕ) → offset < length new → at + length new ≤ length bytes
    → get_or (put_bytes bytes at new) (at + offset) 0 ≡ get_or new offset 0
unfolding put_bytes
put_here bytes new at offset below fits = get_or-sets_same new bytes at offset below fits

-- and those behind them as they were
put_behind : (bytes new : List ℕ) (at place : ℕ) → at + length new ≤ place
    → get_or (put_bytes bytes at new) place 0 ≡ get_or bytes place 0
unfolding put_bytes
put_behind bytes new at place beyond = get_or-sets_other new bytes at place (inr beyond)

-- the bytes of a page are put
pub pages_fill : PagesFill
pages_fill memory frame page size inside whole =
    let bytes = size.bytes in
    record {
      same = put_within memory frame page (omega arith);
      held = λ offset below. put_here memory.bytes page (4096 * frame) offset (omega arith) (omega arith);
    }

padded_here : (filler : ℕ) (bytes : List ℕ) (offset : ℕ) → offset < length bytes
    → get_or (page_padded filler bytes) offset 0 ≡ get_or bytes offset 0
padded_here filler bytes offset below = get_or_append_left bytes (replicate (4096 - length bytes) filler) 0 offset below

padded_behind : (filler : ℕ) (bytes : List ℕ) (offset : ℕ) → length bytes ≤ offset → offset < 4096
    → get_or (page_padded filler bytes) offset 0 ≡ filler
padded_behind filler bytes offset beyond below =
    let at : offset ≡ length bytes + (offset - length bytes) = omega arith in
    ap (λ (n : ℕ). get_or (bytes ++ replicate (4096 - length bytes) filler) n 0) at
    ∙ (get_or-append-add bytes (replicate (4096 - length bytes) filler) (offset - length bytes) 0
    ∙ get_or-replicate (4096 - length bytes) (offset - length bytes) filler 0 (omega arith))

-- fewer bytes are put over a filler
pub images_fill : ImagesFill
images_fill old memory frame filler bytes size inside few fills =
    let whole = size.bytes in
    record {
      same = same_outside_then (frame ∷ []) old memory _ fills.same (put_within memory frame bytes few);
      held = λ offset below. elim (cases_lt offset (length bytes)) [
        | inl before ↦ put_here memory.bytes bytes (4096 * frame) offset before (omega arith)
            ∙ sym (padded_here filler bytes offset before)
        | inr behind ↦ put_behind memory.bytes bytes (4096 * frame) (4096 * frame + offset) (omega arith)
            ∙ (fills.held offset below
            ∙ (get_or-replicate 4096 offset filler 0 below ∙ sym (padded_behind filler bytes offset (omega arith) below)))
      ];
    }

-- a word is put
pub words_fill : WordsFill
words_fill old memory frame at word page size inside whole aligned few fills =
    let bytes = size.bytes in
    let here : frame_of (4096 * frame + at) ≡ frame = omega arith in
    record {
      same = same_outside_then (frame ∷ []) old memory _ fills.same
          (same_outside_word (frame ∷ []) memory (4096 * frame + at) word (omega arith) (zero, lit< tt, sym here));
      held = λ offset below. word_held memory.bytes page (4096 * frame) at word offset few (omega arith) whole
          (fills.held offset below);
    }
