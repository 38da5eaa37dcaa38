-- A frame of zeros with a word at its top.
use Rattle.std.proofs.Common.{◌≡◌, ◌∙◌, sym, ℕ, zero, ◌+◌, ◌*◌, ◌<◌, [], ◌∷◌, get_or, refl, lit<, lit≤, arith}
use Rattle.std.proofs.lemmas.List.{get_or-replicate}
use Rattle.sb_memory.specs.Physical.{Physical, HasSize, frame_count, frame_of}
use Rattle.sb_memory.specs.Changes.{SameOutside}
use Rattle.sb_memory.specs.Reading.{with_bytes}
use Rattle.sb_memory.specs.Words.{put_word, clear_frame}
use Rattle.sb_memory.proofs.Words.{byte_of_cleared, length_clear_frame}
use Rattle.sb_memory.proofs.Changes.{same_outside_word, same_outside_cleared, same_outside_then}
use Rattle.sb_trace.specs.PageWords.{zeros}
use Rattle.sb_state.proofs.Start.{zeros_size}
use Rattle.sb_memory.proofs.Words.{word_held}

zero_at : (offset : ℕ) → offset < 4096 → get_or zeros offset 0 ≡ 0
unfolding zeros
zero_at offset below = get_or-replicate 4096 offset 0 0 below

module _ (memory : Physical) (frame : ℕ) (inside : frame < frame_count memory) (size : HasSize memory) where
  abbrev cleared : Physical
  cleared = with_bytes memory (clear_frame memory.bytes frame)

  pub same_cleared : SameOutside (frame ∷ []) memory cleared
  same_cleared = same_outside_cleared (frame ∷ []) memory frame (zero, lit< tt, refl)

  pub held_cleared : (offset : ℕ) → offset < 4096 → get_or cleared.bytes (4096 * frame + offset) 0 ≡ get_or zeros offset 0
  held_cleared offset below =
      let fits = size.bytes in
      byte_of_cleared memory.bytes frame (4096 * frame + offset) (omega arith) (omega arith) ∙ sym (zero_at offset below)

  pub same_topped : (top : ℕ)
      → SameOutside (frame ∷ []) memory (with_bytes cleared (put_word cleared.bytes (4096 * frame + 0xFF8) top))
  same_topped top =
      let place : frame_of (4096 * frame + 0xFF8) ≡ frame = omega arith in
      same_outside_then (frame ∷ []) memory cleared _ same_cleared
      (same_outside_word (frame ∷ []) cleared (4096 * frame + 0xFF8) top (omega arith) (zero, lit< tt, sym place))

  pub held_topped : (top offset : ℕ) → offset < 4096
      → get_or (put_word cleared.bytes (4096 * frame + 0xFF8) top) (4096 * frame + offset) 0
      ≡ get_or (put_word zeros 0xFF8 top) offset 0
  held_topped top offset below =
      let fits = size.bytes in
      let count = length_clear_frame memory.bytes frame in
      word_held cleared.bytes zeros (4096 * frame) 0xFF8 top offset (lit≤ tt) (omega arith) zeros_size (held_cleared offset below)
