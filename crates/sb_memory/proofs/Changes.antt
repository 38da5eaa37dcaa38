-- Changes that stay within some frames.
use Rattle.std.proofs.Common.{◌≡◌, ◌≢◌, ℕ, ◌+◌, ◌%◌, ◌<◌, ◌≤◌, ◌⊎◌, inl, inr, List, refl, ◌∙◌, sym, subst, arith}
use Rattle.std.specs.List.{Contains}
use Rattle.std.proofs.lemmas.Bool.{cases_lt}
use Rattle.sb_memory.specs.Physical.{Physical, HasSize, frame_of}
use Rattle.sb_memory.specs.Reading.{with_bytes}
use Rattle.sb_memory.specs.Words.{put_word, clear_frame}
use Rattle.sb_memory.specs.Changes.{SameOutside}
use Rattle.sb_memory.proofs.Words.{length_put_word, length_clear_frame, byte_beside_word, byte_beside_frame}

-- no change
pub same_outside_self : (frames : List ℕ) (memory : Physical) → SameOutside frames memory memory
same_outside_self frames memory = record { present = refl; size = refl; bytes = λ place outside. refl }

-- one change after another
pub same_outside_then : (frames : List ℕ) (old mid new : Physical) → SameOutside frames old mid → SameOutside frames mid new
    → SameOutside frames old new
same_outside_then frames old mid new first second = record {
  present = second.present ∙ first.present;
  size = second.size ∙ first.size;
  bytes = λ place outside. second.bytes place outside ∙ first.bytes place outside;
}

-- a place in another frame than a word lies beside it
pub beside_word : (at place : ℕ) → at % 8 ≡ 0 → frame_of place ≢ frame_of at → (place < at) ⊎ (at + 8 ≤ place)
beside_word at place aligned other = elim (cases_lt place at) [
  | inl below ↦ inl below
  | inr above ↦ inr (omega arith)
]

-- a word is put into one of the frames
pub same_outside_word : (frames : List ℕ) (memory : Physical) (at word : ℕ) → at % 8 ≡ 0 → Contains frames (frame_of at)
    → SameOutside frames memory (with_bytes memory (put_word memory.bytes at word))
same_outside_word frames memory at word aligned within = record {
  present = refl;
  size = length_put_word memory.bytes at word;
  bytes = λ place outside. byte_beside_word memory.bytes at word place
      (beside_word at place aligned (λ same. outside (subst (Contains frames) (sym same) within)));
}

-- one of the frames is cleared
pub same_outside_cleared : (frames : List ℕ) (memory : Physical) (frame : ℕ) → Contains frames frame
    → SameOutside frames memory (with_bytes memory (clear_frame memory.bytes frame))
same_outside_cleared frames memory frame within = record {
  present = refl;
  size = length_clear_frame memory.bytes frame;
  bytes = λ place outside. byte_beside_frame memory.bytes frame place
      (λ same. outside (subst (Contains frames) (sym same) within));
}

-- the size stays
pub size_kept : (frames : List ℕ) (old new : Physical) → SameOutside frames old new → HasSize old → HasSize new
size_kept frames old new same size =
    let present = same.present in
    let bytes = same.size in
    let few = size.count in
    let whole = size.bytes in
    record { count = rw present few; bytes = rw (bytes, present) whole }

-- the size before a frame was cleared
pub size_before_clear : (memory new : Physical) (frame : ℕ) → new ≡ with_bytes memory (clear_frame memory.bytes frame)
    → HasSize new → HasSize memory
size_before_clear memory new frame is size =
    let after = subst HasSize is size in
    record { count = after.count; bytes = sym (length_clear_frame memory.bytes frame) ∙ after.bytes }
