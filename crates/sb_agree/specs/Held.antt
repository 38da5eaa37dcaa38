-- Memories that hold the same words, and memories that agree.
use Rattle.std.specs.Prelude.{ℕ, ◌≡◌, ◌*◌, ◌||◌, Bool, true, false, List, [], ◌∷◌, length, get_or}
use Rattle.sb_memory.specs.Physical.{Physical, frame_count, has_frame}
use Rattle.sb_memory.specs.Words.{word_at}
use Rattle.sb_memory.specs.declared.page.TheConstants.{PAGE_SIZE}
use Rattle.sb_agree.specs.Noted.{has_word, word_of}

-- each of these words, by its number, has in another memory the value that it has in this one
abbrev pub HoldsWords : Physical → List ℕ → Physical → Type 0
HoldsWords memory [] other = Unit {0}
HoldsWords memory (word ∷ words) other =
    (word_at other.bytes (8 * word) ≡ word_at memory.bytes (8 * word)) × HoldsWords memory words other

-- all of some words are among these
abbrev pub Covers : List ℕ → List ℕ → Type 0
Covers all some = (word : ℕ) → has_word word some ≡ true → has_word word all ≡ true

-- whether a word is one of those that are read, or of those that were written
abbrev pub is_known : List ℕ → List ℕ → ℕ → Bool
is_known all writes word = has_word word all || has_word word writes

-- Over the words that are read in all, from first to last (`all`), and those that were written so far (`writes`): `memory`, in
-- which frames may be missing, and another, `changed`, which was `start` before the first write. It has as many frames and each
-- that `memory` has, the same bytes in all these words, and the bytes of `start` in each word that was not written.
pub record Agrees (all : List ℕ) (start : Physical) (writes : List ℕ) (memory changed : Physical) : Type 0 where
  pub frames : frame_count changed ≡ frame_count memory
  pub size : length memory.bytes ≡ PAGE_SIZE * frame_count memory
  pub other_size : length changed.bytes ≡ PAGE_SIZE * frame_count changed
  pub there : (frame : ℕ) → has_frame memory frame ≡ true → has_frame changed frame ≡ true
  pub same : (place : ℕ) → is_known all writes (word_of place) ≡ true → get_or changed.bytes place 0 ≡ get_or memory.bytes place 0
  pub stays : (place : ℕ) → has_word (word_of place) writes ≡ false → get_or changed.bytes place 0 ≡ get_or start.bytes place 0
  pub present : changed.present ≡ start.present
