-- A memory that holds words of another agrees with it at them, and memories that agree hold what was written.
use Rattle.std.proofs.Common.{◌≡◌, ap, sym, subst, ◌∙◌, ℕ, zero, suc, ◌+◌, ◌*◌, ◌%◌, ◌<◌, ◌==◌, Bool, true, false, ◌||◌, List, [], ◌∷◌, get_or, replicate, refl, arith}
use Rattle.std.proofs.lemmas.Bool.{eq-eqb, eqb-true, or_left, or_right}
use Rattle.std.proofs.Math.Bool.{or-false}
use Rattle.std.proofs.lemmas.List.{get_or-replicate, length-replicate}
use Rattle.byteorder.specs.Endian.{little_from}
use Rattle.sb_memory.specs.Physical.{Physical, IsPhysical, HasAllFrames, frame_count}
use Rattle.sb_memory.specs.Words.{word_at}
use Rattle.sb_memory.proofs.Words.{word_of_same_bytes}
use Rattle.sb_agree.specs.Noted.{has_word, word_of}
use Rattle.sb_agree.specs.Held.{Agrees, HoldsWords, is_known}
use Rattle.sb_agree.specs.Laws.{HoldingMemoriesAgree, WrittenWordsAreHeld}
use Rattle.sb_agree.proofs.Agreeing.{there_inside}

-- ---- numbers of bytes

-- equal numbers have equal bytes
same_bytes : (left right : List ℕ) → ((i : ℕ) → get_or left i 0 < 256) → ((i : ℕ) → get_or right i 0 < 256) → (i count : ℕ)
    → little_from i count left ≡ little_from i count right
    → (k : ℕ) → k < count → get_or left (i + k) 0 ≡ get_or right (i + k) 0
same_bytes left right small also i zero e k below = absurd (omega arith)
same_bytes left right small also i (suc count) e zero below =
    let here : i + 0 ≡ i = omega arith in
    let one = small i in
    let two = also i in
    rw here (omega arith)
same_bytes left right small also i (suc count) e (suc k) below =
    let one = small i in
    let two = also i in
    let there : i + suc k ≡ suc i + k = omega arith in
    rw there (same_bytes left right small also (suc i) count (omega arith) k (omega arith))

-- equal words have equal bytes
pub bytes_of_words : (left right : List ℕ) (at : ℕ) → ((i : ℕ) → get_or left i 0 < 256) → ((i : ℕ) → get_or right i 0 < 256)
    → word_at left at ≡ word_at right at → (k : ℕ) → k < 8 → get_or left (at + k) 0 ≡ get_or right (at + k) 0
unfolding word_at
bytes_of_words left right at small also e k below = same_bytes left right small also at 8 e k below

-- ---- words that are held

-- a memory holds its own words
pub holds_own : (memory : Physical) (words : List ℕ) → HoldsWords memory words memory
holds_own memory [] = tt
holds_own memory (word ∷ words) = (refl, holds_own memory words)

module _ (memory other : Physical) where
  -- a word has the same value
  abbrev SameWord : ℕ → Type 0
  SameWord word = word_at other.bytes (8 * word) ≡ word_at memory.bytes (8 * word)

  -- a word of the list, by whether it is the first
  held_by : (test : Bool) (word first : ℕ) (words : List ℕ) → (first == word) ≡ test → (test || has_word word words) ≡ true
      → SameWord first → (has_word word words ≡ true → SameWord word) → SameWord word
  held_by true word first words is e here rest = subst SameWord (eqb-true first word is) here
  held_by false word first words is e here rest = rest e

  -- each word of the list has the same value
  pub word_held : (words : List ℕ) → HoldsWords memory words other → (word : ℕ) → has_word word words ≡ true → SameWord word
  word_held [] held word e = cc
  word_held (first ∷ words) held word e =
      held_by (first == word) word first words refl e held.0 (word_held words held.1 word)

  -- where each word has the same value, the list is held
  pub holds_each : (words : List ℕ) → ((word : ℕ) → has_word word words ≡ true → SameWord word) → HoldsWords memory words other
  holds_each [] each = tt
  holds_each (word ∷ words) each = (
    each word (or_left (word == word) _ (eq-eqb word word refl)),
    holds_each words (λ later e. each later (or_right (word == later) _ e)),
  )

-- ---- the relation at the start

-- a memory that holds some words agrees at them
pub starts : HoldingMemoriesAgree
starts words memory other frames sound also all held = record {
  frames = frames;
  size = sound.size.bytes;
  other_size = also.size.bytes;
  there = λ frame e. let inside = there_inside memory frame e in all frame (rw frames inside);
  same = λ place e.
      let word = word_held memory other words held (word_of place) (sym (or-false (has_word (word_of place) words)) ∙ e) in
      let split : place ≡ 8 * word_of place + place % 8 = omega arith in
      let bytes =
      bytes_of_words other.bytes memory.bytes (8 * word_of place) also.bytes sound.bytes word (place % 8) (omega arith) in
      ap (λ p. get_or other.bytes p 0) split ∙ bytes ∙ ap (λ p. get_or memory.bytes p 0) (sym split);
  stays = λ place e. refl;
  present = refl;
}

-- ---- what is known, and so what was written, is held

module _ (all : List ℕ) (start : Physical) (writes : List ℕ) (memory changed : Physical)
    (agree : Agrees all start writes memory changed) where
  -- a known word has the same value in both
  pub known_word : (word : ℕ) → is_known all writes word ≡ true
      → word_at changed.bytes (8 * word) ≡ word_at memory.bytes (8 * word)
  known_word word e =
      word_of_same_bytes changed.bytes memory.bytes (8 * word)
      (λ k below. agree.same (8 * word + k)
      (let one : word_of (8 * word + k) ≡ word = omega arith in
      subst (λ (w : ℕ). is_known all writes w ≡ true) (sym one) e))

-- what was written has the same values in both
pub writes_held : WrittenWordsAreHeld
writes_held all start writes memory changed agree =
    holds_each memory changed writes
    (λ word e. known_word all start writes memory changed agree word (or_right (has_word word all) _ e))

-- ---- a memory of which all frames are there

-- the same bytes, with no frame missing
abbrev pub with_all_frames : Physical → Physical
with_all_frames memory = record memory { present = replicate (frame_count memory) true }

-- it has as many frames
pub count_of_all : (memory : Physical) → frame_count (with_all_frames memory) ≡ frame_count memory
count_of_all memory = length-replicate (frame_count memory) true

-- it is a physical memory
pub physical_with_all : (memory : Physical) → IsPhysical memory → IsPhysical (with_all_frames memory)
physical_with_all memory sound =
    let count = count_of_all memory in
    record {
      size = record { count = rw count sound.size.count; bytes = rw count sound.size.bytes };
      bytes = sound.bytes;
    }

-- it has all its frames
pub has_all_frames : (memory : Physical) → HasAllFrames (with_all_frames memory)
has_all_frames memory frame below =
    get_or-replicate (frame_count memory) frame true false (subst (λ (n : ℕ). frame < n) (count_of_all memory) below)

-- it holds all words
pub holds_with_all : (memory : Physical) (words : List ℕ) → HoldsWords memory words (with_all_frames memory)
holds_with_all memory [] = tt
holds_with_all memory (word ∷ words) = (refl, holds_with_all memory words)
