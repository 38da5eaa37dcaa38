-- A frame is cleared and filled with words, one after another.
use Rattle.std.proofs.Common.{◌≡◌, ℕ, ◌+◌, ◌*◌, ◌^◌, ◌<◌, ◌≤◌, ◌==◌, Bool, true, false, nat_lt, List, [], ◌∷◌, suc, length, take, get_or, get_or-set_other, get_or-set_same, refl, sym, ap, ◌∙◌, subst, inl, inr, arith}
use Rattle.std.specs.Prelude.{if◌then◌else◌, slice_set}
use Rattle.std.proofs.lemmas.Bool.{cases_lt, eqb-true, eqb-false}
use Rattle.std.proofs.lemmas.Grind.{common_steps}
use Rattle.sb_memory.specs.Physical.{Physical, HasSize, HoldsBytes, frame_of, frame_count}
use Rattle.sb_memory.specs.Reading.{with_bytes}
use Rattle.sb_memory.specs.Words.{word_at, put_word, put_words, clear_frame, zeros}
use Rattle.sb_memory.proofs.Words.{word_of_cleared, word_read_back, word_elsewhere, length_zeros}
use Rattle.sb_memory.proofs.Pages.{length_put_words, put_words_next, cleared_holds, word_holds}
use Rattle.std.specs.List.{Contains}
use Rattle.std.proofs.lemmas.List.Elements.{Contains-get_or}
use Rattle.sb_memory.specs.Changes.{SameOutside}
use Rattle.sb_memory.proofs.Changes.{same_outside_then, same_outside_cleared, same_outside_word, size_before_clear}
use Rattle.sb_walks.specs.Entry.{entry_in}
use Rattle.sb_root.specs.Tables.{IsPage}

-- the words before an index, and zeros from it on
abbrev pub first_words : ℕ → List ℕ → ℕ → ℕ
first_words count words index = if nat_lt index count then get_or words index 0 else 0

-- a frame that was cleared
pub cleared_page : (memory : Physical) (frame : ℕ) (words : List ℕ) → HasSize memory → frame < frame_count memory
    → IsPage (with_bytes memory (clear_frame memory.bytes frame)) frame (first_words 0 words)
cleared_page memory frame words size inside = record {
  entry = λ index within.
      let whole = size.bytes in
      let none : nat_lt index 0 ≡ false = grind (arith, common_steps) in
      rw none (word_of_cleared memory.bytes frame (entry_in frame index) (omega arith) (omega arith) (omega arith));
}

more_by : (memory : Physical) (frame count index : ℕ) (words : List ℕ) → HasSize memory → frame < frame_count memory
    → count < 512 → index < 512 → get_or words count 0 < 2 ^ 64
    → IsPage memory frame (first_words count words) → (here : Bool) → (index == count) ≡ here
    → word_at (put_word memory.bytes (entry_in frame count) (get_or words count 0)) (entry_in frame index)
    ≡ first_words (count + 1) words index
more_by memory frame count index words size inside small within fits page true e =
    let same = eqb-true index count e in
    let whole = size.bytes in
    let now : nat_lt index (count + 1) ≡ true = grind (arith, common_steps) in
    rw (now, same) (word_read_back memory.bytes (entry_in frame count) (get_or words count 0) (omega arith) fits)
more_by memory frame count index words size inside small within fits page false e =
    let other = eqb-false index count e in
    let test : nat_lt index (count + 1) ≡ nat_lt index count = grind (arith, common_steps) in
    rw test (word_elsewhere memory.bytes (entry_in frame count) (get_or words count 0) (entry_in frame index) (omega arith)
    (omega arith) (λ same. other (omega arith)) ∙ page.entry index within)

-- one more word is put
pub filled_more : (memory : Physical) (frame count : ℕ) (words : List ℕ) → HasSize memory → frame < frame_count memory
    → count < 512 → get_or words count 0 < 2 ^ 64
    → IsPage memory frame (first_words count words)
    → IsPage (with_bytes memory (put_word memory.bytes (entry_in frame count) (get_or words count 0))) frame
    (first_words (count + 1) words)
filled_more memory frame count words size inside small fits page = record {
  entry = λ index within. more_by memory frame count index words size inside small within fits page (index == count) refl;
}

-- ---- the steps of filling, with what changed

abbrev pub Filled : Physical → Physical → ℕ → ℕ → List ℕ → Type 0
Filled old memory frame count words =
    IsPage memory frame (first_words count words) × HasSize memory × SameOutside (frame ∷ []) old memory

pub put_first : (old new : Physical) (frame : ℕ) (words : List ℕ) → new ≡ with_bytes old (clear_frame old.bytes frame)
    → HasSize new → frame < frame_count old → Filled old new frame 0 words
put_first old new frame words is size inside =
    let size_before : HasSize old = size_before_clear old new frame is size in
    let page = cleared_page old frame words size_before inside in
    let same = same_outside_cleared (frame ∷ []) old frame (Contains-get_or (frame ∷ []) 0 0 (omega arith)) in (
      subst (λ (m : Physical). IsPage m frame (first_words 0 words)) (sym is) page,
      size,
      subst (SameOutside (frame ∷ []) old) (sym is) same,
    )

pub put_next : (old memory new : Physical) (frame count place : ℕ) (words : List ℕ) → place ≡ entry_in frame count
    → new ≡ with_bytes memory (put_word memory.bytes place (get_or words count 0)) → HasSize new
    → frame < frame_count old → Filled old memory frame count words → count < 512 → get_or words count 0 < 2 ^ 64
    → Filled old new frame (count + 1) words
put_next old memory new frame count place words here is size inside filled small fits =
    let written : new ≡ with_bytes memory (put_word memory.bytes (entry_in frame count) (get_or words count 0)) =
    is ∙ ap (λ (at : ℕ). with_bytes memory (put_word memory.bytes at (get_or words count 0))) here in
    let present = filled.2.present in
    let inside_now : frame < frame_count memory = rw present inside in
    let page = filled_more memory frame count words filled.1 inside_now small fits filled.0 in
    let there : frame_of (entry_in frame count) ≡ frame = omega arith in
    let same =
    same_outside_then (frame ∷ []) old memory _ filled.2
    (same_outside_word (frame ∷ []) memory (entry_in frame count) (get_or words count 0) (omega arith)
    (subst (Contains (frame ∷ [])) (sym there) (Contains-get_or (frame ∷ []) 0 0 (omega arith)))) in (
      subst (λ (m : Physical). IsPage m frame (first_words (count + 1) words)) (sym written) page,
      size,
      subst (SameOutside (frame ∷ []) old) (sym written) same,
    )

-- ---- the bytes of the page

-- zeros with the words before an index put at their start
abbrev pub first_bytes : ℕ → List ℕ → List ℕ
first_bytes count words = put_words (zeros 4096) 0 (take count words)

-- the same memory and the same page
holds_same : (memory new : Physical) (frame : ℕ) (page other : List ℕ) → new ≡ memory → other ≡ page
    → HoldsBytes memory frame page → HoldsBytes new frame other
holds_same memory new frame page other is same holds =
    subst (λ (m : Physical). HoldsBytes m frame other) (sym is) (subst (HoldsBytes memory frame) (sym same) holds)

pub bytes_first : (old new : Physical) (frame : ℕ) (words : List ℕ) → new ≡ with_bytes old (clear_frame old.bytes frame)
    → HasSize new
    → frame < frame_count old → HoldsBytes new frame (first_bytes 0 words)
bytes_first old new frame words is size inside =
    holds_same _ new frame (zeros 4096) (first_bytes 0 words) is refl
    (cleared_holds old frame (size_before_clear old new frame is size) inside)

pub bytes_next : (memory new : Physical) (frame count place : ℕ) (words : List ℕ) → place ≡ entry_in frame count
    → new ≡ with_bytes memory (put_word memory.bytes place (get_or words count 0)) → HasSize memory → frame < frame_count memory
    → count < length words → count < 512 → HoldsBytes memory frame (first_bytes count words)
    → HoldsBytes new frame (first_bytes (count + 1) words)
bytes_next memory new frame count place words here is size inside within small holds =
    let word = get_or words count 0 in
    let page = first_bytes count words in
    let written : new ≡ with_bytes memory (put_word memory.bytes (4096 * frame + 8 * count) word) =
    is ∙ ap (λ (at : ℕ). with_bytes memory (put_word memory.bytes at word)) here in
    let one_more : count + 1 ≡ suc count = omega arith in
    let start : 0 + 8 * count ≡ 8 * count = omega arith in
    let next : first_bytes (count + 1) words ≡ put_word page (8 * count) word =
    ap (λ (n : ℕ). first_bytes n words) one_more
    ∙ (put_words_next words (zeros 4096) 0 count within ∙ ap (λ (at : ℕ). put_word page at word) start) in
    let length_page : length page ≡ 4096 = length_put_words (take count words) (zeros 4096) 0 ∙ length_zeros 4096 in
    holds_same _ new frame _ (first_bytes (count + 1) words) written next
    (word_holds memory page frame (8 * count) word size inside (omega arith) length_page holds)

-- ---- a list that is made entry by entry

tabled_by : (entries : List ℕ) (count entry : ℕ) (f : ℕ → ℕ) (k : ℕ) → count < length entries → entry ≡ f count
    → ((k : ℕ) → k < count → get_or entries k 0 ≡ f k) → k < count + 1
    → (here : Bool) → (k == count) ≡ here → get_or (slice_set entries count entry) k 0 ≡ f k
tabled_by entries count entry f k within is before below true e =
    let same = eqb-true k count e in
    rw same (rw get_or-set_same is)
tabled_by entries count entry f k within is before below false e =
    let other = eqb-false k count e in
    rw get_or-set_other (before k (omega arith))

-- one more entry is made
pub tabled_more : (entries : List ℕ) (count entry : ℕ) (f : ℕ → ℕ) → count < length entries → entry ≡ f count
    → ((k : ℕ) → k < count → get_or entries k 0 ≡ f k)
    → (k : ℕ) → k < count + 1 → get_or (slice_set entries count entry) k 0 ≡ f k
tabled_more entries count entry f within is before k below =
    tabled_by entries count entry f k within is before below (k == count) refl

-- all entries are made
pub tabled_all : (entries : List ℕ) (f : ℕ → ℕ) → ((k : ℕ) → k < length entries → get_or entries k 0 ≡ f k)
    → ((k : ℕ) → length entries ≤ k → f k ≡ 0) → (k : ℕ) → get_or entries k 0 ≡ f k
tabled_all entries f made none k = elim (cases_lt k (length entries)) [
  | inl below ↦ made k below
  | inr above ↦ let beyond : get_or entries k 0 ≡ 0 = grind (arith, common_steps) in beyond ∙ sym (none k above)
]
