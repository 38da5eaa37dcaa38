-- Words that stand in a memory, put into one that is the same beside them, give that memory.
use Rattle.std.proofs.Common.{◌≡◌, ◌≢◌, ◌∙◌, sym, ap, subst, ℕ, zero, suc, ◌+◌, ◌*◌, ◌/◌, ◌%◌, ◌^◌, ◌<◌, ◌≤◌, ◌==◌, ◌||◌, ◌⊎◌, inl, inr, Bool, true, false, List, [], ◌∷◌, length, get_or, refl, arith}
use Rattle.std.specs.Prelude.{◌&&◌, nat_lt}
use Rattle.std.proofs.lemmas.Bool.{and_parts, cases_lt, cases_eq, ne_eqb}
use Rattle.std.proofs.lemmas.Bool.Decides.{Decides-eqb, nat_tests}
use Rattle.std.proofs.lemmas.List.{ext_get_or, get_or_past}
use Rattle.byteorder.specs.Endian.{little_from}
use Rattle.byteorder.specs.Numbers.{little_from-lt}
use Rattle.sb_memory.specs.Physical.{Physical, frame_count}
use Rattle.sb_memory.specs.Reading.{with_bytes}
use Rattle.sb_memory.specs.Words.{word_at, put_word}
use Rattle.sb_memory.proofs.Words.{byte_beside_word, length_put_word, word_read_back}
use Rattle.sb_state.proofs.Cases.{claim_if}
use Rattle.sb_trace.specs.Changes.{AreBytes}
use Rattle.sb_trace.proofs.DataBytes.{put_bytes}
use Rattle.sb_trace.proofs.PoolWords.{byte_below}
use Rattle.sb_machine.specs.declared.place.Place.{Place}
use Rattle.sb_machine.specs.declared.place.Place.TheVariants.{Word, Core}
use Rattle.sb_machine.specs.declared.place.Seen.{Seen}
use Rattle.sb_machine.specs.Applied.{is_word_place, with_seens, with_value, with_word}
use Rattle.sb_machine.specs.Seens.{ChangesWords, has_word_of}

-- ---- one word

-- equal numbers have equal bytes
same_bytes : (left right : List ℕ) → AreBytes left → AreBytes right → (from count : ℕ)
    → little_from from count left ≡ little_from from count right → (k : ℕ) → k < count
    → get_or left (from + k) 0 ≡ get_or right (from + k) 0
same_bytes left right small small' from zero same k below = absurd (omega arith)
same_bytes left right small small' from (suc count) same zero below =
    let here : from + 0 ≡ from = omega arith in
    let one = byte_below left from small in
    let other = byte_below right from small' in
    rw here (omega arith)
same_bytes left right small small' from (suc count) same (suc k) below =
    let one = byte_below left from small in
    let other = byte_below right from small' in
    let there : from + suc k ≡ suc from + k = omega arith in
    rw there (same_bytes left right small small' (suc from) count (omega arith) k (omega arith))

-- equal words have equal bytes
bytes_of_words : (left right : List ℕ) (at : ℕ) → AreBytes left → AreBytes right → word_at left at ≡ word_at right at
    → (k : ℕ) → k < 8 → get_or left (at + k) 0 ≡ get_or right (at + k) 0
unfolding word_at
bytes_of_words left right at small small' same k within = same_bytes left right small small' at 8 same k within

-- eight bytes make a word
word_small : (bytes : List ℕ) (at : ℕ) → AreBytes bytes → word_at bytes at < 2 ^ 64
unfolding word_at
word_small bytes at are = little_from-lt at 8 bytes (λ k. byte_below bytes k are)

-- a word that is put has the bytes that it has where it stands
word_is : (bytes new : List ℕ) (at word : ℕ) → AreBytes bytes → AreBytes new → at + 8 ≤ length bytes → word_at new at ≡ word
    → (k : ℕ) → k < 8 → get_or new (at + k) 0 ≡ get_or (put_word bytes at word) (at + k) 0
word_is bytes new at word are are' fits is k within =
    let small : word < 2 ^ 64 = subst (λ (n : ℕ). n < 2 ^ 64) is (word_small new at are') in
    let same : word_at new at ≡ word_at (put_word bytes at word) at = is ∙ sym (word_read_back bytes at word fits small) in
    bytes_of_words new (put_word bytes at word) at are' (put_bytes bytes at word are) same k within

-- ---- words one after another

same_memory : (one other : Physical) → one.bytes ≡ other.bytes → one.present ≡ other.present → one ≡ other
same_memory one other bytes present =
    ap (λ (list : List ℕ). record { bytes = list; present = one.present }) bytes
    ∙ ap (λ (list : List Bool). record { bytes = other.bytes; present = list }) present

or_false : (test other : Bool) → test ≡ false → other ≡ false → (test || other) ≡ false
or_false test other first second = cc

no_word : (at size : ℕ) → ((at % 8 == 0) && nat_lt at size) ≡ false → at % 8 ≡ 0 → size ≤ at
no_word at size none aligned = grind (arith, nat_tests)

-- bytes, as many as the frames have
pub record IsFull (memory : Physical) : Type 0 where
  pub are : AreBytes memory.bytes
  pub whole : length memory.bytes ≡ 4096 * frame_count memory

-- a place beside a word
apart : (at place : ℕ) → at % 8 ≡ 0 → at ≢ 8 * (place / 8) → (place < at) ⊎ (at + 8 ≤ place)
apart at place aligned other = elim (cases_lt place at) [
  | inl below ↦ inl below
  | inr above ↦ inr (omega arith)
]

module _ (new : Physical) (small : AreBytes new.bytes) where
  abbrev IsSameAt : List Seen → List ℕ → ℕ → Type 0
  IsSameAt seens bytes place = has_word_of (place / 8) seens ≡ false → get_or new.bytes place 0 ≡ get_or bytes place 0

  abbrev seen_at : ℕ → ℕ → Seen
  seen_at at word = record { place = Word at; value = word }

  -- behind a word that is put, a byte that no other one has
  put_same : (memory : Physical) (at word : ℕ) (others : List Seen) (place : ℕ) → IsFull memory
      → is_word_place memory at ≡ true → word_at new.bytes at ≡ word → IsSameAt (seen_at at word ∷ others) memory.bytes place
      → IsSameAt others (put_word memory.bytes at word) place
  put_same memory at word others place full stands is beside none =
      let tests = and_parts (at % 8 == 0) _ stands in
      let aligned : at % 8 ≡ 0 = (Decides-eqb (at % 8) 0).0 tests.0 in
      let inside : at < 4096 * frame_count memory = grind (arith, nat_tests, tests.1) in
      elim (cases_eq at (8 * (place / 8))) [
        | inl same ↦
            let whole = full.whole in
            let split : place ≡ at + place % 8 = omega arith in
            rw split (word_is memory.bytes new.bytes at word full.are small (omega arith) is (place % 8) (omega arith))
        | inr other ↦
            beside (or_false (at == 8 * (place / 8)) (has_word_of (place / 8) others) (ne_eqb at (8 * (place / 8)) other) none)
            ∙ sym (byte_beside_word memory.bytes at word place (apart at place aligned other))
      ]

  -- where no word stands, there is no byte of one
  pass_same : (memory : Physical) (at word : ℕ) (others : List Seen) (place : ℕ) → IsFull memory
      → length new.bytes ≡ length memory.bytes → is_word_place memory at ≡ false
      → IsSameAt (seen_at at word ∷ others) memory.bytes place → IsSameAt others memory.bytes place
  pass_same memory at word others place full size stands beside none = elim (cases_eq at (8 * (place / 8))) [
    | inl same ↦
        let whole = full.whole in
        let past : 4096 * frame_count memory ≤ at = no_word at (4096 * frame_count memory) stands (omega arith) in
        get_or_past new.bytes place 0 (omega arith) ∙ sym (get_or_past memory.bytes place 0 (omega arith))
    | inr other ↦
        beside (or_false (at == 8 * (place / 8)) (has_word_of (place / 8) others) (ne_eqb at (8 * (place / 8)) other) none)
  ]

  abbrev IsPut : List Seen → Physical → Type 0
  IsPut seens memory = IsFull memory → ChangesWords seens memory new → with_seens memory seens ≡ new

  put_word_at : (memory : Physical) (at word : ℕ) (others : List Seen)
      → ((next : Physical) → IsPut others next) → IsFull memory → ChangesWords (seen_at at word ∷ others) memory new
      → with_seens (with_word memory at word) others ≡ new
  put_word_at memory at word others put full changes =
      claim_if (λ (next : Physical). with_seens next others ≡ new) (is_word_place memory at) _ _
      (λ stands.
      let size = length_put_word memory.bytes at word in
      put (with_bytes memory (put_word memory.bytes at word))
      (record { are = put_bytes memory.bytes at word full.are; whole = size ∙ full.whole })
      (record {
        present = changes.present;
        size = changes.size ∙ sym size;
        written = changes.written.1;
        beside = λ place. put_same memory at word others place full stands changes.written.0 (changes.beside place);
      }))
      (λ none. put memory full (record {
        present = changes.present;
        size = changes.size;
        written = changes.written.1;
        beside = λ place. pass_same memory at word others place full changes.size none (changes.beside place);
      }))

  put_by : (place : Place) (value : ℕ) (others : List Seen) (memory : Physical) → ((next : Physical) → IsPut others next)
      → IsFull memory → ChangesWords (record { place = place; value = value } ∷ others) memory new
      → with_seens (with_value memory place value) others ≡ new
  put_by (Word at) word others memory put full changes = put_word_at memory at word others put full changes
  put_by (Core number) made others memory put full changes = absurd changes.written.0

  -- words that stand in a memory, put into one that is the same beside them, give that memory
  pub words_put : (seens : List Seen) (memory : Physical) → IsPut seens memory
  unfolding with_seens
  words_put [] memory full changes =
      same_memory memory new
      (ext_get_or 0 memory.bytes new.bytes (sym changes.size) (λ place inside. sym (changes.beside place refl)))
      (sym changes.present)
  words_put (seen ∷ others) memory full changes = put_by seen.place seen.value others memory (words_put others) full changes
