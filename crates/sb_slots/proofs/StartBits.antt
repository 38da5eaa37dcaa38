-- The bits of addresses.
use Rattle.std.proofs.Common.{◌≡◌, ℕ, ◌*◌, ◌%◌, ◌^◌, ◌<◌, ◌≤◌, Bool, true, false, ◌&&◌, ◌||◌, List, length, get_or, set, ap, sym, subst, ◌∙◌, arith, ⊎_elim}
use Rattle.std.specs.Prelude.{◌==◌, nat_le}
use Rattle.std.specs.Int.{bit_at, w64}
use Rattle.std.specs.Int.RustNames.{bit_or}
use Rattle.std.proofs.lemmas.Bool.{eq-eqb, ne_eqb, le-leb, lt-leb, and_left, and_right, or_left, cases_eq, cases_lt}
use Rattle.std.proofs.lemmas.List.{get_or-set_same, get_or-set_other, get_or_past}
use Rattle.std.proofs.lemmas.Nat.Bits.{bit_at-zero, bit_at_set_same, bit_at_set_other}
use Rattle.sb_slots.specs.StartBits.{word_index, bit_index, has_bit, SetsBit}

-- ---- a bit

-- an address before the text has none
pub before_text : (words : List ℕ) (at : ℕ) → at < 0x400000 → has_bit words at ≡ false
before_text words at before = and_left (nat_le 0x400000 at) _ (lt-leb 0x400000 at before)

-- the word of another address tells
in_text : (words : List ℕ) (at : ℕ) → 0x400000 ≤ at
    → has_bit words at ≡ (bit_at (get_or words (word_index at) 0) (bit_index at) == 1)
in_text words at low =
    ap (λ (test : Bool). test && (bit_at (get_or words (word_index at) 0) (bit_index at) == 1)) (le-leb 0x400000 at low)

-- an address behind the words has none
pub behind_words : (words : List ℕ) (at : ℕ) → length words ≤ word_index at → has_bit words at ≡ false
behind_words words at behind =
    let zero : bit_at (get_or words (word_index at) 0) (bit_index at) ≡ 0 =
    ap (λ (word : ℕ). bit_at word (bit_index at)) (get_or_past words (word_index at) 0 behind) ∙ bit_at-zero (bit_index at) in
    and_right (nat_le 0x400000 at) _ (ap (λ (bit : ℕ). bit == 1) zero)

-- where the word is as it was, the bit is
same_word : (old new : List ℕ) (at : ℕ) → get_or new (word_index at) 0 ≡ get_or old (word_index at) 0
    → has_bit new at ≡ has_bit old at
same_word old new at same = ap (λ (word : ℕ). nat_le 0x400000 at && (bit_at word (bit_index at) == 1)) same

-- ---- one more bit

-- the word of the address with its bit
abbrev pub word_with : List ℕ → ℕ → ℕ
word_with words at = bit_or (get_or words (word_index at) 0) (1 * 2 ^ bit_index at % 2 ^ 64)

abbrev pub words_with : List ℕ → ℕ → List ℕ
words_with words at = set words (word_index at) (word_with words at)

module _ (words : List ℕ) (at : ℕ) (low : 0x400000 ≤ at) (room : word_index at < length words) where
  bit_is_set : has_bit (words_with words at) at ≡ true
  bit_is_set =
      let read = get_or-set_same words (word_index at) (word_with words at) 0 room in
      let one : bit_at (get_or (words_with words at) (word_index at) 0) (bit_index at) ≡ 1 =
      ap (λ (word : ℕ). bit_at word (bit_index at)) read
      ∙ bit_at_set_same w64 (get_or words (word_index at) 0) (bit_index at) (omega arith) in
      in_text (words_with words at) at low ∙ eq-eqb _ 1 one

  -- another address has its bit in another word, or another bit of this one
  in_this_word : (other : ℕ) → 0x400000 ≤ other → (at ≡ other → ⊥) → word_index other ≡ word_index at
      → has_bit (words_with words at) other ≡ has_bit words other
  in_this_word other high differ same =
      let apart : bit_index other ≡ bit_index at → ⊥ = λ is. differ (omega (arith, is, same, low, high)) in
      let read : get_or (words_with words at) (word_index other) 0 ≡ word_with words at =
      ap (λ (index : ℕ). get_or (words_with words at) index 0) same
      ∙ get_or-set_same words (word_index at) (word_with words at) 0 room in
      let bit : bit_at (get_or (words_with words at) (word_index other) 0) (bit_index other)
      ≡ bit_at (get_or words (word_index other) 0) (bit_index other) =
      ap (λ (word : ℕ). bit_at word (bit_index other)) read
      ∙ bit_at_set_other w64 (get_or words (word_index at) 0) (bit_index at) (omega arith) (bit_index other) apart
      ∙ ap (λ (index : ℕ). bit_at (get_or words index 0) (bit_index other)) (sym same) in
      ap (λ (bit : ℕ). nat_le 0x400000 other && (bit == 1)) bit

  of_another : (other : ℕ) → (at ≡ other → ⊥) → has_bit (words_with words at) other ≡ has_bit words other
  of_another other differ =
      ⊎_elim
      (λ before. before_text (words_with words at) other before ∙ sym (before_text words other before))
      (λ high.
      ⊎_elim (λ same. in_this_word other high differ same)
      (λ apart. same_word words (words_with words at) other
      (get_or-set_other words (word_index at) (word_index other) (word_with words at) 0 apart))
      (cases_eq (word_index other) (word_index at)))
      (cases_lt other 0x400000)

  with_its_bit : SetsBit at words (words_with words at)
  with_its_bit other =
      ⊎_elim
      (λ same.
      subst (λ (one : ℕ). has_bit (words_with words at) one ≡ true) same bit_is_set
      ∙ sym (or_left (at == other) (has_bit words other) (eq-eqb at other same)))
      (λ differ. of_another other differ ∙ ap (λ (test : Bool). test || has_bit words other) (sym (ne_eqb at other differ)))
      (cases_eq at other)

-- the bit of the address is set in its word, and each other one is as it was
pub sets_bit : (words : List ℕ) (at word : ℕ) → 0x400000 ≤ at → word_index at < length words
    → word ≡ get_or words (word_index at) 0
    → SetsBit at words (set words (word_index at) (bit_or word (1 * 2 ^ bit_index at % 2 ^ 64)))
sets_bit words at word low room is =
    subst (λ (one : ℕ). SetsBit at words (set words (word_index at) (bit_or one (1 * 2 ^ bit_index at % 2 ^ 64))))
    (sym is) (with_its_bit words at low room)
