-- The addresses whose bits are set, when one more is.
use Rattle.std.proofs.Common.{◌≡◌, ℕ, suc, ◌+◌, ◌*◌, ◌<◌, ◌≤◌, Bool, true, false, ◌&&◌, ◌||◌, List, [], ◌∷◌, ◌++◌, length, refl, ap, sym, ◌∙◌, arith, ⊎_elim}
use Rattle.std.specs.Prelude.{◌==◌, nat_lt}
use Rattle.std.specs.List.{AllByRecursion}
use Rattle.std.proofs.lemmas.Bool.{cases_lt, lt-ltb, le-ltb, eq-eqb, ne_eqb, and_left, or_left, false_from_ne_true, false≢true}
use Rattle.std.proofs.lemmas.List.Elements.{All-contains, All-from_recursion}
use Rattle.sb_list.specs.Lists.{is_listed}
use Rattle.sb_list.proofs.Membership.{listed_contained}
use Rattle.sb_slots.specs.StartBits.{word_index, has_bit, numbers_below, addresses_of}
use Rattle.sb_slots.proofs.StartBits.{behind_words}
use Rattle.sb_slots.proofs.Numbers.{same_below, none_above, with_last, listed_below}

-- the limit of the addresses that have bits
abbrev pub limit_of : List ℕ → ℕ
limit_of words = 0x400000 + 64 * length words

-- none has one from the limit on
beyond : (words : List ℕ) (at : ℕ) → limit_of words ≤ at → has_bit words at ≡ false
beyond words at behind = behind_words words at (let past : length words ≤ word_index at = omega arith in past)

-- a bit tells whether its address is listed
pub bit_tells : (words : List ℕ) (at : ℕ) → has_bit words at ≡ is_listed (addresses_of words) at
bit_tells words at =
    sym (
    listed_below (has_bit words) (limit_of words) at
    ∙ ⊎_elim
    (λ within. ap (λ (test : Bool). test && has_bit words at) (lt-ltb at (limit_of words) within))
    (λ past. and_left (nat_lt at (limit_of words)) (has_bit words at) (le-ltb at (limit_of words) past) ∙ sym (beyond words at past))
    (cases_lt at (limit_of words))
    )

-- where all listed addresses are below another one, none from it on has a bit
pub none_from : (words : List ℕ) (at : ℕ) → AllByRecursion (λ start. start < at) (addresses_of words) → (n : ℕ) → at ≤ n
    → has_bit words n ≡ false
none_from words at above n from =
    false_from_ne_true (has_bit words n) (λ set.
    let all = All-from_recursion (λ start. start < at) (addresses_of words) above in
    let held = listed_contained (addresses_of words) n (sym (bit_tells words n) ∙ set) in
    let below : n < at = All-contains (λ start. start < at) (addresses_of words) n all held in
    omega (arith, below, from))

-- one more address above the others comes behind them, when its bit is set
pub one_more : (words new : List ℕ) (at : ℕ) → AllByRecursion (λ start. start < at) (addresses_of words)
    → ((n : ℕ) → has_bit new n ≡ (at == n) || has_bit words n) → addresses_of new ≡ addresses_of words ++ at ∷ []
one_more words new at above sets =
    let none = none_from words at above in
    let set : has_bit new at ≡ true = sets at ∙ or_left (at == at) (has_bit words at) (eq-eqb at at refl) in
    let within : at < limit_of new =
    ⊎_elim (λ below. below) (λ past. absurd (false≢true (sym (beyond new at past) ∙ set))) (cases_lt at (limit_of new)) in
    let past_at = none_above (has_bit new) (suc at) (limit_of new) (omega (arith, within)) (λ n from below.
    sets n ∙ ap (λ (test : Bool). test || has_bit words n) (ne_eqb at n (λ is. omega (arith, is, from))) ∙ none n (omega (arith, from)))
    in
    let before = same_below (has_bit new) (has_bit words) at (λ n below.
    sets n ∙ ap (λ (test : Bool). test || has_bit words n) (ne_eqb at n (λ is. omega (arith, is, below)))) in
    past_at
    ∙ with_last (has_bit new) at set
    ∙ ap (λ (numbers : List ℕ). numbers ++ at ∷ []) (before ∙ old words at none)
  where
    old : (words : List ℕ) (at : ℕ) → ((n : ℕ) → at ≤ n → has_bit words n ≡ false)
        → numbers_below (has_bit words) at ≡ addresses_of words
    old words at none =
        ⊎_elim
        (λ below. sym (none_above (has_bit words) at (limit_of words) (omega (arith, below)) (λ n from within. none n from)))
        (λ past. none_above (has_bit words) (limit_of words) at past (λ n from within. beyond words n from))
        (cases_lt at (limit_of words))

-- no words give none
empty : (limit : ℕ) → numbers_below (has_bit []) limit ≡ []
unfolding numbers_below
empty limit = none_above (has_bit []) 0 limit (omega arith) (λ n from below. behind_words [] n (omega arith))

pub no_addresses : addresses_of [] ≡ []
no_addresses = empty (limit_of [])
