-- What memchr finds are the places of the pattern, and the pattern overlaps no other.
use Rattle.std.proofs.Common.{◌≡◌, ℕ, zero, suc, ◌+◌, ◌<◌, ◌≤◌, List, [], ◌∷◌, Option, None, Some, length, get_or, sym, ap}
use Rattle.std.proofs.Common.{◌∙◌, arith, ⊎_elim, inl, inr, subst, ◌⊎◌, if◌then◌else◌}
use Rattle.std.proofs.lemmas.Bool.{cases_Bool, cond-true, cond-false, true≢false, cases_eq}
use Rattle.std.proofs.lemmas.List.{get_or_past}
use Rattle.std.proofs.lemmas.List.Elements.{Contains-append_cases, Contains-append_left, Contains-append_right}
use Rattle.std.proofs.lemmas.List.Elements.{Contains-get_or, Contains-push}
use Rattle.std.specs.List.{Contains}
use Rattle.std.specs.List.Sorted.{IsStrictlyIncreasing}
use native.Mathlib.Numerals.{unary_clauses}
use Rattle.memchr.specs.Find.{OccursAt, FindsNeedle, occurs_at, matches_from, matches}
use Rattle.memchr.proofs.lemmas.MatchLemmas.{OccursAt-true, occurs_at-true}
use Rattle.sb_scan.specs.Pattern.{pattern, HasPatternAt, IsFirstPattern, ArePatterns}

stands_there : (bytes : List ℕ) (place : ℕ) → OccursAt bytes pattern place → HasPatternAt bytes place
stands_there bytes place occurs =
    let here : place + 0 ≡ place = omega arith in (
      ap (λ k. get_or bytes k 0) (sym here) ∙ occurs.reads 0 (omega arith),
      occurs.reads 1 (omega arith),
      occurs.reads 2 (omega arith),
    )

byte_of : (bytes : List ℕ) (place : ℕ) → HasPatternAt bytes place → (k : ℕ) → k < 3
    → get_or bytes (place + k) 0 ≡ get_or pattern k 0
byte_of bytes place stands zero small =
    let here : place + 0 ≡ place = omega arith in
    ap (λ k. get_or bytes k 0) here ∙ stands.0
byte_of bytes place stands (suc zero) small = stands.1
byte_of bytes place stands (suc (suc zero)) small = stands.2
byte_of bytes place stands (suc (suc (suc k))) small = absurd (omega arith)

-- a byte that is not 0 is one of the list
pub read_within : (bytes : List ℕ) (place : ℕ) → 0 < get_or bytes place 0 → place < length bytes
read_within bytes place some =
    let past : length bytes ≤ place → get_or bytes place 0 ≡ 0 = get_or_past bytes place 0 in
    grind arith

occurs_there : (bytes : List ℕ) (place : ℕ) → HasPatternAt bytes place → OccursAt bytes pattern place
occurs_there bytes place stands =
    let within : place + 2 < length bytes = read_within bytes (place + 2) (omega (arith, stands.2)) in
    record {
      fits = omega arith;
      reads = byte_of bytes place stands;
    }

-- what the search for one answers
pub first_pattern : (bytes : List ℕ) (found : Option ℕ) → FindsNeedle bytes pattern 0 found → IsFirstPattern bytes found
first_pattern bytes None none = λ place stands.
    let occurs = occurs_there bytes place stands in
    none place (omega arith) (omega (arith, occurs.fits)) occurs
first_pattern bytes (Some place) first = (
  stands_there bytes place first.1,
  λ earlier before stands. first.0.before earlier (omega arith) before (occurs_there bytes earlier stands),
)

-- these are all places of the pattern from `low` on, in order
record ArePatternsFrom (bytes : List ℕ) (low : ℕ) (places : List ℕ) : Type 0 where
  rising : IsStrictlyIncreasing places
  only : (place : ℕ) → Contains places place → (low ≤ place) × HasPatternAt bytes place
  all : (place : ℕ) → low ≤ place → HasPatternAt bytes place → Contains places place

-- none is left past the end
none_left : (bytes : List ℕ) (low : ℕ) → length bytes ≤ low → ArePatternsFrom bytes low []
none_left bytes low past = record {
  rising = λ k less. absurd (omega arith);
  only = λ place held. absurd (omega (arith, held.1));
  all = λ place from stands. absurd (omega (arith, stands.0, get_or_past bytes place 0 (omega arith)));
}

only_one : (low place : ℕ) → Contains (low ∷ []) place → low ≡ place
only_one low place (zero, within, same) = same
only_one low place (suc k, within, same) = absurd (omega arith)

-- a place from here on is this one or a later one
here_or_later : (low place : ℕ) → low ≤ place → (place ≡ low) ⊎ (low + 1 ≤ place)
here_or_later low place from = ⊎_elim (λ same. inl same) (λ other. inr (omega arith)) (cases_eq place low)

-- none stands at a place, so all are behind it
none_here : (bytes : List ℕ) (low : ℕ) (places : List ℕ) → ¬ HasPatternAt bytes low → ArePatternsFrom bytes (low + 1) places
    → ArePatternsFrom bytes low places
none_here bytes low places not_here later = record {
  rising = later.rising;
  only = λ place held. (omega (arith, (later.only place held).0), (later.only place held).1);
  all = λ place from stands.
      ⊎_elim (λ same. absurd (not_here (subst (λ k. HasPatternAt bytes k) same stands))) (λ behind. later.all place behind stands)
      (here_or_later low place from);
}

-- the pattern does not overlap itself
pub apart : (bytes : List ℕ) (low place : ℕ) → HasPatternAt bytes low → HasPatternAt bytes place → low + 1 ≤ place
    → low + 1 + 2 ≤ place
apart bytes low place here there behind =
    let not_next : place ≡ low + 1 → ⊥ = λ same. omega (arith, sym there.0 ∙ ap (λ (k : ℕ). get_or bytes k 0) same ∙ here.1) in
    let not_last : place ≡ low + 2 → ⊥ = λ same. omega (arith, sym there.0 ∙ ap (λ (k : ℕ). get_or bytes k 0) same ∙ here.2) in
    omega arith

rising_behind : (low : ℕ) (places : List ℕ) → ((place : ℕ) → Contains places place → low < place)
    → IsStrictlyIncreasing places → IsStrictlyIncreasing (low ∷ places)
rising_behind low places above rising zero less = above (get_or places 0 0) (Contains-get_or places 0 0 (omega arith))
rising_behind low places above rising (suc k) less =
    let next : get_or places k 0 < get_or places (k + 1) 0 = rising k (omega arith) in
    simp unary_clauses (simp unary_clauses at next)

-- one stands at a place, and the others are behind all of it
one_here : (bytes : List ℕ) (low : ℕ) (places : List ℕ) → HasPatternAt bytes low → ArePatternsFrom bytes (low + 1 + 2) places
    → ArePatternsFrom bytes low (low ∷ places)
one_here bytes low places here later = record {
  rising = rising_behind low places (λ place held. omega (arith, (later.only place held).0)) later.rising;
  only = λ place held.
      ⊎_elim
      (λ first. let same : low ≡ place = only_one low place first in (omega arith, subst (λ k. HasPatternAt bytes k) same here))
      (λ other. (omega (arith, (later.only place other).0), (later.only place other).1))
      (Contains-append_cases (low ∷ []) places place held);
  all = λ place from stands.
      ⊎_elim
      (λ same. Contains-append_left (low ∷ []) places place
      (subst (λ k. Contains (low ∷ []) k) (sym same) (Contains-push [] low)))
      (λ behind. Contains-append_right (low ∷ []) places place
      (later.all place (apart bytes low place here stands behind) stands))
      (here_or_later low place from);
}

one_or_none : (bytes : List ℕ) (low : ℕ) (behind next : List ℕ) → ArePatternsFrom bytes (low + 1 + 2) behind
    → ArePatternsFrom bytes (low + 1) next
    → ArePatternsFrom bytes low (if occurs_at bytes pattern low then low ∷ behind else next)
one_or_none bytes low behind next further later =
    ⊎_elim
    (λ is. subst (λ places. ArePatternsFrom bytes low places) (sym (cond-true _ _ _ is))
    (one_here bytes low behind (stands_there bytes low (OccursAt-true bytes pattern low is)) further))
    (λ not_is.
    subst
    (λ places. ArePatternsFrom bytes low places)
    (sym (cond-false _ _ _ not_is))
    (none_here bytes low next (λ stands. true≢false (sym (occurs_at-true bytes pattern low (occurs_there bytes low stands))
    ∙ not_is)) later))
    (cases_Bool (occurs_at bytes pattern low))

-- the matches from a place on, after some places that are passed over
matched : (bytes : List ℕ) (skip low count : ℕ) → length bytes ≤ low + count
    → ArePatternsFrom bytes (low + skip) (matches_from bytes pattern skip low count)
unfolding matches_from
matched bytes skip low zero past = none_left bytes (low + skip) (omega arith)
matched bytes zero low (suc count) past =
    let place : low ≡ low + 0 = omega arith in
    subst
    (λ k. ArePatternsFrom bytes k (matches_from bytes pattern 0 low (suc count)))
    place
    (one_or_none bytes low _ _ (matched bytes 2 (low + 1) count (omega arith))
    (subst (λ k. ArePatternsFrom bytes k (matches_from bytes pattern 0 (low + 1) count)) (omega arith)
    (matched bytes 0 (low + 1) count (omega arith))))
matched bytes (suc skip) low (suc count) past =
    let place : low + 1 + skip ≡ low + suc skip = omega arith in
    subst (λ k. ArePatternsFrom bytes k (matches_from bytes pattern skip (low + 1) count)) place
    (matched bytes skip (low + 1) count (omega arith))

-- what the search for all gives
pub all_patterns : (bytes places : List ℕ) → places ≡ matches bytes pattern 0 → ArePatterns bytes places
all_patterns bytes places same =
    let found : ArePatternsFrom bytes 0 (matches bytes pattern 0) =
    subst (λ count. ArePatternsFrom bytes 0 (matches_from bytes pattern 0 0 count)) (omega arith)
    (matched bytes 0 0 (length bytes + 1) (omega arith)) in
    let whole : ArePatterns bytes (matches bytes pattern 0) = record {
      rising = found.rising;
      only = λ place held. (found.only place held).1;
      all = λ place stands. found.all place (omega arith) stands;
    } in
    subst (λ list. ArePatterns bytes list) (sym same) whole
