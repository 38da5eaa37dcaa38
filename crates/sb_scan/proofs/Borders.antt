-- Where the pattern stands in bytes that have others before and after them.
use Rattle.std.proofs.Common.{◌≡◌, ◌∙◌, ℕ, ◌+◌, ◌-◌, ◌<◌, ◌≤◌, List, ◌++◌, length, get_or, None, sym, ap, subst, arith}
use Rattle.std.proofs.Common.{append_assoc}
use Rattle.std.proofs.lemmas.List.{get_or_append_left, get_or-append-add, length-append}
use Rattle.sb_scan.specs.Pattern.{HasPatternAt, HasFirstPatternAt, HasNoPattern, IsSpan, SpansBy}
use Rattle.sb_scan.proofs.Places.{read_within, apart}

-- ---- a place in a part

-- the pattern ends inside the bytes
ends_within : (bytes : List ℕ) (place : ℕ) → HasPatternAt bytes place → place + 2 < length bytes
ends_within bytes place stands = read_within bytes (place + 2) (omega (arith, stands.2))

in_front : (bytes others : List ℕ) (place : ℕ) → place + 2 < length bytes → HasPatternAt (bytes ++ others) place
    → HasPatternAt bytes place
in_front bytes others place within stands = (
  sym (get_or_append_left bytes others 0 place (omega arith)) ∙ stands.0,
  sym (get_or_append_left bytes others 0 (place + 1) (omega arith)) ∙ stands.1,
  sym (get_or_append_left bytes others 0 (place + 2) within) ∙ stands.2,
)

with_others : (bytes others : List ℕ) (place : ℕ) → HasPatternAt bytes place → HasPatternAt (bytes ++ others) place
with_others bytes others place stands =
    let within = ends_within bytes place stands in (
      get_or_append_left bytes others 0 place (omega arith) ∙ stands.0,
      get_or_append_left bytes others 0 (place + 1) (omega arith) ∙ stands.1,
      get_or_append_left bytes others 0 (place + 2) within ∙ stands.2,
    )

-- a byte behind others
one_behind : (others bytes : List ℕ) (place count : ℕ)
    → get_or (others ++ bytes) (length others + place + count) 0 ≡ get_or bytes (place + count) 0
one_behind others bytes place count =
    let moved : length others + place + count ≡ length others + (place + count) = omega arith in
    ap (λ (k : ℕ). get_or (others ++ bytes) k 0) moved ∙ get_or-append-add others bytes (place + count) 0

behind_others : (others bytes : List ℕ) (place : ℕ) → HasPatternAt bytes place
    → HasPatternAt (others ++ bytes) (length others + place)
behind_others others bytes place stands = (
  get_or-append-add others bytes place 0 ∙ stands.0,
  one_behind others bytes place 1 ∙ stands.1,
  one_behind others bytes place 2 ∙ stands.2,
)

from_behind : (others bytes : List ℕ) (place : ℕ) → HasPatternAt (others ++ bytes) (length others + place)
    → HasPatternAt bytes place
from_behind others bytes place stands = (
  sym (get_or-append-add others bytes place 0) ∙ stands.0,
  sym (one_behind others bytes place 1) ∙ stands.1,
  sym (one_behind others bytes place 2) ∙ stands.2,
)

at_place : (bytes : List ℕ) (place other : ℕ) → place ≡ other → HasPatternAt bytes place → HasPatternAt bytes other
at_place bytes place other same stands = subst (λ (k : ℕ). HasPatternAt bytes k) same stands

-- ---- a place in the whole

-- a place before the bytes is one across their prefix
spans_prefix : (before bytes behind : List ℕ) (place : ℕ) → length before ≤ 2 → 2 ≤ length bytes → place < length before
    → HasPatternAt (before ++ (bytes ++ behind)) place → SpansBy before bytes (length before - place)
spans_prefix before bytes behind place few some early stands =
    let all : (before ++ bytes) ++ behind ≡ before ++ (bytes ++ behind) = append_assoc before bytes behind in
    let size = length-append before bytes in
    let inside : place + 2 < length (before ++ bytes) = omega arith in
    let there =
    in_front (before ++ bytes) behind place inside
    (subst (λ (whole : List ℕ). HasPatternAt whole place) (sym all) stands) in
    record {
      some = omega arith;
      ends_behind = omega arith;
      within = omega arith;
      stands = at_place (before ++ bytes) place (length before - (length before - place)) (omega arith) there;
    }

-- a place in the bytes that does not end in them is one across their end
spans_end : (bytes behind : List ℕ) (place : ℕ) → place < length bytes → length bytes ≤ place + 2
    → HasPatternAt (bytes ++ behind) place
    → SpansBy bytes behind (length bytes - place)
spans_end bytes behind place inside late stands = record {
  some = omega arith;
  ends_behind = omega arith;
  within = omega arith;
  stands = at_place (bytes ++ behind) place (length bytes - (length bytes - place)) (omega arith) stands;
}

-- where the pattern does not stand across the prefix, each place is in the bytes or behind them
past_prefix : (before bytes behind : List ℕ) (place : ℕ) → length before ≤ 2 → 2 ≤ length bytes → IsSpan before bytes None
    → HasPatternAt (before ++ (bytes ++ behind)) place
    → (length before ≤ place) × HasPatternAt (bytes ++ behind) (place - length before)
past_prefix before bytes behind place few some none stands =
    let not_early : place < length before → ⊥ =
    λ early. none (length before - place) (spans_prefix before bytes behind place few some early stands) in
    let late : length before ≤ place = omega arith in (
      late,
      from_behind before (bytes ++ behind) (place - length before)
          (at_place (before ++ (bytes ++ behind)) place (length before + (place - length before)) (omega arith) stands),
    )

-- ---- the first place

-- across the prefix
pub prefix_first : (before bytes behind : List ℕ) (count : ℕ) → length before ≤ 2 → 2 ≤ length bytes → SpansBy before bytes count
    → HasFirstPatternAt (before ++ (bytes ++ behind)) (length before - count)
prefix_first before bytes behind count few some spans =
    let all : (before ++ bytes) ++ behind ≡ before ++ (bytes ++ behind) = append_assoc before bytes behind in
    let stands =
    subst (λ (whole : List ℕ). HasPatternAt whole (length before - count)) all
    (with_others (before ++ bytes) behind (length before - count) spans.stands) in (
      stands,
      λ earlier early there.
          let far = apart (before ++ (bytes ++ behind)) earlier (length before - count) there stands (omega arith) in omega arith,
    )

-- in the bytes
pub inside_first : (before bytes behind : List ℕ) (place : ℕ) → length before ≤ 2 → 2 ≤ length bytes → IsSpan before bytes None
    → HasFirstPatternAt bytes place → HasFirstPatternAt (before ++ (bytes ++ behind)) (length before + place)
inside_first before bytes behind place few some none first =
    let end = ends_within bytes place first.0 in (
      behind_others before (bytes ++ behind) place (with_others bytes behind place first.0),
      λ earlier early there.
          let past = past_prefix before bytes behind earlier few some none there in
          first.1 (earlier - length before) (omega (arith, past.0))
          (in_front bytes behind (earlier - length before) (omega (arith, past.0)) past.1),
    )

-- across the end
pub end_first : (before bytes behind : List ℕ) (count : ℕ) → length before ≤ 2 → 2 ≤ length bytes → IsSpan before bytes None
    → HasNoPattern bytes
    → SpansBy bytes behind count → HasFirstPatternAt (before ++ (bytes ++ behind)) (length before + length bytes - count)
end_first before bytes behind count few some none nowhere spans =
    let within = spans.within in
    let place : length before + (length bytes - count) ≡ length before + length bytes - count = omega arith in (
      at_place (before ++ (bytes ++ behind)) _ _ place
          (behind_others before (bytes ++ behind) (length bytes - count) spans.stands),
      λ earlier early there.
          let past = past_prefix before bytes behind earlier few some none there in
          let sooner : earlier - length before < length bytes - count = omega (arith, past.0) in
          let far = apart (bytes ++ behind) (earlier - length before) (length bytes - count) past.1 spans.stands (omega arith) in
          nowhere (earlier - length before) (in_front bytes behind (earlier - length before) (omega arith) past.1),
    )

-- where it ends in the bytes or not
early_or_late : (bytes behind : List ℕ) (place : ℕ) → length behind ≤ 2 → HasNoPattern bytes → IsSpan bytes behind None
    → ¬ HasPatternAt (bytes ++ behind) place
early_or_late bytes behind place few nowhere none stands =
    let end = ends_within (bytes ++ behind) place stands in
    let size = length-append bytes behind in
    let inside : place < length bytes = omega arith in
    let not_early : place + 2 < length bytes → ⊥ = λ early. nowhere place (in_front bytes behind place early stands) in
    none (length bytes - place) (spans_end bytes behind place inside (omega arith) stands)

-- nowhere
pub none_first : (before bytes behind : List ℕ) → length before ≤ 2 → 2 ≤ length bytes → length behind ≤ 2
    → IsSpan before bytes None → HasNoPattern bytes
    → IsSpan bytes behind None → HasNoPattern (before ++ (bytes ++ behind))
none_first before bytes behind few some few_behind prefix nowhere end = λ place stands.
    let past = past_prefix before bytes behind place few some prefix stands in
    early_or_late bytes behind (place - length before) few_behind nowhere end past.1
