-- What a binary search finds among starts.
use Rattle.std.proofs.Common.{◌≡◌, ◌↔◌, ℕ, zero, suc, ◌+◌, ◌<◌, ◌≤◌, IsTrue, List, Result, Ok, Err, length, get_or, refl, ap, ◌∙◌, arith, ⊎_elim}
use Rattle.std.proofs.lemmas.Bool.{false≢true, cases_eq}
use Rattle.std.proofs.lemmas.List.{get_or_default}
use Rattle.std.proofs.lemmas.List.Sorted.{searched}
use Rattle.std.specs.List.{Contains}
use Rattle.std.specs.List.Sorted.{IsStrictlyIncreasing, IsBinarySearchResult}
use Rattle.std.specs.Ordering.{nat_cmp}
use Rattle.std.specs.Result.{is_ok}

-- an earlier start is no greater
pub in_order : (starts : List ℕ) → IsStrictlyIncreasing starts → (i j : ℕ) → i ≤ j → j < length starts
    → get_or starts i 0 ≤ get_or starts j 0
in_order starts rising i zero before within =
    let same : i ≡ 0 = omega arith in
    omega (arith, ap (λ (k : ℕ). get_or starts k 0) same)
in_order starts rising i (suc j) before within =
    let next : get_or starts j 0 < get_or starts (j + 1) 0 = rising j (omega arith) in
    let again : get_or starts (j + 1) 0 ≡ get_or starts (suc j) 0 = ap (λ (k : ℕ). get_or starts k 0) (omega arith) in
    ⊎_elim
    (λ same. omega (arith, ap (λ (k : ℕ). get_or starts k 0) same))
    (λ other. omega (arith, in_order starts rising i j (omega arith) (omega arith)))
    (cases_eq i (suc j))

pub found_start : (starts : List ℕ) (at : ℕ) (found : Result ℕ ℕ) → IsStrictlyIncreasing starts
    → IsBinarySearchResult (λ y. nat_cmp y at) starts found → IsTrue (is_ok found) ↔ Contains starts at
found_start starts at (Ok index) rising answer =
    let here = searched starts at (Ok index) answer (in_order starts rising) in
    (λ is. (index, here.0, get_or_default starts index at 0 here.0 ∙ here.1), λ held. refl)
found_start starts at (Err index) rising answer =
    let gap = searched starts at (Err index) answer (in_order starts rising) in (
      λ is. absurd (false≢true is),
      λ held.
          let within : held.0 < length starts = held.1 in
          let here : get_or starts held.0 0 ≡ at = get_or_default starts held.0 0 at within ∙ held.2 in
          let lower : held.0 < index → get_or starts held.0 0 < at = gap.1 held.0 in
          let higher : index ≤ held.0 → at < get_or starts held.0 0 = λ behind. gap.2 held.0 behind within in
          grind arith,
    )
