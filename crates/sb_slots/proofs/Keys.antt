-- What a binary search by a key finds, where the keys rise.
use Rattle.std.proofs.Common.{◌≡◌, ℕ, ◌+◌, ◌<◌, ◌≤◌, Bool, false, ◌&&◌, List, Result, Ok, Err, length, get_or, ap, sym, ◌∙◌, arith, ⊎_elim}
use Rattle.std.specs.Prelude.{map, ◌==◌}
use Rattle.std.specs.List.{list_any}
use Rattle.std.specs.List.Sorted.{IsStrictlyIncreasing, IsBinarySearchResult, IsNonDecreasingBy, IsSearchInRange}
use Rattle.std.specs.Ordering.{nat_cmp, ordering_index}
use Rattle.std.specs.Result.{is_ok}
use Rattle.std.proofs.lemmas.Bool.{cases_Bool, and_parts, and_from, eqb-true, eq-eqb, false_from_ne_true, true≢false}
use Rattle.std.proofs.lemmas.Bool.Decides.{nat_tests}
use Rattle.std.proofs.lemmas.Cmp.{ranked}
use Rattle.std.proofs.lemmas.List.{get_or-map, get_or_default, length-map}
use Rattle.std.proofs.lemmas.List.Folds.{Any-from_list_any, list_any_at}
use Rattle.std.proofs.lemmas.List.Sorted.{IsNonDecreasingBy-from_default}
use Rattle.sb_list.proofs.Search.{in_order}

-- an element with the key at a place of the list, or none
abbrev pub Found : {X : Type 0} → (X → ℕ) → List X → X → ℕ → Result ℕ ℕ → Type 0
Found key xs none at (Ok k) = (k < length xs) × (key (get_or xs k none) ≡ at)
Found key xs none at (Err k) = (j : ℕ) → j < length xs → key (get_or xs j none) ≡ at → ⊥

module _ {X : Type 0} (key : X → ℕ) (xs : List X) (none : X) (rising : IsStrictlyIncreasing (map key xs)) (at : ℕ) where
  -- keys of later elements are higher
  keys_rise : (i j : ℕ) → i ≤ j → j < length xs → key (get_or xs i none) ≤ key (get_or xs j none)
  keys_rise i j before within =
      let first = get_or-map key xs i none 0 (omega arith) in
      let second = get_or-map key xs j none 0 within in
      omega (arith, first, second, in_order (map key xs) rising i j before (omega (arith, length-map xs key)))

  keys_rise_next : (i : ℕ) → i + 1 < length xs → key (get_or xs i none) < key (get_or xs (i + 1) none)
  keys_rise_next i within =
      let first = get_or-map key xs i none 0 (omega arith) in
      let second = get_or-map key xs (i + 1) none 0 within in
      omega (arith, first, second, rising i (omega (arith, length-map xs key)))

  -- two elements with one key are at one place
  one_place : (i j : ℕ) → i < length xs → j < length xs → key (get_or xs i none) ≡ at → key (get_or xs j none) ≡ at → i ≡ j
  one_place i j first second is_first is_second =
      let lower : i < j → ⊥ = λ less.
      omega (arith, is_first, is_second, keys_rise_next i (omega (arith, less, second)), keys_rise (i + 1) j (omega (arith, less)) second) in
      let higher : j < i → ⊥ = λ less.
      omega (arith, is_first, is_second, keys_rise_next j (omega (arith, less, first)), keys_rise (j + 1) i (omega (arith, less)) first) in
      grind arith

  -- the comparisons rise along the list, as a binary search asks
  comparisons_rise : IsNonDecreasingBy (λ one. ordering_index (nat_cmp (key one) at)) xs
  comparisons_rise =
      IsNonDecreasingBy-from_default (λ one. ordering_index (nat_cmp (key one) at)) xs none (λ i j before within.
      let rise : key (get_or xs i none) ≤ key (get_or xs j none) = keys_rise i j before within in
      grind (arith, nat_tests))

  pub searched : (found : Result ℕ ℕ) → IsSearchInRange found (length xs)
      → IsBinarySearchResult (λ one. nat_cmp (key one) at) xs found → Found key xs none at found
  searched (Ok k) within equal = (within, ranked _ at _ (sym (equal none)))
  searched (Err k) within parted = λ j inside is.
      let lower : j < k → key (get_or xs j none) < at =
      λ less. ranked _ at _ (sym ((parted comparisons_rise).0 j none (omega arith) less)) in
      let higher : k ≤ j → at < key (get_or xs j none) =
      λ less. ranked _ at _ (sym ((parted comparisons_rise).1 j none less inside)) in
      grind arith

  -- whether there is one
  pub found_any : (found : Result ℕ ℕ) → Found key xs none at found → is_ok found ≡ list_any (λ one. key one == at) xs
  found_any (Ok k) (within, is) = sym (list_any_at (λ one. key one == at) xs k none within (eq-eqb _ at is))
  found_any (Err k) missing =
      sym (false_from_ne_true (list_any (λ one. key one == at) xs) (λ any.
      let (j, one, inside, read, test) = Any-from_list_any (λ one. key one == at) xs any in
      missing j inside (ap key (get_or_default xs j none one inside ∙ read) ∙ eqb-true (key one) at test)))

  -- whether there is one that passes a test: the one that is found does, or none is
  pub found_passes : (passes : X → Bool) (k : ℕ) → Found key xs none at (Ok k)
      → passes (get_or xs k none) ≡ list_any (λ one. key one == at && passes one) xs
  found_passes passes k (within, is) =
      ⊎_elim
      (λ yes. yes ∙ sym (list_any_at (λ one. key one == at && passes one) xs k none within
      (and_from (key (get_or xs k none) == at) (passes (get_or xs k none)) (eq-eqb _ at is) yes)))
      (λ no. no ∙ sym (false_from_ne_true (list_any (λ one. key one == at && passes one) xs) (λ any.
      let (j, one, inside, read, test) = Any-from_list_any (λ one. key one == at && passes one) xs any in
      let parts = and_parts (key one == at) (passes one) test in
      let here = get_or_default xs j none one inside ∙ read in
      let same = one_place j k inside within (ap key here ∙ eqb-true (key one) at parts.0) is in
      true≢false (sym parts.1 ∙ ap passes (sym here ∙ ap (λ (i : ℕ). get_or xs i none) same) ∙ no))))
      (cases_Bool (passes (get_or xs k none)))

  pub none_passes : (passes : X → Bool) (k : ℕ) → Found key xs none at (Err k)
      → false ≡ list_any (λ one. key one == at && passes one) xs
  none_passes passes k missing =
      sym (false_from_ne_true (list_any (λ one. key one == at && passes one) xs) (λ any.
      let (j, one, inside, read, test) = Any-from_list_any (λ one. key one == at && passes one) xs any in
      let parts = and_parts (key one == at) (passes one) test in
      missing j inside (ap key (get_or_default xs j none one inside ∙ read) ∙ eqb-true (key one) at parts.0)))
