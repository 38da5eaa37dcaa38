-- What a binary search finds among moves, by their starts or by their mains.
use Rattle.std.proofs.Common.{◌≡◌, ◌↔◌, ℕ, ◌<◌, ◌≤◌, IsTrue, List, Option, Some, None, Result, Ok, Err, length, get_or, refl, ap, sym, ◌∙◌, arith, inr, ⊎_elim}
use Rattle.std.specs.Prelude.{map}
use Rattle.std.specs.List.{Contains}
use Rattle.std.specs.List.Sorted.{IsStrictlyIncreasing, IsBinarySearchResult, IsNonDecreasingBy, IsSearchInRange}
use Rattle.std.specs.Ordering.{nat_cmp, ordering_index}
use Rattle.std.specs.Result.{is_ok}
use Rattle.std.proofs.lemmas.Bool.{false≢true}
use Rattle.std.proofs.lemmas.Bool.Decides.{nat_tests}
use Rattle.std.proofs.lemmas.Cmp.{ranked}
use Rattle.std.proofs.lemmas.List.{get_or-map, get_or_default, length-map}
use Rattle.std.proofs.lemmas.List.Sorted.{IsNonDecreasingBy-from_default}
use Rattle.sb_rewrite.specs.declared.edit.Move.{Move}
use Rattle.sb_rewrite.specs.RewrittenText.{RewrittenText, IsInPlace, IsMovedTo, IsOriginal}
use Rattle.sb_list.proofs.Search.{in_order}

abbrev pub nowhere : Move
nowhere = record { start = 0; main = 0 }

abbrev pub move_at : List Move → ℕ → Move
move_at moves k = get_or moves k nowhere

-- a move at a place of the list
abbrev pub Found : (Move → ℕ) → List Move → ℕ → Result ℕ ℕ → Type 0
Found key moves x (Ok k) = (k < length moves) × (key (move_at moves k) ≡ x)
Found key moves x (Err k) = (j : ℕ) → j < length moves → key (move_at moves j) ≡ x → ⊥

module _ (key : Move → ℕ) (moves : List Move) (rising : IsStrictlyIncreasing (map key moves)) (x : ℕ) where
  keys_rise : (i j : ℕ) → i ≤ j → j < length moves → key (move_at moves i) ≤ key (move_at moves j)
  keys_rise i j before within =
      let first = get_or-map key moves i nowhere 0 (omega arith) in
      let second = get_or-map key moves j nowhere 0 within in
      omega (arith, first, second, in_order (map key moves) rising i j before (omega (arith, length-map moves key)))

  -- the comparisons rise along the list, as a binary search asks
  comparisons_rise : IsNonDecreasingBy (λ one. ordering_index (nat_cmp (key one) x)) moves
  comparisons_rise =
      IsNonDecreasingBy-from_default (λ one. ordering_index (nat_cmp (key one) x)) moves nowhere (λ i j before within.
      let rise : key (move_at moves i) ≤ key (move_at moves j) = keys_rise i j before within in
      grind (arith, nat_tests))

  pub searched : (found : Result ℕ ℕ) → IsSearchInRange found (length moves)
      → IsBinarySearchResult (λ one. nat_cmp (key one) x) moves found → Found key moves x found
  searched (Ok k) within equal = (within, ranked _ x _ (sym (equal nowhere)))
  searched (Err k) within parted = λ j inside is.
      let lower : j < k → key (move_at moves j) < x =
      λ less. ranked _ x _ (sym ((parted comparisons_rise).0 j nowhere (omega arith) less)) in
      let higher : k ≤ j → x < key (move_at moves j) =
      λ less. ranked _ x _ (sym ((parted comparisons_rise).1 j nowhere less inside)) in
      grind arith

abbrev pub start_of : Move → ℕ
start_of one = one.start

abbrev pub main_of : Move → ℕ
main_of one = one.main

-- a move of the list
among : (moves : List Move) (k start main : ℕ) → k < length moves → (move_at moves k).start ≡ start
    → (move_at moves k).main ≡ main → Contains moves (record { start = start; main = main })
among moves k start main within is_start is_main =
    let one : Move = record { start = start; main = main } in
    (k, within, get_or_default moves k one nowhere within ∙ (λ i. record { start = is_start i; main = is_main i }))

-- and where it stands in the list
pub place_of : (moves : List Move) (one : Move) (held : Contains moves one) → move_at moves held.0 ≡ one
place_of moves one held = get_or_default moves held.0 nowhere one held.1 ∙ held.2

pub found_moved : (moves : List Move) (at : ℕ) (found : Result ℕ ℕ) → Found start_of moves at found
    → IsTrue (is_ok found) ↔ ((main : ℕ) × Contains moves (record { start = at; main = main }))
found_moved moves at (Ok k) (within, is) =
    (λ _. ((move_at moves k).main, among moves k at (move_at moves k).main within is refl), λ _. refl)
found_moved moves at (Err k) none = (
  λ is. absurd (false≢true is),
  λ moved. absurd (none moved.1.0 moved.1.1 (ap start_of (place_of moves (record { start = at; main = moved.0 }) moved.1))),
)

pub found_main : (moves : List Move) (at k : ℕ) (one : Move) → one ≡ move_at moves k → Found main_of moves at (Ok k)
    → Contains moves (record { start = one.start; main = at })
found_main moves at k one read (within, is) = among moves k one.start at within (ap start_of (sym read)) is

pub no_main : (moves : List Move) (at k : ℕ) → Found main_of moves at (Err k) → (start : ℕ)
    → ¬ Contains moves (record { start = start; main = at })
no_main moves at k none start held = none held.0 held.1 (ap main_of (place_of moves (record { start = start; main = at }) held))

-- what is not in place is what was moved there
pub moved_original : (made : RewrittenText) (at : ℕ) (found : Option ℕ) → ¬ IsInPlace made at → IsMovedTo made at found
    → IsOriginal made at found
moved_original made at (Some start) not_here main = inr main
moved_original made at None not_here none = λ start runs. ⊎_elim (λ here. not_here here.1) (λ main. none start main) runs
