-- The bundles that tests build are bundles of the format.
use Rattle.std.proofs.Common.{ℕ, ◌≤◌, ◌<◌, ◌+◌, List, [], ◌∷◌, ◌++◌, length, take, get_or, slice_index, sym, subst, arith}
use Rattle.std.specs.List.{AllByRecursion}
use Rattle.std.proofs.lemmas.List.{take_more}
use Rattle.sb_bundle.specs.Limits.{IsImage}
use Rattle.sb_bundle.proofs.Numbers.{AllBelow-from}

-- an image whose fields are within their limits
pub image_within : (text initial : List ℕ) (heap_pages : ℕ) → 0 < length text → length text ≤ 2097152
    → length initial ≤ 2097152 → heap_pages ≤ 512
    → ((k : ℕ) → slice_index text k < 256) → ((k : ℕ) → slice_index initial k < 256)
    → IsImage (record { text = text; initial = initial; heap_pages = heap_pages })
image_within text initial heap_pages some short few pages bytes others = record {
  text = (omega arith, short);
  text_bytes = AllBelow-from 256 text bytes;
  initial = (omega arith, few);
  initial_bytes = AllBelow-from 256 initial others;
  heap_pages = (omega arith, pages);
}

-- what holds of each element holds of each with one more
pub all_and_one : {X : Type 0} (P : X → Type 0) (xs : List X) (x : X) → AllByRecursion P xs → P x
    → AllByRecursion P (xs ++ x ∷ [])
all_and_one P [] x all one = (one, tt)
all_and_one P (first ∷ xs) x all one = (all.0, all_and_one P xs x all.1 one)

-- the same for the first elements of a list
pub all_first : {X : Type 0} (P : X → Type 0) (xs : List X) (k : ℕ) (d : X) → k < length xs → AllByRecursion P (take k xs)
    → P (get_or xs k d) → AllByRecursion P (take (k + 1) xs)
all_first P xs k d within all one =
    subst (AllByRecursion P) (sym (take_more xs k d within)) (all_and_one P (take k xs) (get_or xs k d) all one)
