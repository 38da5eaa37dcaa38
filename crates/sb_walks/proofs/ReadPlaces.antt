-- Where a walk reads: first at one place, and then behind what it read there.
use Rattle.std.proofs.Common.{◌≡◌, ℕ, zero, suc, ◌⊎◌, List, [], ◌∷◌, Result, Ok, Err, refl, inl, inr, arith}
use Rattle.std.specs.List.{Contains}
use Rattle.sb_walks.specs.Reads.{where_ok}

-- a place of a list is its first, or among the others
pub contains_first : (first place : ℕ) (places : List ℕ) → Contains (first ∷ places) place
    → (first ≡ place) ⊎ Contains places place
contains_first first place places (zero, within, is) = inl is
contains_first first place places (suc k, within, is) = inr (k, omega arith, is)

pub contains_none : (place : ℕ) → Contains [] place → ⊥
contains_none place (k, within, is) = omega arith

-- what is read only behind an answer is read behind that answer
pub contains_where : {Answer Stop : Type 0} (answer : Result Answer Stop) (reads : Answer → List ℕ) (place : ℕ)
    → Contains (where_ok answer reads) place → (next : Answer) × (answer ≡ Ok next) × Contains (reads next) place
contains_where (Ok next) reads place among = (next, refl, among)
contains_where (Err stop) reads place among = absurd (contains_none place among)
