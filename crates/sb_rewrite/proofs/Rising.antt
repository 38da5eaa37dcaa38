-- Numbers that rise.
use Rattle.std.proofs.Common.{ℕ, zero, suc, ◌+◌, ◌<◌, ◌≤◌, List, [], ◌∷◌, get_or, arith}
use Rattle.std.specs.List.Sorted.{IsStrictlyIncreasing}
use native.Mathlib.Numerals.{unary_clauses}

-- each number is behind the one before, and the first is no less than this
unfoldable pub Rising : ℕ → List ℕ → Type 0
Rising low [] = Unit {0}
Rising low (first ∷ rest) = (low ≤ first) × Rising (first + 1) rest

pub rising_from : (low lower : ℕ) (numbers : List ℕ) → lower ≤ low → Rising low numbers → Rising lower numbers
unfolding Rising
rising_from low lower [] less rising = tt
rising_from low lower (first ∷ rest) less rising = (omega (arith, rising.0), rising.1)

pub increasing : (low : ℕ) (numbers : List ℕ) → Rising low numbers → IsStrictlyIncreasing numbers
unfolding Rising
increasing low [] rising k less = absurd (omega arith)
increasing low (first ∷ []) rising k less = absurd (omega arith)
increasing low (first ∷ second ∷ rest) rising zero less = omega (arith, rising.1.0)
increasing low (first ∷ second ∷ rest) rising (suc k) less =
    let next : get_or (second ∷ rest) k 0 < get_or (second ∷ rest) (k + 1) 0 =
    increasing (first + 1) (second ∷ rest) rising.1 k (omega arith) in
    simp unary_clauses (simp unary_clauses at next)
