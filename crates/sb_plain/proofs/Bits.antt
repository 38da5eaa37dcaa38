-- The lowest bit of a word.
use Rattle.std.proofs.Common.{◌≡◌, ℕ, ◌/◌, ◌%◌, ◌^◌, ◌<◌, ◌≤◌, sym, ap, ◌∙◌, arith}
use Rattle.std.proofs.Math.Nat.{div-eq_of_lt}
use Rattle.std.proofs.lemmas.Nat.Bits.{bit_at-trailing_zeros}
use Rattle.std.specs.Int.{w64, trailing_zeros}

-- a number that is divided to more than 0 is not below the divisor
not_below : (word part : ℕ) → word / part % 2 ≡ 1 → part ≤ word
not_below word part odd =
    let none : word < part → ⊥ = λ below. let zeros = sym odd ∙ ap (λ (half : ℕ). half % 2) (div-eq_of_lt below) in omega arith in
    omega arith

-- its value is in the word
pub lowest_value : (word : ℕ) → 0 < word → word < 2 ^ 64 → 2 ^ trailing_zeros w64 word ≤ word
lowest_value word some fits = not_below word (2 ^ trailing_zeros w64 word) (bit_at-trailing_zeros w64 word some fits).1
