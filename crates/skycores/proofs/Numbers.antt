-- Numbers of a command that are not within their limits.
use Rattle.std.proofs.Common.{◌≡◌, ℕ, ◌<◌, ◌≤◌, ◌^◌, List, sym, ◌∙◌, subst, arith}
use Rattle.std.specs.Fmt.{decimal}
use Rattle.std.proofs.lemmas.Fmt.{decimal_injective}
use Rattle.skycores.specs.Words.{IsUpTo}

-- a word that is a number above the most is no number up to it
pub not_up_to : (most number : ℕ) (word : List ℕ) → most < 2 ^ 32 → number < 2 ^ 64 → word ≡ decimal number
    → ¬ IsUpTo most number → (other : ℕ) → IsUpTo most other → ¬ (word ≡ decimal other)
not_up_to most number word bound small is none other within is' =
    let same = decimal_injective number other small (omega (arith, within.1)) (sym is ∙ is') in
    none (subst (λ (one : ℕ). IsUpTo most one) (sym same) within)
