-- A number that holds the pattern, and the same 100 less.
use Rattle.std.proofs.Common.{◌≡◌, ℕ, zero, suc, ◌+◌, ◌-◌, ◌/◌, ◌%◌, ◌<◌, ◌≤◌, true, false, [], ◌∷◌, sym, ap, ◌∙◌, arith, inl, inr, ◌⊎◌, FitsSigned, ℤ, pos, negsuc, ◌-ℤ◌, subst, ltb}
use Rattle.std.specs.Int.{w32, cast_unsigned, cast_signed}
use Rattle.std.proofs.lemmas.Bool.{false_from_ne_true, cond-true, cond-false, cond_both, le-ltb}
use Rattle.std.proofs.lemmas.List.{get_or_past}
use Rattle.std.proofs.Math.Facts.{to_z-of_z}
use Rattle.sb_insn.specs.Spelling.{number}
use Rattle.sb_scan.specs.Pattern.{HasPatternAt}
use Rattle.sb_forms.specs.Holding.{holds_pattern}
use Rattle.sb_forms.specs.Pieces.{lowered_displacement}
use Rattle.sb_forms.proofs.Held.{holds_at}

-- the pattern is the first three or the last three of four bytes
abbrev pub IsInFour : ℕ → ℕ → ℕ → ℕ → Type 0
IsInFour a b c d = ((a ≡ 0x0F) × (b ≡ 0x01) × (c ≡ 0xD4)) ⊎ ((b ≡ 0x0F) × (c ≡ 0x01) × (d ≡ 0xD4))

four_at : (a b c d place : ℕ) → HasPatternAt (a ∷ b ∷ c ∷ d ∷ []) place → IsInFour a b c d
four_at a b c d zero stands = inl stands
four_at a b c d (suc zero) stands = inr stands
four_at a b c d (suc (suc place)) stands =
    absurd (omega (arith, stands.2, get_or_past (a ∷ b ∷ c ∷ d ∷ []) (suc (suc place) + 2) 0 (omega arith)))

pub in_four : (a b c d : ℕ) → holds_pattern (a ∷ b ∷ c ∷ d ∷ []) ≡ true → IsInFour a b c d
in_four a b c d e = let found = holds_at (a ∷ b ∷ c ∷ d ∷ []) e in four_at a b c d found.0 found.1

-- the second byte of a number
abbrev second : ℤ → ℕ
second value = cast_unsigned w32 value / 256 % 256

-- the second byte of a number that holds the pattern is not 0
second_byte : (a b c d : ℕ) → IsInFour a b c d → 0 < b
second_byte a b c d (inl first) = omega (arith, first.1)
second_byte a b c d (inr last) = omega (arith, last.0)

pub second_some : (value : ℤ) → holds_pattern (number w32 value) ≡ true → 0 < second value
second_some value e =
    second_byte _ _ _ _
    (in_four (cast_unsigned w32 value % 256) (second value) (cast_unsigned w32 value / 65536 % 256)
    (cast_unsigned w32 value / 16777216 % 256) e)

pub less_256 : (n : ℕ) → 256 ≤ n → pos n -ℤ pos 0x100 ≡ pos (n - 256)
less_256 n enough = cond-false (ltb n 256) (negsuc (256 - suc n)) (pos (n - 256)) (le-ltb n 256 enough)

fits_lowered : (value : ℤ) → FitsSigned w32 value → 0 < second value → FitsSigned w32 (value -ℤ pos 0x100)
fits_lowered (pos n) fits some =
    let less : FitsSigned w32 (pos (n - 256)) = record { sfits = omega (arith, fits.sfits) } in
    subst (λ z. FitsSigned w32 z) (sym (less_256 n (omega (arith, some)))) less
fits_lowered (negsuc n) fits some = record { sfits = omega (arith, fits.sfits, some) }

-- 100 less fits
pub lowered_fits : (value : ℤ) → FitsSigned w32 value → holds_pattern (number w32 value) ≡ true
    → FitsSigned w32 (value -ℤ pos 0x100)
lowered_fits value fits e = fits_lowered value fits (second_some value e)

-- only the second byte changes
lowered_bits : (value : ℤ) → FitsSigned w32 value → 0 < second value
    → cast_unsigned w32 (value -ℤ pos 0x100) + 0x100 ≡ cast_unsigned w32 value
lowered_bits (pos n) fits some =
    let enough : 256 ≤ n = omega (arith, some) in
    ap (λ z. cast_unsigned w32 z + 0x100) (less_256 n enough) ∙ omega (arith, enough)
lowered_bits (negsuc n) fits some = omega (arith, fits.sfits, some)

lowered_bytes : (value : ℤ) → FitsSigned w32 value → 0 < second value
    → number w32 (value -ℤ pos 0x100)
    ≡ cast_unsigned w32 value % 256 ∷ (second value - 1) ∷ cast_unsigned w32 value / 65536 % 256 ∷ cast_unsigned w32 value /
    16777216 % 256 ∷ []
lowered_bytes value fits some =
    let bits = lowered_bits value fits some in
    let a : cast_unsigned w32 (value -ℤ pos 0x100) % 256 ≡ cast_unsigned w32 value % 256 = omega (arith, bits) in
    let b : cast_unsigned w32 (value -ℤ pos 0x100) / 256 % 256 ≡ second value - 1 = omega (arith, bits, some) in
    let c : cast_unsigned w32 (value -ℤ pos 0x100) / 65536 % 256 ≡ cast_unsigned w32 value / 65536 % 256 =
    omega (arith, bits, some) in
    let d : cast_unsigned w32 (value -ℤ pos 0x100) / 16777216 % 256 ≡ cast_unsigned w32 value / 16777216 % 256 =
    omega (arith, bits, some) in
    cc

-- a byte lower, the pattern is neither the first three nor the last three
not_lowered : (a b c d : ℕ) → IsInFour a b c d → IsInFour a (b - 1) c d → ⊥
not_lowered a b c d (inl x) (inl y) = omega (arith, x.1, y.1)
not_lowered a b c d (inl x) (inr y) = omega (arith, x.1, y.0)
not_lowered a b c d (inr x) (inl y) = omega (arith, x.0, y.1)
not_lowered a b c d (inr x) (inr y) = omega (arith, x.0, y.0)

-- 100 less does not hold the pattern
lowered_clean : (value : ℤ) → FitsSigned w32 value → holds_pattern (number w32 value) ≡ true
    → holds_pattern (number w32 (value -ℤ pos 0x100)) ≡ false
lowered_clean value fits e =
    let some = second_some value e in
    rw (lowered_bytes value fits some) (false_from_ne_true _ (λ again. not_lowered _ _ _ _
    (in_four (cast_unsigned w32 value % 256) (second value) (cast_unsigned w32 value / 65536 % 256)
    (cast_unsigned w32 value / 16777216 % 256) e)
    (in_four (cast_unsigned w32 value % 256) (second value - 1) (cast_unsigned w32 value / 65536 % 256)
    (cast_unsigned w32 value / 16777216 % 256) again)))

-- the lowered number does not hold the pattern
pub lowered_holds : (value : ℤ) → FitsSigned w32 value → holds_pattern (number w32 (lowered_displacement value)) ≡ false
unfolding lowered_displacement
lowered_holds value fits =
    cond_both (holds_pattern (number w32 value)) (value -ℤ pos 0x100) value (λ z. holds_pattern (number w32 z) ≡ false)
    (λ e. lowered_clean value fits e) (λ e. e)

-- what the code computes
pub lowered_value : (value : ℤ) → FitsSigned w32 value → holds_pattern (number w32 value) ≡ true
    → cast_signed w32 (cast_unsigned w32 (cast_signed w32 (cast_unsigned w32 value) -ℤ pos 0x100)) ≡ lowered_displacement value
unfolding lowered_displacement
lowered_value value fits e =
    ap (λ z. cast_signed w32 (cast_unsigned w32 (z -ℤ pos 0x100))) (to_z-of_z {w = w32} {z = value} fits)
    ∙ to_z-of_z {w = w32} {z = value -ℤ pos 0x100} (lowered_fits value fits e)
    ∙ sym (cond-true (holds_pattern (number w32 value)) (value -ℤ pos 0x100) value e)
