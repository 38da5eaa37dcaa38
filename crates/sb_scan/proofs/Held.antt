-- The test on bytes is whether the pattern stands at some place.
use Rattle.std.proofs.Common.{◌≡◌, ℕ, zero, suc, ◌+◌, true, false, List, [], ◌∷◌, Option, Some, None, get_or, refl, sym, ap}
use Rattle.std.proofs.Common.{◌∙◌, arith, inl, inr}
use Rattle.std.specs.Prelude.{is_some, ◌&&◌, ◌==◌}
use Rattle.std.proofs.lemmas.Bool.{and_parts, and_right, or_cases, or_from, or_left, or_right, eqb-true, eq-eqb}
use Rattle.std.proofs.lemmas.Bool.{false_from_ne_true, false≢true, both_ways}
use Rattle.sb_scan.specs.Pattern.{pattern, HasPatternAt, HasNoPattern, IsFirstPattern}
use Rattle.sb_scan.specs.Holding.{begins_with, holds_pattern}

begins_at : (bytes : List ℕ) → begins_with pattern bytes ≡ true → HasPatternAt bytes 0
begins_at [] e = absurd cc
begins_at (a ∷ []) e = absurd (false≢true (and_parts (a == 0x0F) false e).1)
begins_at (a ∷ b ∷ []) e =
    let first = and_parts (a == 0x0F) ((b == 0x01) && false) e in
    absurd (false≢true (and_parts (b == 0x01) false first.1).1)
begins_at (a ∷ b ∷ c ∷ rest) e =
    let first = and_parts (a == 0x0F) ((b == 0x01) && ((c == 0xD4) && true)) e in
    let second = and_parts (b == 0x01) ((c == 0xD4) && true) first.1 in
    let third = and_parts (c == 0xD4) true second.1 in
    (eqb-true a 0x0F first.0, eqb-true b 0x01 second.0, eqb-true c 0xD4 third.0)

at_begins : (bytes : List ℕ) → HasPatternAt bytes 0 → begins_with pattern bytes ≡ true
at_begins [] stands = absurd (omega (arith, stands.0))
at_begins (a ∷ []) stands = absurd (omega (arith, stands.1))
at_begins (a ∷ b ∷ []) stands = absurd (omega (arith, stands.2))
at_begins (a ∷ b ∷ c ∷ rest) stands = rw (eq-eqb a 0x0F stands.0, eq-eqb b 0x01 stands.1, eq-eqb c 0xD4 stands.2) refl

-- a place of the pattern, one byte on
pub behind : (byte : ℕ) (bytes : List ℕ) (place : ℕ) → HasPatternAt bytes place → HasPatternAt (byte ∷ bytes) (suc place)
behind byte bytes place stands = let next : suc place + 1 ≡ suc (place + 1) = omega arith in
    let last : suc place + 2 ≡ suc (place + 2) = omega arith in
    (stands.0, ap (λ k. get_or (byte ∷ bytes) k 0) next ∙ stands.1, ap (λ k. get_or (byte ∷ bytes) k 0) last ∙ stands.2)

pub before : (byte : ℕ) (bytes : List ℕ) (place : ℕ) → HasPatternAt (byte ∷ bytes) (suc place) → HasPatternAt bytes place
before byte bytes place stands = let next : suc (place + 1) ≡ suc place + 1 = omega arith in
    let last : suc (place + 2) ≡ suc place + 2 = omega arith in
    (stands.0, ap (λ k. get_or (byte ∷ bytes) k 0) next ∙ stands.1, ap (λ k. get_or (byte ∷ bytes) k 0) last ∙ stands.2)

-- where the pattern stands, the test is true
pub at_holds : (bytes : List ℕ) (place : ℕ) → HasPatternAt bytes place → holds_pattern bytes ≡ true
unfolding holds_pattern
at_holds [] place stands = absurd (omega (arith, stands.0))
at_holds (byte ∷ bytes) zero stands =
    or_left (begins_with pattern (byte ∷ bytes)) (holds_pattern bytes) (at_begins (byte ∷ bytes) stands)
at_holds (byte ∷ bytes) (suc place) stands =
    or_right (begins_with pattern (byte ∷ bytes)) (holds_pattern bytes) (at_holds bytes place (before byte bytes place stands))

-- where the test is true, the pattern stands
pub holds_at : (bytes : List ℕ) → holds_pattern bytes ≡ true → (place : ℕ) × HasPatternAt bytes place
unfolding holds_pattern
holds_at [] e = absurd (false≢true e)
holds_at (byte ∷ bytes) e =
    elim (or_cases (begins_with pattern (byte ∷ bytes)) (holds_pattern bytes) e) [
      | inl here_it ↦ (0, begins_at (byte ∷ bytes) here_it)
      | inr later ↦ let found = holds_at bytes later in (suc found.0, behind byte bytes found.0 found.1)
    ]

pub not_held : (bytes : List ℕ) → holds_pattern bytes ≡ false → HasNoPattern bytes
not_held bytes e = λ place stands. both_ways (holds_pattern bytes) e (at_holds bytes place stands)

pub none_held : (bytes : List ℕ) → HasNoPattern bytes → holds_pattern bytes ≡ false
none_held bytes none = false_from_ne_true (holds_pattern bytes) (λ e. none (holds_at bytes e).0 (holds_at bytes e).1)

-- what the search finds
pub found_holds : (bytes : List ℕ) (found : Option ℕ) → IsFirstPattern bytes found → is_some found ≡ holds_pattern bytes
found_holds bytes None none = sym (none_held bytes none)
found_holds bytes (Some place) first = sym (at_holds bytes place first.0)

-- no bytes do not hold the pattern
pub nothing_holds : holds_pattern [] ≡ false
unfolding holds_pattern
nothing_holds = refl

-- one byte does not hold the pattern
pub byte_holds : (byte : ℕ) → holds_pattern (byte ∷ []) ≡ false
unfolding holds_pattern
byte_holds byte = or_from ((byte == 0x0F) && false) false (and_right (byte == 0x0F) false refl) refl
