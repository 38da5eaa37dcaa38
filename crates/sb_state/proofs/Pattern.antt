-- The first place of the pattern, by the definition and by its places.
use Rattle.std.proofs.Common.{◌≡◌, ◌∙◌, ℕ, zero, suc, ◌+◌, ◌==◌, ◌&&◌, Bool, true, false, List, [], ◌∷◌, Option, Some, None, get_or, refl, ap, sym, arith, if◌then◌else◌}
use Rattle.std.specs.Option.{option_map}
use Rattle.std.proofs.lemmas.Bool.{and_parts, eqb-true, eq-eqb}
use Rattle.sb_scan.specs.Pattern.{HasPatternAt, IsFirstPattern}
use Rattle.sb_state.specs.Pattern.{begins_pattern, first_pattern}
use Rattle.sb_scan.proofs.Held.{behind}
use Rattle.sb_scan.proofs.Held.{before}

begins_there : (bytes : List ℕ) → begins_pattern bytes ≡ true → HasPatternAt bytes 0
begins_there bytes begins =
    let first = and_parts (get_or bytes 0 0 == 0x0F) ((get_or bytes 1 0 == 0x01) && (get_or bytes 2 0 == 0xD4)) begins in
    let others = and_parts (get_or bytes 1 0 == 0x01) (get_or bytes 2 0 == 0xD4) first.1 in
    (eqb-true _ _ first.0, eqb-true _ _ others.0, eqb-true _ _ others.1)

there_begins : (bytes : List ℕ) → HasPatternAt bytes 0 → begins_pattern bytes ≡ true
there_begins bytes (first, second, third) = rw (eq-eqb _ _ first, eq-eqb _ _ second, eq-eqb _ _ third) refl

-- a byte behind the first one
one_behind : (byte : ℕ) (bytes : List ℕ) (place count : ℕ)
    → get_or (byte ∷ bytes) (suc place + count) 0 ≡ get_or bytes (place + count) 0
one_behind byte bytes place count = let moved : suc place + count ≡ suc (place + count) = omega arith in
    ap (λ (k : ℕ). get_or (byte ∷ bytes) k 0) moved

at_first : (byte : ℕ) (bytes : List ℕ) (found : Option ℕ) → HasPatternAt (byte ∷ bytes) 0
    → IsFirstPattern (byte ∷ bytes) found → found ≡ Some 0
at_first byte bytes None here first = absurd (first 0 here)
at_first byte bytes (Some zero) here first = refl
at_first byte bytes (Some (suc place)) here first = absurd (first.1 0 (omega arith) here)

-- where the pattern stands not from the first byte on, its first place is one among the others
among_others : (byte : ℕ) (bytes : List ℕ) (found : Option ℕ) → ¬ HasPatternAt (byte ∷ bytes) 0
    → IsFirstPattern (byte ∷ bytes) found
    → ((inside : Option ℕ) → IsFirstPattern bytes inside → inside ≡ first_pattern bytes)
    → found ≡ option_map suc (first_pattern bytes)
among_others byte bytes None not_here first rest =
    ap (λ (inside : Option ℕ). option_map suc inside)
    (rest None (λ place there. first (suc place) (behind byte bytes place there)))
among_others byte bytes (Some zero) not_here first rest = absurd (not_here first.0)
among_others byte bytes (Some (suc place)) not_here first rest =
    ap (λ (inside : Option ℕ). option_map suc inside)
    (rest (Some place) (
      before byte bytes place first.0,
      λ earlier before there. first.1 (suc earlier) (omega arith) (behind byte bytes earlier there),
    ))

by_test : (byte : ℕ) (bytes : List ℕ) (found : Option ℕ) (test : Bool) → begins_pattern (byte ∷ bytes) ≡ test
    → IsFirstPattern (byte ∷ bytes) found
    → ((inside : Option ℕ) → IsFirstPattern bytes inside → inside ≡ first_pattern bytes)
    → found ≡ (if test then Some 0 else option_map suc (first_pattern bytes))
by_test byte bytes found true begins first rest = at_first byte bytes found (begins_there (byte ∷ bytes) begins) first
by_test byte bytes found false begins first rest =
    among_others byte bytes found (λ here. let both : true ≡ false = sym (there_begins (byte ∷ bytes) here) ∙ begins in
    cc) first rest

nowhere : (found : Option ℕ) → IsFirstPattern [] found → found ≡ None
nowhere None first = refl
nowhere (Some place) first = cc

-- the place that a search names is that of the definition
pub first_place : (bytes : List ℕ) (found : Option ℕ) → IsFirstPattern bytes found → found ≡ first_pattern bytes
first_place [] found first = nowhere found first
first_place (byte ∷ bytes) found first = by_test byte bytes found (begins_pattern (byte ∷ bytes)) refl first (first_place bytes)
