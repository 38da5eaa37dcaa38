-- Bytes in which the pattern does not stand, one after another.
use Rattle.std.proofs.Common.{◌≡◌, ℕ, zero, suc, false, List, [], ◌∷◌, ◌++◌, replicate, refl, sym, ap, ◌∙◌, append_assoc, subst, ◌⊎◌, inl, inr}
use Rattle.std.specs.Prelude.{◌&&◌, ◌||◌, ◌==◌}
use Rattle.std.specs.List.{AllByRecursion}
use Rattle.std.proofs.lemmas.Bool.{or_parts, or_from, and_right, ne_eqb}
use Rattle.sb_insn.specs.declared.insn.Insn.{Insn}
use Rattle.sb_insn.specs.Spelling.{spelling}
use Rattle.sb_scan.specs.Pattern.{pattern}
use Rattle.sb_forms.specs.Holding.{begins_with, holds_pattern}
use Rattle.sb_forms.specs.Answers.{IsClean}
use Rattle.sb_forms.specs.Table.{spelled_bytes}
use Rattle.sb_forms.proofs.Held.{not_held}

-- the last two bytes of the pattern, and the last
abbrev pub last_two : List ℕ
last_two = 0x01 ∷ 0xD4 ∷ []

abbrev pub last_one : List ℕ
last_one = 0xD4 ∷ []

-- the pattern does not stand in the bytes, and cannot begin before them and end in them
pub record IsQuiet (bytes : List ℕ) : Type 0 where
  pub none : holds_pattern bytes ≡ false
  pub two : begins_with last_two bytes ≡ false
  pub one : begins_with last_one bytes ≡ false

-- the pattern begins with 0F
pub skip : (byte : ℕ) (bytes : List ℕ) → (byte ≡ 0x0F → ⊥) → holds_pattern (byte ∷ bytes) ≡ holds_pattern bytes
unfolding holds_pattern
skip byte bytes other =
    ap (λ first. (first && begins_with last_two bytes) || holds_pattern bytes) (ne_eqb byte 0x0F other)

-- 0F is not the pattern where 01 D4 does not follow
pub skip_0f : (bytes : List ℕ) → begins_with last_two bytes ≡ false → holds_pattern (0x0F ∷ bytes) ≡ holds_pattern bytes
unfolding holds_pattern
skip_0f bytes other = ap (λ behind. behind || holds_pattern bytes) other

pub joined : (first second : List ℕ) → holds_pattern first ≡ false → IsQuiet second → holds_pattern (first ++ second) ≡ false
unfolding holds_pattern
joined [] second none quiet = quiet.none
joined (a ∷ []) second none quiet =
    or_from ((a == 0x0F) && begins_with last_two second) (holds_pattern second)
    (and_right (a == 0x0F) (begins_with last_two second) quiet.two) quiet.none
joined (a ∷ b ∷ []) second none quiet =
    let behind = and_right (b == 0x01) (begins_with last_one second) quiet.one in
    or_from
    ((a == 0x0F) && ((b == 0x01) && begins_with last_one second))
    (holds_pattern (b ∷ second))
    (and_right (a == 0x0F) ((b == 0x01) && begins_with last_one second) behind)
    (joined (b ∷ []) second (or_parts (begins_with pattern (a ∷ b ∷ [])) (holds_pattern (b ∷ [])) none).1 quiet)
joined (a ∷ b ∷ c ∷ rest) second none quiet =
    let parts = or_parts (begins_with pattern (a ∷ b ∷ c ∷ rest)) (holds_pattern (b ∷ c ∷ rest)) none in
    or_from (begins_with pattern (a ∷ b ∷ c ∷ (rest ++ second))) (holds_pattern (b ∷ c ∷ (rest ++ second))) parts.0
    (joined (b ∷ c ∷ rest) second parts.1 quiet)

-- ---- bytes CC

filler_quiet : (count : ℕ) → IsQuiet (replicate count 0xCC)
unfolding holds_pattern
filler_quiet zero = record { none = refl; two = refl; one = refl }
filler_quiet (suc count) = record { none = (filler_quiet count).none; two = refl; one = refl }

-- ---- instructions one after another

abbrev pub AreQuiet : List Insn → Type 0
AreQuiet insns = AllByRecursion (λ insn. IsQuiet (spelling insn)) insns

-- bytes, and instructions behind them
followed : (bytes : List ℕ) (insns : List Insn) → holds_pattern bytes ≡ false → AreQuiet insns
    → holds_pattern (bytes ++ spelled_bytes insns) ≡ false
followed bytes [] none quiet = joined bytes [] none (filler_quiet zero)
followed bytes (insn ∷ insns) none quiet =
    subst
    (λ (all : List ℕ). holds_pattern all ≡ false)
    (append_assoc bytes (spelling insn) (spelled_bytes insns))
    (followed (bytes ++ spelling insn) insns (joined bytes (spelling insn) none quiet.0) quiet.1)

-- the pattern does not stand with CC before the bytes, and so neither with CC behind them
around : (bytes : List ℕ) → ((before : ℕ) → holds_pattern (replicate before 0xCC ++ bytes) ≡ false) → IsClean bytes
around bytes none before behind =
    not_held
    (replicate before 0xCC ++ (bytes ++ replicate behind 0xCC))
    (subst
    (λ (all : List ℕ). holds_pattern all ≡ false)
    (append_assoc (replicate before 0xCC) bytes (replicate behind 0xCC))
    (joined (replicate before 0xCC ++ bytes) (replicate behind 0xCC) (none before) (filler_quiet behind)))

pub in_place_clean : (insns : List Insn) → AreQuiet insns → IsClean (spelled_bytes insns)
in_place_clean insns quiet =
    around (spelled_bytes insns) (λ before. followed (replicate before 0xCC) insns (filler_quiet before).none quiet)

-- a byte 00 between bytes in which the pattern does not stand
zero_between : (lead second : List ℕ) → holds_pattern (lead ++ 0 ∷ []) ≡ false → holds_pattern second ≡ false
    → holds_pattern (lead ++ 0 ∷ second) ≡ false
unfolding holds_pattern
zero_between [] second none other = other
zero_between (a ∷ []) second none other =
    or_from ((a == 0x0F) && false) (holds_pattern (0 ∷ second)) (and_right (a == 0x0F) false refl) other
zero_between (a ∷ b ∷ []) second none other =
    let parts = or_parts (begins_with pattern (a ∷ b ∷ 0 ∷ [])) (holds_pattern (b ∷ 0 ∷ [])) none in
    or_from (begins_with pattern (a ∷ b ∷ 0 ∷ second)) (holds_pattern (b ∷ 0 ∷ second)) parts.0
    (zero_between (b ∷ []) second parts.1 other)
zero_between (a ∷ b ∷ c ∷ rest) second none other =
    let parts = or_parts (begins_with pattern (a ∷ b ∷ c ∷ (rest ++ 0 ∷ []))) (holds_pattern (b ∷ c ∷ (rest ++ 0 ∷ []))) none in
    or_from (begins_with pattern (a ∷ b ∷ c ∷ (rest ++ 0 ∷ second))) (holds_pattern (b ∷ c ∷ (rest ++ 0 ∷ second))) parts.0
    (zero_between (b ∷ c ∷ rest) second parts.1 other)

-- bytes behind some that end with 00
behind_zero : (first lead second : List ℕ) → first ≡ lead ++ 0 ∷ [] → holds_pattern first ≡ false
    → holds_pattern second ≡ false → holds_pattern (first ++ second) ≡ false
behind_zero first lead second is none other =
    let ends : holds_pattern (lead ++ 0 ∷ []) ≡ false = ap (λ (bytes : List ℕ). holds_pattern bytes) (sym is) ∙ none in
    ap (λ (bytes : List ℕ). holds_pattern (bytes ++ second)) is
    ∙ ap (λ (bytes : List ℕ). holds_pattern bytes) (append_assoc lead (0 ∷ []) second) ∙ zero_between lead second ends other

-- The main instruction may begin like the end of the pattern where the bytes before it end with 00.
abbrev pub MayFollow : List ℕ → List ℕ → Type 0
MayFollow before bytes = IsQuiet bytes ⊎ ((holds_pattern bytes ≡ false) × ((lead : List ℕ) × (before ≡ lead ++ 0 ∷ [])))

main_follows : (fill pre main : List ℕ) → holds_pattern (fill ++ pre) ≡ false → MayFollow pre main
    → holds_pattern ((fill ++ pre) ++ main) ≡ false
main_follows fill pre main none (inl quiet) = joined (fill ++ pre) main none quiet
main_follows fill pre main none (inr (other, (lead, is))) =
    behind_zero (fill ++ pre) (fill ++ lead) main (ap (λ (bytes : List ℕ). fill ++ bytes) is
    ∙ sym (append_assoc fill lead (0 ∷ []))) none other

-- a slot
pub slot_clean : (pre : List Insn) (main : Insn) (post : List Insn) → AreQuiet pre
    → MayFollow (spelled_bytes pre) (spelling main) → AreQuiet post
    → IsClean (spelled_bytes pre ++ (spelling main ++ spelled_bytes post))
slot_clean pre main post before work behind =
    around
    (spelled_bytes pre ++ (spelling main ++ spelled_bytes post))
    (λ count.
    let fill = replicate count 0xCC in
    let first = followed fill pre (filler_quiet count).none before in
    let second = main_follows fill (spelled_bytes pre) (spelling main) first work in
    let third = followed ((fill ++ spelled_bytes pre) ++ spelling main) post second behind in
    subst
    (λ (all : List ℕ). holds_pattern all ≡ false)
    (append_assoc (fill ++ spelled_bytes pre) (spelling main) (spelled_bytes post)
    ∙ append_assoc fill (spelled_bytes pre) (spelling main ++ spelled_bytes post))
    third)
