-- A direct jump or call that leads where it may does not hold the bytes of VMFUNC.
use Rattle.std.proofs.Common.{◌≡◌, ℕ, ◌+◌, ◌<◌, ◌≤◌, List, [], ◌∷◌, length, Option, Some, None, refl, subst, arith, inl, inr, ⊎_elim, zero, suc, length-append}
use Rattle.std.specs.List.{Contains}
use Rattle.sb_insn.specs.declared.insn.Insn.{Insn}
use Rattle.sb_insn.specs.Spelling.{spelling}
use Rattle.sb_insn.specs.Grammar.{IsValid}
use Rattle.sb_forms.specs.Places.{IsPermitted, HasForm, NotInJumps, target}
use Rattle.sb_rewrite.specs.Listing.{spelled_bytes, starts_from}
use Rattle.sb_rewrite.specs.Target.{direct_target, MayLeadTo, IsBadTarget}
use Rattle.sb_rewrite.specs.Turns.{IsFar}
use Rattle.sb_decode.proofs.Exact.{some_spelling}

-- starts are in the text
pub starts_within : (at : ℕ) (insns : List Insn) (start : ℕ) → Contains (starts_from at insns) start
    → (at ≤ start) × (start < at + length (spelled_bytes insns))
unfolding starts_from
starts_within at [] start (k, within, is) = absurd (omega arith)
starts_within at (insn ∷ insns) start (zero, within, is) =
    (omega (arith, is), omega (arith, is, some_spelling insn, length-append (spelling insn) (spelled_bytes insns)))
starts_within at (insn ∷ insns) start (suc k, within, is) =
    let later = starts_within (at + length (spelling insn)) insns start (k, omega arith, is) in
    (omega (arith, later.0), omega (arith, later.1, length-append (spelling insn) (spelled_bytes insns)))

-- all starts are in a text
abbrev pub AreInText : List ℕ → Type 0
AreInText starts = (start : ℕ) → Contains starts start → (0x400000 ≤ start) × (start < 0x600000)

permitted : (starts : List ℕ) (address : ℕ) → AreInText starts → MayLeadTo starts address → IsPermitted address
permitted starts address in_text may =
    ⊎_elim (λ there. inr (there.0, omega (arith, there.1))) (λ start. inl (in_text address start)) may

-- one that leads far away leads badly
pub far_is_bad : (starts : List ℕ) (leads_to : Option ℕ) → AreInText starts → IsFar leads_to → IsBadTarget starts leads_to
far_is_bad starts None in_text far = far
far_is_bad starts (Some address) in_text far = λ may. far (permitted starts address in_text may)

-- one that does not lead far away
pub near_free : NotInJumps → (insn : Insn) (at : ℕ) → IsValid insn → 0x400000 ≤ at → at < 0x600000
    → ¬ IsFar (direct_target insn at) → HasForm insn
unfolding direct_target
near_free law insn at valid low high near direct place stands =
    let target_is : direct_target insn at ≡ Some (target insn at) = rw direct refl in
    let leads_near : ¬ IsFar (Some (target insn at)) = subst (λ (leads_to : Option ℕ). ¬ IsFar leads_to) target_is near in
    leads_near (λ permitted. law insn at valid direct low high permitted place stands)

-- one that leads where it may
pub jump_free : NotInJumps → (insn : Insn) (at : ℕ) (starts : List ℕ) → IsValid insn → 0x400000 ≤ at → at < 0x600000
    → AreInText starts
    → ¬ IsBadTarget starts (direct_target insn at) → HasForm insn
jump_free law insn at starts valid low high in_text leads =
    near_free law insn at valid low high (λ far. leads (far_is_bad starts (direct_target insn at) in_text far))
