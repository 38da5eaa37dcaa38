-- Jumps that were remembered lead where the text's jumps lead.
use Rattle.std.proofs.Common.{◌≡◌, ℕ, ◌<◌, Bool, true, false, if◌then◌else◌, List, [], ◌∷◌, Option, Some, None, zero, suc, length, get_or, refl, subst, arith, inl, inr, ⊎_elim}
use Rattle.std.specs.Prelude.{flat_map}
use Rattle.std.specs.List.{Contains}
use Rattle.std.proofs.lemmas.Bool.Decides.{nat_tests}
use Rattle.std.proofs.lemmas.List.{get_or_default}
use Rattle.std.proofs.lemmas.List.Elements.{Contains-append_left, Contains-append_right, Contains-append_cases}
use Rattle.sb_rewrite.specs.declared.target.Jump.{Jump}
use Rattle.sb_forms.specs.Places.{IsPermitted}
use Rattle.sb_rewrite.specs.Target.{direct_target, MayLeadTo, IsBadTarget}
use Rattle.sb_rewrite.specs.Placing.{Placement}
use Rattle.sb_rewrite.specs.Rewriting.{HasBadTarget, NoneOf}
use Rattle.sb_rewrite.specs.Turns.{is_in_text, IsFar, jumps_to}

-- the jump of an instruction that is to be remembered
abbrev pub jumps_of : Placement → List Jump
jumps_of place = jumps_to place.at (direct_target place.insn place.at)

-- it leads far away
abbrev pub HasFarTarget : Placement → Type 0
HasFarTarget place = IsFar (direct_target place.insn place.at)

-- jumps that lead to starts
abbrev pub LeadToStarts : List ℕ → List Jump → Type 0
LeadToStarts starts jumps = (jump : Jump) → Contains jumps jump → Contains starts jump.target

only_one : (first jump : Jump) → Contains (first ∷ []) jump → first ≡ jump
only_one first jump (zero, within, same) = same
only_one first jump (suc k, within, same) = absurd (omega arith)

module _ (starts : List ℕ) (at target : ℕ) where
  -- what is permitted and not in the text is in the trampoline
  by_test : (test : Bool) → is_in_text target ≡ test → IsPermitted target
      → LeadToStarts starts (if test then record { at = at; target = target } ∷ [] else []) → MayLeadTo starts target
  by_test true is permitted lead = inr (lead (record { at = at; target = target }) (0, omega arith, refl))
  by_test false is permitted lead =
      inl (⊎_elim (λ in_text. absurd (grind (arith, nat_tests, is, in_text)))
      (λ there. (there.0, omega (arith, there.1))) permitted)

  -- what is in the text is not in the trampoline
  astray_by : (test : Bool) → is_in_text target ≡ test → (jump : Jump)
      → Contains (if test then record { at = at; target = target } ∷ [] else []) jump → ¬ Contains starts jump.target
      → ¬ MayLeadTo starts target
  astray_by true is jump held no_start may =
      ⊎_elim
      (λ there. absurd (grind (arith, nat_tests, is, there)))
      (λ start. no_start
      (subst (λ (one : Jump). Contains starts one.target) (only_one (record { at = at; target = target }) jump held) start))
      may
  astray_by false is jump held no_start may = omega (arith, held.1)

leads : (starts : List ℕ) (at : ℕ) (target : Option ℕ) → ¬ IsFar target → LeadToStarts starts (jumps_to at target)
    → ¬ IsBadTarget starts target
leads starts at None near lead bad = bad
leads starts at (Some target) near lead bad =
    near (λ permitted. bad (by_test starts at target (is_in_text target) refl permitted lead))

astray : (starts : List ℕ) (at : ℕ) (target : Option ℕ) (jump : Jump) → Contains (jumps_to at target) jump
    → ¬ Contains starts jump.target → IsBadTarget starts target
astray starts at None jump held no_start = omega (arith, held.1)
astray starts at (Some target) jump held no_start = astray_by starts at target (is_in_text target) refl jump held no_start

-- where no jump leads far away and all that were remembered lead to starts, all lead well
pub all_lead : (starts : List ℕ) (of_text : List Placement) → NoneOf HasFarTarget of_text
    → LeadToStarts starts (flat_map jumps_of of_text) → NoneOf (HasBadTarget starts) of_text
all_lead starts [] near lead = tt
all_lead starts (place ∷ others) near lead = (
  leads starts place.at (direct_target place.insn place.at) near.0
      (λ jump held. lead jump (Contains-append_left (jumps_of place) (flat_map jumps_of others) jump held)),
  all_lead starts others near.1
      (λ jump held. lead jump (Contains-append_right (jumps_of place) (flat_map jumps_of others) jump held)),
)

-- where one that was remembered leads to no start, not all lead well
pub one_astray : (starts : List ℕ) (of_text : List Placement) (jump : Jump) → Contains (flat_map jumps_of of_text) jump
    → ¬ Contains starts jump.target → ¬ NoneOf (HasBadTarget starts) of_text
one_astray starts [] jump held no_start none = omega (arith, held.1)
one_astray starts (place ∷ others) jump held no_start none =
    ⊎_elim
    (λ here. none.0 (astray starts place.at (direct_target place.insn place.at) jump here no_start))
    (λ later. one_astray starts others jump later no_start none.1)
    (Contains-append_cases (jumps_of place) (flat_map jumps_of others) jump held)

-- ---- the check of those that were remembered

abbrev pub no_jump : Jump
no_jump = record { at = 0; target = 0 }

abbrev pub jump_at : List Jump → ℕ → Jump
jump_at jumps k = get_or jumps k no_jump

pub jump_among : (jumps : List Jump) (index : ℕ) → index < length jumps → Contains jumps (jump_at jumps index)
jump_among jumps index within = (index, within, get_or_default jumps index (jump_at jumps index) no_jump within)
