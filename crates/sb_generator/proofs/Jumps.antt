-- Whether each jump of a text leads to a start or into the trampoline, as a test.
use Rattle.std.specs.Prelude.{◌≡◌, ℕ, ◌+◌, Bool, true, ◌&&◌, ◌||◌, ◌==◌, nat_le, nat_lt, List, [], ◌∷◌, Option, Some, None}
use Rattle.std.specs.List.{list_any}
use Rattle.std.proofs.Common.{⊎_elim, inl, inr}
use Rattle.std.proofs.lemmas.Bool.{and_parts, or_cases, eqb-true, leb-true, ltb-true}
use Rattle.std.proofs.lemmas.Map.Views.{Contains-from_any}
use Rattle.sb_memory.specs.declared.page.TheConstants.{PAGE_SIZE}
use Rattle.sb_abi.specs.declared.trampoline.TheConstants.{TRAMPOLINE_ADDRESS}
use Rattle.sb_rewrite.specs.Target.{direct_target, MayLeadTo, IsBadTarget}
use Rattle.sb_rewrite.specs.Placing.{Placement}
use Rattle.sb_rewrite.specs.Rewriting.{NoneOf, HasBadTarget}

-- the target is in the trampoline or a start
abbrev pub may_lead_to : List ℕ → ℕ → Bool
may_lead_to starts target =
    (nat_le TRAMPOLINE_ADDRESS target && nat_lt target (TRAMPOLINE_ADDRESS + PAGE_SIZE)) || list_any
    (λ start. target == start) starts

-- and so is that of a jump; other instructions have none
abbrev pub is_good_target : List ℕ → Option ℕ → Bool
is_good_target starts None = true
is_good_target starts (Some target) = may_lead_to starts target

-- each of the instructions passes the test
abbrev pub all_lead_well : List ℕ → List Placement → Bool
all_lead_well starts [] = true
all_lead_well starts (place ∷ places) = is_good_target starts (direct_target place.insn place.at) && all_lead_well starts places

-- ---- what the test says

may_lead : (starts : List ℕ) (target : ℕ) → may_lead_to starts target ≡ true → MayLeadTo starts target
may_lead starts target e =
    ⊎_elim
    (λ inside. let parts = and_parts (nat_le TRAMPOLINE_ADDRESS target) (nat_lt target (TRAMPOLINE_ADDRESS + PAGE_SIZE)) inside in
    inl (leb-true TRAMPOLINE_ADDRESS target parts.0, ltb-true target (TRAMPOLINE_ADDRESS + PAGE_SIZE) parts.1))
    (λ listed. inr (Contains-from_any (λ x y same. eqb-true x y same) target starts listed))
    (or_cases (nat_le TRAMPOLINE_ADDRESS target && nat_lt target (TRAMPOLINE_ADDRESS + PAGE_SIZE))
    (list_any (λ start. target == start) starts) e)

not_bad : (starts : List ℕ) (target : Option ℕ) → is_good_target starts target ≡ true → ¬ IsBadTarget starts target
not_bad starts None e = λ bad. bad
not_bad starts (Some target) e = λ bad. bad (may_lead starts target e)

-- where the test passes, no target is bad
pub none_bad : (starts : List ℕ) (places : List Placement) → all_lead_well starts places ≡ true → NoneOf (HasBadTarget starts) places
none_bad starts [] e = tt
none_bad starts (place ∷ places) e =
    let parts = and_parts (is_good_target starts (direct_target place.insn place.at)) (all_lead_well starts places) e in
    (not_bad starts (direct_target place.insn place.at) parts.0, none_bad starts places parts.1)
