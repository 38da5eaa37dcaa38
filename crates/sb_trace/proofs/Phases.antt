-- The phases of a landing: once the call is decided, no later phase decides it again.
use Rattle.std.proofs.Common.{◌≡◌, ◌≢◌, sym, subst, ℕ, ◌+◌, ◌≤◌, Bool, true, false, ◌==◌, ◌||◌, refl, arith, inl, inr, ◌⊎◌}
use Rattle.std.specs.Prelude.{nat_le, Option, Some, None, if◌then◌else◌}
use Rattle.std.proofs.lemmas.Bool.{eqb-false}
use Rattle.sb_state.specs.declared.state.Decision.{Decision}
use Rattle.sb_state.specs.declared.state.Decision.TheVariants as decision
use Rattle.sb_trace.specs.Flight.{decision_at_phase, is_wrong_key, is_entered, phase_after}
use Rattle.sb_trace.proofs.InFlight.{FollowsDecision}
use Rattle.sb_state.proofs.Names.{number}
use Rattle.sb_state.proofs.Cases.{claim_if, same_some}

-- ---- tests

pub some_if : {A : Type 0} (Result : Type 0) (test : Bool) (one other : Option A) (value : A)
    → (test ≡ true → one ≡ Some value → Result) → (test ≡ false → other ≡ Some value → Result)
    → (if test then one else other) ≡ Some value → Result
some_if Result true one other value first second is = first refl is
some_if Result false one other value first second is = second refl is

neither : (a b : Bool) → (a || b) ≡ false → (a ≡ false) × (b ≡ false)
neither true b is = absurd cc
neither false b is = (refl, is)

-- ---- the phase behind

-- another one than those with a rule of their own
pub record IsPlainPhase (phase : ℕ) : Type 0 where
  pub one : phase ≢ 1
  pub four : phase ≢ 4
  pub nine : phase ≢ 9
  pub sixteen : phase ≢ 16
  pub eighteen : phase ≢ 18

abbrev pub NextPhase : ℕ → Option Decision → ℕ → ℕ → Type 0
NextPhase phase decided mask next =
    ((phase ≡ 1) × (next ≡ (if is_wrong_key decided then 17 else 2)))
    ⊎ ((phase ≡ 4) × (next ≡ (if mask == 0 then 19 else 5)))
    ⊎ ((phase ≡ 9) × (next ≡ (if is_entered decided then 10 else 2)))
    ⊎ ((phase ≡ 18) × (next ≡ 20))
    ⊎ (IsPlainPhase phase × (next ≡ phase + 1))

next_phase : (phase : ℕ) (decided : Option Decision) (mask next : ℕ) → phase_after phase decided mask ≡ Some next
    → NextPhase phase decided mask next
unfolding phase_after
next_phase phase decided mask next =
    some_if (NextPhase phase decided mask next) (phase == 1) _ _ next (λ is to. inl (number phase 1 is, sym (same_some _ _ to)))
    (λ one. some_if (NextPhase phase decided mask next) (phase == 4) _ _ next
    (λ is to. inr (inl (number phase 4 is, sym (same_some _ _ to))))
    (λ four. some_if (NextPhase phase decided mask next) (phase == 9) _ _ next
    (λ is to. inr (inr (inl (number phase 9 is, sym (same_some _ _ to)))))
    (λ nine. some_if (NextPhase phase decided mask next) ((phase == 16) || nat_le 24 phase) _ _ next (λ is to. absurd cc)
    (λ ends. some_if (NextPhase phase decided mask next) (phase == 18) _ _ next
    (λ is to. inr (inr (inr (inl (number phase 18 is, sym (same_some _ _ to))))))
    (λ eighteen to. inr (inr (inr (inr (
      record {
        one = eqb-false phase 1 one;
        four = eqb-false phase 4 four;
        nine = eqb-false phase 9 nine;
        sixteen = eqb-false phase 16 (neither _ _ ends).0;
        eighteen = eqb-false phase 18 eighteen;
      },
      sym (same_some _ _ to),
    )))))))))

-- ---- deciding

-- the phase that decides, and what it saw
abbrev pub Decides : ℕ → Bool → ℕ → ℕ → Decision → Type 0
Decides phase fits pool mask decision.WrongKey = (phase ≡ 0) × (fits ≡ false)
Decides phase fits pool mask decision.PoolEmpty = (phase ≡ 2) × (pool ≡ 0)
Decides phase fits pool mask decision.Entered = (phase ≡ 8) × (pool ≡ mask)

-- what a phase saw that decides or does not
abbrev pub Saw : ℕ → Bool → ℕ → ℕ → Option Decision → Type 0
Saw phase fits pool mask None = (phase ≡ 0 → fits ≡ true) × (phase ≡ 2 → pool ≢ 0)
Saw phase fits pool mask (Some decided) = Decides phase fits pool mask decided

pub saw : (phase : ℕ) (fits : Bool) (pool mask : ℕ) → Saw phase fits pool mask (decision_at_phase phase fits pool mask)
unfolding decision_at_phase
saw phase fits pool mask =
    claim_if (Saw phase fits pool mask) (phase == 0) _ _
    (λ at. let zero_phase = number phase 0 at in
    claim_if (Saw phase fits pool mask) fits _ _ (λ is. ((λ at. is), (λ two. omega arith))) (λ is. (zero_phase, is)))
    (λ not_0. claim_if (Saw phase fits pool mask) (phase == 2) _ _
    (λ at. let two_phase = number phase 2 at in
    claim_if (Saw phase fits pool mask) (pool == 0) _ _ (λ is. (two_phase, number pool 0 is))
    (λ is. ((λ one. absurd (eqb-false phase 0 not_0 one)), (λ two. eqb-false pool 0 is))))
    (λ not_2. claim_if (Saw phase fits pool mask) (phase == 8) _ _
    (λ at. claim_if (Saw phase fits pool mask) (pool == mask) _ _ (λ is. (number phase 8 at, number pool mask is))
    (λ is. ((λ one. absurd (eqb-false phase 0 not_0 one)), (λ two. absurd (eqb-false phase 2 not_2 two)))))
    (λ not_8. ((λ one. absurd (eqb-false phase 0 not_0 one)), (λ two. absurd (eqb-false phase 2 not_2 two))))))

-- the decision of a phase is one of the three that it decides
pub decides : (phase : ℕ) (fits : Bool) (pool mask : ℕ) (decided : Decision)
    → decision_at_phase phase fits pool mask ≡ Some decided
    → Decides phase fits pool mask decided
decides phase fits pool mask decided is = subst (Saw phase fits pool mask) is (saw phase fits pool mask)

-- a phase that follows a decision decides nothing
not_deciding : (decided : Decision) (phase mask : ℕ) → FollowsDecision decided phase mask
    → (phase ≢ 0) × (phase ≢ 2) × (phase ≢ 8)
not_deciding decision.WrongKey phase mask (inl follows) = ((λ at. omega arith), (λ at. omega arith), (λ at. omega arith))
not_deciding decision.WrongKey phase mask (inr follows) = ((λ at. omega arith), (λ at. omega arith), (λ at. omega arith))
not_deciding decision.PoolEmpty phase mask (inl (zero, inl follows)) =
    ((λ at. omega arith), (λ at. omega arith), (λ at. omega arith))
not_deciding decision.PoolEmpty phase mask (inl (zero, inr follows)) =
    ((λ at. omega arith), (λ at. omega arith), (λ at. omega arith))
not_deciding decision.PoolEmpty phase mask (inr follows) = ((λ at. omega arith), (λ at. omega arith), (λ at. omega arith))
not_deciding decision.Entered phase mask (from, to) = ((λ at. omega arith), (λ at. omega arith), (λ at. omega arith))

deciding : (decided : Decision) (phase : ℕ) (fits : Bool) (pool mask : ℕ) → Decides phase fits pool mask decided → phase ≢ 0
    → phase ≢ 2 → phase ≢ 8 → ⊥
deciding decision.WrongKey phase fits pool mask at one two eight = one at.0
deciding decision.PoolEmpty phase fits pool mask at one two eight = two at.0
deciding decision.Entered phase fits pool mask at one two eight = eight at.0

none_where : (first : Decision) (phase : ℕ) (fits : Bool) (pool mask other : ℕ) (found : Option Decision)
    → FollowsDecision first phase mask
    → Saw phase fits pool other found → found ≡ None
none_where first phase fits pool mask other None follows seen = refl
none_where first phase fits pool mask other (Some second) follows seen =
    let apart = not_deciding first phase mask follows in
    absurd (deciding second phase fits pool other seen apart.0 apart.1 apart.2)

pub decides_no_more : (first : Decision) (phase : ℕ) (fits : Bool) (pool mask other : ℕ) → FollowsDecision first phase mask
    → decision_at_phase phase fits pool other ≡ None
decides_no_more first phase fits pool mask other follows =
    none_where first phase fits pool mask other (decision_at_phase phase fits pool other) follows (saw phase fits pool other)

-- a phase that follows a decision loads no mask
pub loads_no_more : (decided : Decision) (phase mask : ℕ) → FollowsDecision decided phase mask → phase ≢ 2
loads_no_more decided phase mask follows = (not_deciding decided phase mask follows).1

-- ---- before the decision

not_zero : (test : Bool) (mask next : ℕ) → (mask == 0) ≡ test → mask ≢ 0 → next ≡ (if test then 19 else 5) → next ≡ 5
not_zero true mask next is some to = absurd (some (number mask 0 is))
not_zero false mask next is some to = to

undecided_on : (phase mask next : ℕ) → phase ≤ 9 → (phase ≡ 4 → mask ≢ 0) → NextPhase phase None mask next
    → (next ≤ 9) × (3 ≤ next → 2 ≤ phase)
undecided_on phase mask next early some (inl (at, to)) = (omega arith, λ late. omega arith)
undecided_on phase mask next early some (inr (inl (at, to))) =
    let is : next ≡ 5 = not_zero (mask == 0) mask next refl (some at) to in (omega arith, λ late. omega arith)
undecided_on phase mask next early some (inr (inr (inl (at, to)))) = (omega arith, λ late. omega arith)
undecided_on phase mask next early some (inr (inr (inr (inl (at, to))))) = absurd (omega arith)
undecided_on phase mask next early some (inr (inr (inr (inr (plain, to))))) = let apart = plain.nine in
    (omega (arith, apart), λ late. omega arith)

-- the phase behind one that did not decide
pub stays_undecided : (phase mask next : ℕ) → phase ≤ 9 → (phase ≡ 4 → mask ≢ 0) → phase_after phase None mask ≡ Some next
    → (next ≤ 9) × (3 ≤ next → 2 ≤ phase)
stays_undecided phase mask next early some is = undecided_on phase mask next early some (next_phase phase None mask next is)
