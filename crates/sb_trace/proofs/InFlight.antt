-- What the phase of a flight says: before the decision it stands at the VMFUNC, and behind it no phase decides again.
use Rattle.std.proofs.Common.{◌≡◌, ◌≢◌, subst, ℕ, zero, suc, ◌%◌, ◌^◌, ◌<◌, ◌≤◌, true, List, [], ◌∷◌, ◌==◌, ◌⊎◌, length, refl, arith, inl, inr}
use Rattle.std.specs.Prelude.{Option, Some, None, slice_index_or}
use Rattle.std.specs.List.{AllByRecursion, Contains}
use Rattle.sb_abi.specs.declared.trampoline.TheConstants.{VMFUNC_ADDRESS}
use Rattle.sb_state.specs.declared.state.Binding.{Binding}
use Rattle.sb_state.specs.declared.state.Decision.{Decision}
use Rattle.sb_state.specs.declared.state.Decision.TheVariants as decision
use Rattle.sb_state.specs.declared.state.Flight.{Flight}
use Rattle.sb_state.specs.declared.state.Thread.{Thread}
use Rattle.sb_state.specs.State.{State, thread_at}
use Rattle.sb_state.specs.Registers.{eax, ecx, rsi}
use Rattle.sb_trace.specs.Flight.{phase_after}
use Rattle.sb_trace.specs.KernelCall.{binding_with}
use Rattle.sb_trace.specs.Sound.{phases_of, IsMask, IsThreadSound, IsInFlight}
use Rattle.sb_state.proofs.Cases.{same_some}
use Rattle.sb_trace.proofs.ProcessFacts.{all_at}
use Rattle.sb_trace.proofs.Threads.{running_there, bound_there}
use Rattle.std.proofs.lemmas.Bool.Decides.{Decides-eqb}

abbrev pub flight_of : ℕ → ℕ → ℕ → Option Decision → Flight
flight_of index phase mask decided = record { index = index; phase = phase; mask = mask; decided = decided }

-- ---- what the phase says

-- The thread stands at the VMFUNC, with leaf 0 and the index of a binding.
pub record StandsAtCall (thread : Thread) (index : ℕ) : Type 0 where
  pub address : thread.regs.rip % 2 ^ 64 ≡ VMFUNC_ADDRESS
  pub leaf : eax thread.regs ≡ 0
  pub names : ecx thread.regs ≡ index
  pub away : index ≢ 0
  pub binding : Binding
  pub bound : binding_with thread.bindings index ≡ Some binding

-- Before the decision: phase 0 found the key right, and phase 2 loaded a mask that is not 0.
pub record IsUndecided (thread : Thread) (flight : Flight) : Type 0 where
  pub stands : StandsAtCall thread flight.index
  pub early : flight.phase ≤ 9
  pub key : flight.phase ≢ 0 → rsi thread.regs ≡ stands.binding.key
  pub mask : 3 ≤ flight.phase → flight.mask ≢ 0

-- the phases that follow the decision: none of them decides
abbrev pub FollowsDecision : Decision → ℕ → ℕ → Type 0
FollowsDecision decision.WrongKey phase mask = (phase ≡ 1) ⊎ (17 ≤ phase)
FollowsDecision decision.PoolEmpty phase mask = ((mask ≡ 0) × ((phase ≡ 3) ⊎ (phase ≡ 4))) ⊎ (17 ≤ phase)
FollowsDecision decision.Entered phase mask = (9 ≤ phase) × (phase ≤ 16)

abbrev pub IsDecidedSound : Thread → Flight → Option Decision → Type 0
IsDecidedSound thread flight None = IsUndecided thread flight
IsDecidedSound thread flight (Some decided) = FollowsDecision decided flight.phase flight.mask

-- ---- the phases of a decision, one by one

-- what is said of each element is said of one that is contained
pub each_listed : (Claim : ℕ → Type 0) (list : List ℕ) (place value : ℕ) → AllByRecursion Claim list → place < length list
    → slice_index_or list place value ≡ value → Claim value
each_listed Claim [] place value all below is = absurd (omega (arith, below))
each_listed Claim (first ∷ list) zero value all below is = subst Claim is all.0
each_listed Claim (first ∷ list) (suc place) value all below is =
    each_listed Claim list place value all.1 (omega (arith, below)) is

-- a claim on each phase of a decision holds at a phase of it
pub at_phase_of : (Claim : ℕ → Type 0) (decided : Option Decision) (phase : ℕ) → AllByRecursion Claim (phases_of decided)
    → Contains (phases_of decided) phase → Claim phase
at_phase_of Claim decided phase all among = each_listed Claim (phases_of decided) among.0 phase all among.1 among.2

early_all : AllByRecursion (λ phase. phase ≤ 9) (phases_of None)
early_all = (
  omega arith,
  (
    omega arith,
    (
      omega arith,
      (
        omega arith,
        (omega arith, (omega arith, (omega arith, (omega arith, (omega arith, (omega arith, tt)))))),
      ),
    ),
  ),
)

wrong_key_follows : AllByRecursion (λ phase. (phase ≡ 1) ⊎ (17 ≤ phase)) (phases_of (Some decision.WrongKey))
wrong_key_follows = (
  inl refl,
  (
    inr (omega arith),
    (
      inr (omega arith),
      (inr (omega arith), (inr (omega arith), (inr (omega arith), (inr (omega arith), (inr (omega arith), tt))))),
    ),
  ),
)

pool_empty_follows : (mask : ℕ) → mask ≡ 0
    → AllByRecursion (λ phase. FollowsDecision decision.PoolEmpty phase mask) (phases_of (Some decision.PoolEmpty))
pool_empty_follows mask zero_mask = (
  inl (zero_mask, inl refl),
  (
    inl (zero_mask, inr refl),
    (
      inr (omega arith),
      (inr (omega arith), (inr (omega arith), (inr (omega arith), (inr (omega arith), (inr (omega arith), tt))))),
    ),
  ),
)

entered_follows : AllByRecursion (λ phase. (9 ≤ phase) × (phase ≤ 16)) (phases_of (Some decision.Entered))
entered_follows = (
  (omega arith, omega arith),
  (
    (omega arith, omega arith),
    (
      (omega arith, omega arith),
      (
        (omega arith, omega arith),
        (
          (omega arith, omega arith),
          ((omega arith, omega arith), ((omega arith, omega arith), ((omega arith, omega arith), tt))),
        ),
      ),
    ),
  ),
)

-- a phase of a decision follows it
pub follows_of : (decided : Decision) (phase mask : ℕ) → Contains (phases_of (Some decided)) phase
    → IsMask (Some decided) phase mask
    → FollowsDecision decided phase mask
follows_of decision.WrongKey phase mask among chosen =
    at_phase_of (λ n. (n ≡ 1) ⊎ (17 ≤ n)) (Some decision.WrongKey) phase wrong_key_follows among
follows_of decision.PoolEmpty phase mask among chosen =
    at_phase_of (λ n. FollowsDecision decision.PoolEmpty n mask) (Some decision.PoolEmpty) phase
    (pool_empty_follows mask chosen) among
follows_of decision.Entered phase mask among chosen =
    at_phase_of (λ n. (9 ≤ n) × (n ≤ 16)) (Some decision.Entered) phase entered_follows among

decided_by : (thread : Thread) (index phase mask : ℕ) (decided : Option Decision)
    → index ≢ 0 → IsInFlight thread (flight_of index phase mask decided)
    → IsDecidedSound thread (flight_of index phase mask decided) decided
decided_by thread index phase mask None away flies = record {
  stands = record {
    address = flies.stage.0.address;
    leaf = flies.stage.0.leaf;
    names = flies.stage.0.names;
    away = away;
    binding = flies.binding;
    bound = flies.bound;
  };
  early = at_phase_of (λ n. n ≤ 9) None phase early_all flies.phase;
  key = flies.stage.1;
  mask = flies.mask;
}
decided_by thread index phase mask (Some decided) away flies = follows_of decided phase mask flies.phase flies.mask

-- a flight that is sound is undecided, or its phase follows its decision
pub decided_of : (thread : Thread) (flight : Flight) → flight.index ≢ 0 → IsInFlight thread flight
    → IsDecidedSound thread flight flight.decided
decided_of thread flight away flies = decided_by thread flight.index flight.phase flight.mask flight.decided away flies

-- the index of a flight is that of a binding, so it is not 0
pub flight_away : (state : State) (core : ℕ) (flight : Flight) → AllByRecursion (IsThreadSound state) state.threads
    → IsInFlight (thread_at state core) flight → flight.index ≢ 0
flight_away state core flight all flies none =
    let its : IsThreadSound state (thread_at state core) =
    all_at (IsThreadSound state) state.threads core (thread_at state core) all (running_there state core flies.running) in
    let least = (its.each flight.index flies.binding flies.bound).least in
    let same = (bound_there (thread_at state core).bindings flight.index flies.binding flies.bound).0 in
    omega (arith, least, same, none)

-- ---- the next phase is one of the decision's

-- phases from 0 to 9 are those before the decision
pub listed_early : (phase : ℕ) → phase ≤ 9 → Contains (phases_of None) phase
listed_early zero early = (0, omega arith, refl)
listed_early (suc zero) early = (1, omega arith, refl)
listed_early (suc (suc zero)) early = (2, omega arith, refl)
listed_early (suc (suc (suc zero))) early = (3, omega arith, refl)
listed_early (suc (suc (suc (suc zero)))) early = (4, omega arith, refl)
listed_early (suc (suc (suc (suc (suc zero))))) early = (5, omega arith, refl)
listed_early (suc (suc (suc (suc (suc (suc zero)))))) early = (6, omega arith, refl)
listed_early (suc (suc (suc (suc (suc (suc (suc zero))))))) early = (7, omega arith, refl)
listed_early (suc (suc (suc (suc (suc (suc (suc (suc zero)))))))) early = (8, omega arith, refl)
listed_early (suc (suc (suc (suc (suc (suc (suc (suc (suc zero))))))))) early = (9, omega arith, refl)
listed_early (suc (suc (suc (suc (suc (suc (suc (suc (suc (suc more)))))))))) early = absurd (omega (arith, early))

-- the phase behind one of a decision is one of it
abbrev LeadsOn : Decision → ℕ → ℕ → Type 0
LeadsOn decided mask phase =
    (next : ℕ) → phase_after phase (Some decided) mask ≡ Some next → Contains (phases_of (Some decided)) next

wrong_key_on : (mask : ℕ) → AllByRecursion (LeadsOn decision.WrongKey mask) (phases_of (Some decision.WrongKey))
unfolding phase_after
wrong_key_on mask = (
  λ next is. (1, omega arith, same_some _ _ is),
  (
    λ next is. (2, omega arith, same_some _ _ is),
    (
      λ next is. (3, omega arith, same_some _ _ is),
      (
        λ next is. (4, omega arith, same_some _ _ is),
        (
          λ next is. (5, omega arith, same_some _ _ is),
          (
            λ next is. (6, omega arith, same_some _ _ is),
            (λ next is. (7, omega arith, same_some _ _ is), (λ next is. absurd cc, tt)),
          ),
        ),
      ),
    ),
  ),
)

no_mask : (mask next : ℕ) → mask ≡ 0 → phase_after 4 (Some decision.PoolEmpty) mask ≡ Some next → 19 ≡ next
unfolding phase_after
no_mask mask next zero_mask is = let test : (mask == 0) ≡ true = (Decides-eqb mask 0).1 zero_mask in
    same_some 19 next (rw test at is)

pool_empty_on : (mask : ℕ) → mask ≡ 0
    → AllByRecursion (LeadsOn decision.PoolEmpty mask) (phases_of (Some decision.PoolEmpty))
unfolding phase_after
pool_empty_on mask zero_mask = (
  λ next is. (1, omega arith, same_some _ _ is),
  (
    λ next is. (2, omega arith, no_mask mask next zero_mask is),
    (
      λ next is. (3, omega arith, same_some _ _ is),
      (
        λ next is. (4, omega arith, same_some _ _ is),
        (
          λ next is. (5, omega arith, same_some _ _ is),
          (
            λ next is. (6, omega arith, same_some _ _ is),
            (λ next is. (7, omega arith, same_some _ _ is), (λ next is. absurd cc, tt)),
          ),
        ),
      ),
    ),
  ),
)

entered_on : (mask : ℕ) → AllByRecursion (LeadsOn decision.Entered mask) (phases_of (Some decision.Entered))
unfolding phase_after
entered_on mask = (
  λ next is. (1, omega arith, same_some _ _ is),
  (
    λ next is. (2, omega arith, same_some _ _ is),
    (
      λ next is. (3, omega arith, same_some _ _ is),
      (
        λ next is. (4, omega arith, same_some _ _ is),
        (
          λ next is. (5, omega arith, same_some _ _ is),
          (
            λ next is. (6, omega arith, same_some _ _ is),
            (λ next is. (7, omega arith, same_some _ _ is), (λ next is. absurd cc, tt)),
          ),
        ),
      ),
    ),
  ),
)

pub listed_on : (decided : Decision) (phase mask next : ℕ) → Contains (phases_of (Some decided)) phase
    → IsMask (Some decided) phase mask
    → phase_after phase (Some decided) mask ≡ Some next → Contains (phases_of (Some decided)) next
listed_on decision.WrongKey phase mask next among chosen =
    at_phase_of (LeadsOn decision.WrongKey mask) (Some decision.WrongKey) phase (wrong_key_on mask) among next
listed_on decision.PoolEmpty phase mask next among chosen =
    at_phase_of (LeadsOn decision.PoolEmpty mask) (Some decision.PoolEmpty) phase (pool_empty_on mask chosen) among next
listed_on decision.Entered phase mask next among chosen =
    at_phase_of (LeadsOn decision.Entered mask) (Some decision.Entered) phase (entered_on mask) among next

-- the phase that takes a decision
abbrev pub deciding_phase : Decision → ℕ
deciding_phase decision.WrongKey = 0
deciding_phase decision.PoolEmpty = 2
deciding_phase decision.Entered = 8

behind_deciding : (decided : Decision) (mask next : ℕ) → phase_after (deciding_phase decided) (Some decided) mask ≡ Some next
    → Contains (phases_of (Some decided)) next
unfolding phase_after
behind_deciding decision.WrongKey mask next is = (0, omega arith, same_some _ _ is)
behind_deciding decision.PoolEmpty mask next is = (0, omega arith, same_some _ _ is)
behind_deciding decision.Entered mask next is = (0, omega arith, same_some _ _ is)

-- the phase behind the deciding one is one of the decision's
pub listed_first : (decided : Decision) (phase mask next : ℕ) → phase ≡ deciding_phase decided
    → phase_after phase (Some decided) mask ≡ Some next → Contains (phases_of (Some decided)) next
listed_first decided phase mask next at is =
    behind_deciding decided mask next (subst (λ n. phase_after n (Some decided) mask ≡ Some next) at is)
