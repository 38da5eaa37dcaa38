-- The line of a step in flight: a landing line, or that of the decision.
use Rattle.std.proofs.Common.{◌≡◌, ◌≢◌, ◌∙◌, sym, ap, subst, ℕ, ◌==◌, refl}
use Rattle.std.specs.Prelude.{Option, Some, None}
use Rattle.std.proofs.lemmas.Bool.Decides.{Decides-eqb}
use Rattle.std.proofs.lemmas.Bool.{eqb-false}
use Rattle.sb_trace.specs.declared.event.Event.TheVariants.{WrongKey, PoolEmpty, Entered}
use Rattle.sb_state.specs.declared.end_kind.EndKind.{EndKind}
use Rattle.sb_state.specs.declared.end_kind.EndKind.TheVariants.{Running, Ended, Faulted}
use Rattle.sb_state.specs.declared.state.Binding.{Binding}
use Rattle.sb_state.specs.declared.state.Decision.{Decision}
use Rattle.sb_state.specs.declared.state.Decision.TheVariants as decision
use Rattle.sb_state.specs.declared.state.Flight.{Flight}
use Rattle.sb_state.specs.declared.state.Thread.{Thread}
use Rattle.sb_state.specs.State.{State, thread_at, flight_at}
use Rattle.sb_state.specs.Registers.{eax, ecx, rsi}
use Rattle.sb_trace.specs.Home.{Outcome}
use Rattle.sb_trace.specs.KernelCall.{binding_with, pool_word, call_outcome, outcome_by_index, kernel_call, lowest_bit}
use Rattle.sb_trace.specs.Flight.{flight_binding, is_key, bound_pool, decision_at_phase, phase_outcome, landing_step}
use Rattle.sb_trace.specs.Step.{GoesOn, StepsBy}
use Rattle.sb_trace.specs.Sound.{IsFlightSound}
use Rattle.sb_trace.specs.Laws.{IsLineOf, IsFlightLine, FlightLines, decision_at}
use Rattle.sb_state.proofs.Cases.{claim_if, clash, none_some}
use Rattle.sb_trace.proofs.Threads.{bound_there}
use Rattle.sb_trace.proofs.InFlight.{flight_of, StandsAtCall, IsDecidedSound, decided_of, flight_away}
use Rattle.sb_trace.proofs.Phases.{decides, decides_no_more}
use Rattle.sb_trace.proofs.Deciding.{Sees, decided_sees}
use Rattle.sb_trace.proofs.Flights.{mask_after}

-- ---- the kernel's call at the VMFUNC

-- the line of a decision, as that of an outcome
abbrev HasLine : Decision → ℕ → Outcome → Type 0
HasLine decided index outcome = IsLineOf decided index outcome.0

bound_line : (state : State) (core index : ℕ) (binding : Binding) (decided : Decision) → binding.index ≡ index
    → Sees decided (rsi (thread_at state core).regs == binding.key) (pool_word state binding.server)
    → HasLine decided index (call_outcome state core (thread_at state core) index (Some binding))
bound_line state core index binding decision.WrongKey same sees =
    claim_if (HasLine decision.WrongKey index) (rsi (thread_at state core).regs == binding.key) _ _
    (λ fits. absurd (clash _ fits sees)) (λ wrong. ap (λ n. WrongKey n) same)
bound_line state core index binding decision.PoolEmpty same sees =
    claim_if (HasLine decision.PoolEmpty index) (rsi (thread_at state core).regs == binding.key) _ _
    (λ fits. claim_if (HasLine decision.PoolEmpty index) (pool_word state binding.server == 0) _ _
    (λ none. ap (λ n. PoolEmpty n) same)
    (λ some. absurd (eqb-false _ 0 some sees.1)))
    (λ wrong. absurd (clash _ sees.0 wrong))
bound_line state core index binding decision.Entered same sees =
    claim_if (HasLine decision.Entered index) (rsi (thread_at state core).regs == binding.key) _ _
    (λ fits. claim_if (HasLine decision.Entered index) (pool_word state binding.server == 0) _ _
    (λ none. absurd (sees.1 ((Decides-eqb (pool_word state binding.server) 0).0 none)))
    (λ some. (
      lowest_bit (pool_word state binding.server),
      ap (λ n. Entered n (lowest_bit (pool_word state binding.server))) same,
    )))
    (λ wrong. absurd (clash _ sees.0 wrong))

through_line : (state : State) (core index : ℕ) (found : Option Binding) (binding : Binding) (decided : Decision)
    → found ≡ Some binding → binding.index ≡ index
    → Sees decided (rsi (thread_at state core).regs == binding.key) (pool_word state binding.server)
    → HasLine decided index (call_outcome state core (thread_at state core) index found)
through_line state core index found binding decided is same sees =
    subst (λ one. HasLine decided index (call_outcome state core (thread_at state core) index one)) (sym is)
    (bound_line state core index binding decided same sees)

called_line : (state : State) (core leaf index : ℕ) (binding : Binding) (decided : Decision) → leaf ≡ 0 → index ≢ 0
    → binding_with (thread_at state core).bindings index ≡ Some binding
    → Sees decided (rsi (thread_at state core).regs == binding.key) (pool_word state binding.server)
    → HasLine decided index (outcome_by_index state core (thread_at state core) leaf index)
called_line state core leaf index binding decided none away bound sees =
    claim_if (HasLine decided index) (leaf == 0) _ _
    (λ switches. claim_if (HasLine decided index) (index == 0) _ _ (λ home. absurd (away ((Decides-eqb index 0).0 home)))
    (λ server. through_line state core index (binding_with (thread_at state core).bindings index) binding decided bound
    (bound_there (thread_at state core).bindings index binding bound).0 sees))
    (λ bad. absurd (eqb-false leaf 0 bad none))

call_line : (state : State) (core index : ℕ) (stands : StandsAtCall (thread_at state core) index) (decided : Decision)
    → Sees decided (rsi (thread_at state core).regs == stands.binding.key) (pool_word state stands.binding.server)
    → HasLine decided index (kernel_call state core)
unfolding kernel_call
call_line state core index stands decided sees =
    subst (λ n. HasLine decided n
    (outcome_by_index state core (thread_at state core) (eax (thread_at state core).regs) (ecx (thread_at state core).regs)))
    stands.names
    (called_line state core (eax (thread_at state core).regs) (ecx (thread_at state core).regs) stands.binding decided stands.leaf
    (λ zero. stands.away (sym stands.names ∙ zero))
    (subst (λ n. binding_with (thread_at state core).bindings n ≡ Some stands.binding) (sym stands.names) stands.bound) sees)

-- ---- a step in flight

landed_line : (state : State) (core index phase mask pool : ℕ) (before : Option Decision) (decided : Option Decision)
    → decision_at_phase phase (is_key (binding_with (thread_at state core).bindings index) (rsi (thread_at state core).regs))
    (bound_pool state (binding_with (thread_at state core).bindings index)) mask
    ≡ decided
    → IsDecidedSound (thread_at state core) (flight_of index phase mask before) before
    → IsFlightLine phase decided index
    (phase_outcome state core (flight_of index phase (mask_after phase pool mask) before) decided).0
landed_line state core index phase mask pool before None is sound = refl
landed_line state core index phase mask pool None (Some decided) is sound =
    call_line state core index sound.stands decided
    (decided_sees state (thread_at state core) index phase mask sound decided (decides phase _ _ mask decided is))
landed_line state core index phase mask pool (Some one) (Some decided) is sound =
    absurd (none_some (decision_at_phase phase _ _ mask) decided (decides_no_more one phase _ _ mask mask sound) is)

flown_line : (state : State) (core : ℕ) (flight : Flight) → flight.index ≢ 0
    → IsFlightSound (thread_at state core) (Some flight)
    → IsFlightLine flight.phase (decision_at state core flight) flight.index (landing_step state core flight).0
unfolding landing_step
flown_line state core flight away sound =
    landed_line state core flight.index flight.phase flight.mask
    (bound_pool state (flight_binding (thread_at state core) flight)) flight.decided
    (decision_at state core flight) refl (decided_of (thread_at state core) flight away sound)

on_line : (state : State) (core : ℕ) (flight : Flight) (found : Option Flight) (outcome : Outcome) → found ≡ Some flight
    → flight.index ≢ 0 → IsFlightSound (thread_at state core) (Some flight)
    → GoesOn state core (thread_at state core) found outcome
    → IsFlightLine flight.phase (decision_at state core flight) flight.index outcome.0
on_line state core flight None outcome at away sound runs = absurd cc
on_line state core flight (Some one) outcome at away sound is =
    let same : one ≡ flight = cc in
    subst (λ (end : Outcome). IsFlightLine flight.phase (decision_at state core flight) flight.index end.0)
    (ap (landing_step state core) (sym same) ∙ sym is)
    (flown_line state core flight away sound)

-- a thread that has ended is in no flight
ended_line : (thread : Thread) (end : EndKind) → thread.state ≡ end → thread.state ≡ Running → end ≢ Running → ⊥
ended_line thread end ended running other = other (sym ended ∙ running)

by_line : (state : State) (core : ℕ) (flight : Flight) (end : EndKind) (outcome : Outcome)
    → (thread_at state core).state ≡ end → flight_at state core ≡ Some flight
    → flight.index ≢ 0 → IsFlightSound (thread_at state core) (Some flight)
    → StepsBy state core (thread_at state core) end outcome
    → IsFlightLine flight.phase (decision_at state core flight) flight.index outcome.0
by_line state core flight Running outcome ended at away sound runs =
    on_line state core flight (flight_at state core) outcome at away sound runs
by_line state core flight (Ended status) outcome ended at away sound is =
    absurd (ended_line (thread_at state core) (Ended status) ended sound.running (λ same. cc))
by_line state core flight (Faulted kind address) outcome ended at away sound is =
    absurd (ended_line (thread_at state core) (Faulted kind address) ended sound.running (λ same. cc))

pub flight_lines : FlightLines
flight_lines old core event new flight sound steps at =
    let flies : IsFlightSound (thread_at old core) (Some flight) =
    subst (IsFlightSound (thread_at old core)) at (sound.flights core) in
    by_line old core flight (thread_at old core).state (event, new) refl at (flight_away old core flight sound.threads flies)
    flies steps
