-- A thread and its flight behind a phase of the plain machine.
use Rattle.std.proofs.Common.{◌≡◌, ◌≢◌, ◌∙◌, sym, ap, subst, ℕ, ◌<◌, Bool, length, refl, arith}
use Rattle.std.specs.Prelude.{Option, Some, None}
use Rattle.std.specs.Option.{option_map}
use Rattle.std.specs.List.{Contains}
use Rattle.std.proofs.lemmas.Option.{slice_get_within}
use Rattle.sb_abi.specs.declared.trampoline.TheConstants.{ENTER, GO_HOME}
use Rattle.sb_state.specs.Registers.{rsi}
use Rattle.sb_state.specs.declared.state.Binding.{Binding}
use Rattle.sb_state.specs.declared.state.Decision.{Decision}
use Rattle.sb_state.specs.declared.state.Decision.TheVariants as decision
use Rattle.sb_state.specs.declared.state.Flight.{Flight}
use Rattle.sb_state.specs.declared.state.Thread.{Thread}
use Rattle.sb_trace.specs.declared.event.Event.{Event}
use Rattle.sb_trace.specs.declared.event.Event.TheVariants as event
use Rattle.sb_trace.specs.State.{State, thread_at, flight_at, with_flight}
use Rattle.sb_trace.specs.Home.{Outcome}
use Rattle.sb_trace.specs.Flight.{flight_binding, is_key, bound_pool, with_mask, decision_at_phase, phase_after, at_phase, phase_outcome, landing_step}
use Rattle.sb_trace.specs.KernelCall.{kernel_call}
use Rattle.sb_trace.specs.Sound.{IsSound, IsInFlight, IsThreadOfFlight, phases_of}
use Rattle.sb_trace.proofs.Kernel.{IsOwn, did_call}
use Rattle.sb_trace.proofs.Threads.{running_there}
use Rattle.sb_landing.proofs.Bound.{flight_sound}
use Rattle.sb_landing.proofs.Walk.{flight_placed}
use Rattle.sb_shows.specs.Shows.{index_of}
use Rattle.sb_machine.specs.declared.processor.Origin.{Origin}
use Rattle.sb_machine.specs.Outcomes.{origin_behind}
use Rattle.sb_machine.specs.StandsFor.{origin_by, origin_of}
use Rattle.sb_machine.proofs.Phases.{undecided_goes_on, wrong_key_ends, pool_empty_ends, entered_ends, enter_ends, home_ends, enter_lands, home_lands, deciding_goes_on}

-- a line of the kernel lets go where the thread stood
own_line : (line : Event) (origin : Option Origin) → IsOwn line → origin_behind line origin ≡ None
own_line (event.Landing phase) origin own = absurd own
own_line event.Idle origin own = absurd own
own_line _ origin own = refl

-- a flight keeps its index, or ends in the view to which it led or at home; where the thread stood is kept until the decision
pub record IsAfterPhase (state : State) (number : ℕ) (flight : Flight) (outcome : Outcome) : Type 0 where
  pub index : flight.phase ≢ GO_HOME
      → index_of (flight_at outcome.1 number) (thread_at outcome.1 number).view ≡ flight.index
  pub origin : (origin : Option Origin) → origin ≡ origin_of (thread_at state number) (Some flight)
      → origin_behind outcome.0 origin ≡ origin_of (thread_at outcome.1 number) (flight_at outcome.1 number)
  pub lands : flight_at outcome.1 number ≡ None → thread_at outcome.1 number ≡ thread_at state number
  pub enters : flight.phase ≢ GO_HOME → flight_at outcome.1 number ≡ None → flight.phase ≡ ENTER
  pub home : flight.phase ≡ GO_HOME → flight_at outcome.1 number ≡ None
  pub goes : (next : Flight) → flight_at outcome.1 number ≡ Some next → flight.phase ≢ ENTER

module _ (state : State) (number : ℕ) (flight : Flight) (sound : IsSound state)
    (flying : flight_at state number ≡ Some flight) where
  abbrev thread : Thread
  thread = thread_at state number

  flies : IsInFlight thread flight
  flies = flight_sound state number flight sound flying

  inside : number < length state.flights
  inside =
      let small = slice_get_within state.threads number thread (running_there state number flies.running) in
      let places = sound.places in
      omega (arith, small, places)

  -- ---- a phase that lands

  thread_stays : (next : Option Flight) → thread_at (with_flight state number next) number ≡ thread
  unfolding with_flight thread_at
  thread_stays next = refl

  abbrev lands_at : Option Flight → Outcome
  lands_at next = (event.Landing flight.phase, with_flight state number next)

  goes_on : (mask phase : ℕ) → phase_after flight.phase flight.decided mask ≡ Some phase
      → IsAfterPhase state number flight (lands_at (Some (at_phase (record flight { mask = mask }) phase)))
  goes_on mask phase is =
      let next : Flight = at_phase (record flight { mask = mask }) phase in
      let placed = flight_placed state number (Some next) inside in
      record {
        index = λ away.
            ap (λ found. index_of found (thread_at (with_flight state number (Some next)) number).view) placed;
        origin = λ origin was.
            was
            ∙ sym (ap (λ found. origin_of (thread_at (with_flight state number (Some next)) number) found) placed
            ∙ ap (λ (one : Thread). origin_of one (Some next)) (thread_stays (Some next)));
        lands = λ none. absurd cc;
        enters = λ away none. absurd cc;
        home = λ at_home.
            let none : phase_after flight.phase flight.decided mask ≡ None =
            ap (λ phase. phase_after phase flight.decided mask) at_home ∙ home_ends flight.decided mask in
            absurd cc;
        goes = λ other placed' enters.
            let none : phase_after flight.phase flight.decided mask ≡ None =
            ap (λ phase. phase_after phase flight.decided mask) enters ∙ enter_ends flight.decided mask in
            cc;
      }

  -- where it ends, the thread is in the view to which it led, unless it goes home
  in_view_by : (decided : Option Decision) (mask : ℕ) (binding : Binding) → Contains (phases_of decided) flight.phase
      → flight.decided ≡ decided → IsThreadOfFlight decided thread flight binding
      → phase_after flight.phase decided mask ≡ None → flight.phase ≢ GO_HOME → thread.view ≡ flight.index
  in_view_by None mask binding among was stage none away =
      absurd (undecided_goes_on thread flight mask flies was none)
  in_view_by (Some decision.WrongKey) mask binding among was stage none away =
      absurd (away (wrong_key_ends mask flight.phase among none))
  in_view_by (Some decision.PoolEmpty) mask binding among was stage none away =
      absurd (away (pool_empty_ends mask flight.phase among none))
  in_view_by (Some decision.Entered) mask binding among was stage none away = stage

  was_decided : (decided : Option Decision) (mask : ℕ) → flight.decided ≡ decided → phase_after flight.phase decided mask ≡ None
      → origin_of thread (Some flight) ≡ None
  was_decided None mask was none = absurd (undecided_goes_on thread flight mask flies was none)
  was_decided (Some decided) mask was none = ap (λ found. origin_by thread found) was

  enters_by : (decided : Option Decision) (mask : ℕ) → Contains (phases_of decided) flight.phase → flight.decided ≡ decided
      → phase_after flight.phase decided mask ≡ None → flight.phase ≢ GO_HOME → flight.phase ≡ ENTER
  enters_by None mask among was none away = absurd (undecided_goes_on thread flight mask flies was none)
  enters_by (Some decision.WrongKey) mask among was none away = absurd (away (wrong_key_ends mask flight.phase among none))
  enters_by (Some decision.PoolEmpty) mask among was none away = absurd (away (pool_empty_ends mask flight.phase among none))
  enters_by (Some decision.Entered) mask among was none away = entered_ends mask flight.phase among none

  ends : (mask : ℕ) → phase_after flight.phase flight.decided mask ≡ None → IsAfterPhase state number flight (lands_at None)
  ends mask none =
      let placed = flight_placed state number None inside in
      record {
        index = λ away.
            ap (λ found. index_of found (thread_at (with_flight state number None) number).view) placed
            ∙ (ap (λ (one : Thread). one.view) (thread_stays None)
            ∙ in_view_by flight.decided mask flies.binding flies.phase refl flies.stage none away);
        origin = λ origin was.
            was
            ∙ (was_decided flight.decided mask refl none
            ∙ sym (ap (λ found. origin_of (thread_at (with_flight state number None) number) found) placed));
        lands = λ none. thread_stays None;
        enters = λ away landed. enters_by flight.decided mask flies.phase refl none away;
        home = λ at_home. placed;
        goes = λ other placed'. absurd cc;
      }

  by_next : (mask : ℕ) (found : Option ℕ) → phase_after flight.phase flight.decided mask ≡ found
      → IsAfterPhase state number flight (lands_at (option_map (at_phase (record flight { mask = mask })) found))
  by_next mask None none = ends mask none
  by_next mask (Some phase) is = goes_on mask phase is

  -- ---- a phase that decides

  abbrev called : State
  called = (kernel_call state number).1

  abbrev decides_at : Option Flight → Outcome
  decides_at next = ((kernel_call state number).0, with_flight called number next)

  inside_called : number < length called.flights
  inside_called = subst (λ flights. number < length flights) (sym (did_call state number).flights) inside

  decides : (decided : Decision) (mask phase : ℕ) → flight.phase ≢ ENTER → flight.phase ≢ GO_HOME
      → IsAfterPhase state number flight
      (decides_at (Some (at_phase (record flight { mask = mask; decided = Some decided }) phase)))
  decides decided mask phase early away =
      let next : Flight = at_phase (record flight { mask = mask; decided = Some decided }) phase in
      let placed = flight_placed called number (Some next) inside_called in
      record {
        index = λ away.
            ap (λ found. index_of found (thread_at (with_flight called number (Some next)) number).view) placed;
        origin = λ origin was.
            own_line (kernel_call state number).0 origin (did_call state number).own
            ∙ sym (ap (λ found. origin_of (thread_at (with_flight called number (Some next)) number) found) placed);
        lands = λ none. absurd cc;
        enters = λ away none. absurd cc;
        home = λ at_home. absurd (away at_home);
        goes = λ other placed'. early;
      }

  by_decided : (decided : Decision) (mask : ℕ) (found : Option ℕ) → flight.phase ≢ ENTER → flight.phase ≢ GO_HOME
      → found ≢ None
      → IsAfterPhase state number flight
      (decides_at (option_map (at_phase (record flight { mask = mask; decided = Some decided })) found))
  by_decided decided mask None early away some = absurd (some refl)
  by_decided decided mask (Some phase) early away some = decides decided mask phase early away

  -- ---- each

  abbrev pool : ℕ
  pool = bound_pool state (flight_binding thread flight)

  abbrev fits : Bool
  fits = is_key (flight_binding thread flight) (rsi thread.regs)

  abbrev masked : Flight
  masked = with_mask pool flight

  by_decision : (decided : Option Decision) → decision_at_phase flight.phase fits pool flight.mask ≡ decided
      → IsAfterPhase state number flight (phase_outcome state number masked decided)
  by_decision None is = by_next masked.mask (phase_after flight.phase flight.decided masked.mask) refl
  by_decision (Some decided) is =
      by_decided decided masked.mask (phase_after flight.phase (Some decided) masked.mask)
      (λ enters.
      let none : decision_at_phase flight.phase fits pool flight.mask ≡ None =
      ap (λ phase. decision_at_phase phase fits pool flight.mask) enters ∙ enter_lands pool flight.mask fits in
      cc)
      (λ at_home.
      let none : decision_at_phase flight.phase fits pool flight.mask ≡ None =
      ap (λ phase. decision_at_phase phase fits pool flight.mask) at_home ∙ home_lands pool flight.mask fits in
      cc)
      (deciding_goes_on flight.phase pool flight.mask masked.mask fits decided decided is)

  pub after_phase : IsAfterPhase state number flight (landing_step state number flight)
  unfolding landing_step
  after_phase = by_decision (decision_at_phase flight.phase fits pool flight.mask) refl
