-- A step of a thread in flight: the instruction of its phase.
use Rattle.std.proofs.Common.{◌≡◌, ◌≢◌, ◌∙◌, sym, ap, subst, ℕ, ◌<◌, ◌==◌, ◌&&◌, not, Bool, true, false, length, refl, Result, Ok}
use Rattle.std.specs.Prelude.{Option, Some, None, slice_index, if◌then◌else◌}
use Rattle.std.specs.Option.{option_map}
use Rattle.std.proofs.lemmas.Bool.Decides.{Decides-eqb}
use Rattle.sb_abi.specs.declared.trampoline.TheConstants.{COMPARE_KEY, LOAD_POOL, EXCHANGE_POOL, ENTER, GO_HOME}
use Rattle.sb_insn.specs.declared.insn.Insn.{Insn}
use Rattle.sb_insn.specs.declared.registers.Regs.{Regs}
use Rattle.sb_bus.specs.declared.stop.BusStop.{BusStop}
use Rattle.sb_exec.specs.Fetching.{FetchesOn}
use Rattle.sb_exec.specs.Simulation.{Alike}
use Rattle.sb_exec.proofs.OneFetch.{one_fetch_on}
use Rattle.sb_root.specs.Root.{list_entry}
use Rattle.sb_state.proofs.Cases.{claim_if}
use Rattle.sb_state.specs.declared.end_kind.EndKind.{EndKind}
use Rattle.sb_state.specs.declared.state.Flight.{Flight}
use Rattle.sb_state.specs.declared.state.Thread.{Thread}
use Rattle.sb_trace.specs.declared.event.Event.{Event}
use Rattle.sb_trace.specs.State.{State, thread_at, flight_at}
use Rattle.sb_trace.specs.PlainMemory.{plain}
use Rattle.sb_trace.specs.Home.{Outcome as PlainOutcome}
use Rattle.sb_trace.specs.Flight.{landing_step}
use Rattle.sb_trace.specs.Changes.{LineChanges}
use Rattle.sb_trace.specs.Sound.{IsInFlight}
use Rattle.sb_trace.specs.Step.{GoesOn, StepsBy, Steps, execution_in_view}
use Rattle.sb_trace.specs.End.{phase_of}
use Rattle.sb_trace.proofs.Steps.{steps_change}
use Rattle.sb_trace.proofs.SoundRuns.{steps_keep_sound}
use Rattle.sb_landing.specs.Rows.{row_at, address_of}
use Rattle.sb_landing.specs.Lands.{effect_at, behind, line_of}
use Rattle.sb_landing.specs.Related.{Begun, IsBeside}
use Rattle.sb_landing.specs.Laws.{begun_behind, StepsBeside, StepsStayBeside}
use Rattle.sb_landing.proofs.Bound.{flight_sound}
use Rattle.sb_landing.proofs.Steps.{at_row}
use Rattle.sb_shows.specs.Related.{Sees}
use Rattle.sb_shows.specs.Shows.{index_of, present_index}
use Rattle.sb_machine.specs.declared.processor.Core.{Core}
use Rattle.sb_machine.specs.Machine.{Machine, core_at, state_at, regs_of, with_core}
use Rattle.sb_machine.specs.Outcomes.{line_by, origin_behind, core_behind, next_outcome}
use Rattle.sb_machine.specs.Phase.{phase_at, phase_behind}
use Rattle.sb_machine.specs.StandsFor.{IsCoreOf, IsMachineOf}
use Rattle.sb_machine.specs.Written.{FetchesNext, execution_on}
use Rattle.sb_machine.specs.Laws.{Follows}
use Rattle.sb_machine.proofs.Afterwards.{afterwards}
use Rattle.sb_machine.proofs.FlightAfter.{IsAfterPhase, after_phase}
use Rattle.sb_machine.proofs.Executed.{IsQuiet, instruction_stands}
use Rattle.sb_machine.proofs.Following.{follows_by}
use Rattle.sb_machine.proofs.Phases.{phase_read}
use Rattle.sb_machine.proofs.Seeing.{eptp_is, fetched, executed}

apart_by : (test : Bool) (first second : ℕ) → (first == second) ≡ test → first ≢ second → test ≡ false
apart_by false first second is apart = refl
apart_by true first second is apart = absurd (apart ((Decides-eqb first second).0 is))

-- numbers that differ are not tested to be the same
pub apart_test : (first second : ℕ) → first ≢ second → (first == second) ≡ false
apart_test first second apart = apart_by (first == second) first second refl apart

-- ---- what a step in flight leaves

-- by its line a step in flight changes no binding, process, free frame or key word
quiet_line : (state next : State) (number phase index : ℕ) (regs : Regs)
    → LineChanges state number (line_of phase index regs) next → IsQuiet state next
quiet_line state next number phase index regs =
    claim_if (λ (line : Event). LineChanges state number line next → IsQuiet state next)
    ((phase == COMPARE_KEY) && not regs.flags.zf) _ _
    (λ is changes. record {
      bindings = changes.bindings;
      processes = changes.processes;
      free = changes.free;
      keys = changes.keys;
    })
    (λ is. claim_if (λ (line : Event). LineChanges state number line next → IsQuiet state next)
    ((phase == LOAD_POOL) && (slice_index regs.general 0 == 0)) _ _
    (λ is changes. record {
      bindings = changes.bindings;
      processes = changes.processes;
      free = changes.free;
      keys = changes.keys;
    })
    (λ is. claim_if (λ (line : Event). LineChanges state number line next → IsQuiet state next)
    ((phase == EXCHANGE_POOL) && regs.flags.zf) _ _
    (λ is changes. record {
      bindings = changes.only.bindings;
      processes = changes.only.processes;
      free = changes.only.free;
      keys = changes.only.keys;
    })
    (λ is changes. record {
      bindings = changes.0.bindings;
      processes = changes.0.processes;
      free = changes.0.free;
      keys = changes.0.keys;
    })))

module _ (machine : Machine) (state : State) (is : IsMachineOf machine state) (number : ℕ) (there : number < length machine.cores)
    (flight : Flight) (flying : flight_at state number ≡ Some flight) (law : StepsStayBeside) where
  pub flies : IsInFlight (thread_at state number) flight
  flies = flight_sound state number flight is.sound flying

  pub core_is : IsCoreOf (thread_at state number) (Some flight) (core_at machine number)
  core_is = subst (λ found. IsCoreOf (thread_at state number) found (core_at machine number)) flying (is.cores number)

  abbrev pub outcome : PlainOutcome
  outcome = landing_step state number flight

  abbrev pub next : State
  next = outcome.1

  pub plain_step : Steps state number outcome.0 next
  plain_step =
      subst (λ (end : EndKind). StepsBy state number (thread_at state number) end outcome) (sym flies.running)
      (subst (λ found. GoesOn state number (thread_at state number) found outcome) (sym flying) refl)

  pub lands : StepsBeside state number outcome.0 next flight is.begun (regs_of machine)
  lands = law state number outcome.0 next flight is.begun (regs_of machine) is.sound is.beside flying plain_step

  pub index_is : present_index state number ≡ flight.index
  index_is = ap (λ found. index_of found (thread_at state number).view) flying

  abbrev pub insn : Insn
  insn = (row_at flight.phase).insn

  -- what the core fetches is the instruction of the phase
  pub fetches_row : (result : Result Insn BusStop) → FetchesNext machine number result → result ≡ Ok insn
  fetches_row result fetches =
      let here : FetchesOn (plain number flight.index) state (regs_of machine number).rip tt tt result =
      subst (λ (index : ℕ). FetchesOn (plain number index) state (regs_of machine number).rip tt tt result) index_is
      (fetched machine state is number there result fetches) in
      (one_fetch_on (plain number flight.index) state (regs_of machine number).rip tt tt tt result (Ok insn) here lands.fetched).0

  alike : Alike (Sees is.stands.placement number (present_index state number))
      (execution_in_view state number (present_index state number) insn (regs_of machine number))
      (execution_on machine number insn)
  alike = executed machine state is number there insn

  pub same_execution : execution_in_view state number (present_index state number) insn (regs_of machine number)
      ≡ execution_in_view state number flight.index insn (regs_of machine number)
  same_execution = ap (λ (index : ℕ). execution_in_view state number index insn (regs_of machine number)) index_is

  pub answers : (execution_on machine number insn).answer ≡ Ok (effect_at flight.phase)
  answers = alike.answer ∙ (ap (λ one. one.answer) same_execution ∙ lands.answer)

  abbrev regs : Regs
  regs = (execution_on machine number insn).registers

  pub regs_are : regs ≡ (execution_in_view state number flight.index insn (regs_of machine number)).registers
  regs_are = alike.registers ∙ ap (λ one. one.registers) same_execution

  pub after : IsAfterPhase state number flight outcome
  after = after_phase state number flight is.sound flying

  set_own : {A : Type 0} (value : A) (values : ℕ → A) → (if number == number then value else values number) ≡ value
  set_own value values = let same : (number == number) ≡ true = (Decides-eqb number number).1 refl in rw same refl

  -- the registers that the law gives for the core
  pub law_beside : IsBeside next number (flight_at next number) (begun_behind (flight_at next number) (is.begun number))
      (behind flight.phase (execution_in_view state number flight.index insn (regs_of machine number)).registers)
  law_beside =
      let begun = begun_behind (flight_at next number) (is.begun number) in
      let real = behind flight.phase (execution_in_view state number flight.index insn (regs_of machine number)).registers in
      subst (λ (one : Begun). IsBeside next number (flight_at next number) one real) (set_own begun is.begun)
      (subst (λ (one : Regs). IsBeside next number (flight_at next number)
      (if number == number then begun else is.begun number) one)
      (set_own real (regs_of machine)) (lands.beside number))

  -- ---- it goes on

  module _ (away : flight.phase ≢ GO_HOME) where
    test : (flight.phase == GO_HOME) ≡ false
    test = apart_test flight.phase GO_HOME away

    abbrev begun_next : Begun
    begun_next = begun_behind (flight_at next number) (is.begun number)

    beside_next : IsBeside next number (flight_at next number) begun_next regs
    beside_next =
        let real : behind flight.phase (execution_in_view state number flight.index insn (regs_of machine number)).registers
        ≡ regs = rw test (sym regs_are) in
        subst (λ (one : Regs). IsBeside next number (flight_at next number) begun_next one) real law_beside

    line_is : line_by (state_at machine number).phase (state_at machine number).view (regs_of machine number).rip regs ≡ outcome.0
    line_is =
        ap (λ (phase : Option ℕ). line_by phase (state_at machine number).view (regs_of machine number).rip regs) core_is.phase
        ∙ (ap (λ (view : ℕ). line_of flight.phase view regs) core_is.view
        ∙ (ap (line_of flight.phase flight.index) regs_are ∙ sym lands.line))

    -- the phase behind it is read off RIP
    phase_by : (found : Option Flight) → flight_at next number ≡ found → IsBeside next number found begun_next regs
        → (if flight.phase == ENTER then None else phase_at regs.rip) ≡ option_map phase_of found
    phase_by None landed beside = let enters = after.enters away landed in rw enters refl
    phase_by (Some flight') placed beside =
        let early : (flight.phase == ENTER) ≡ false = apart_test flight.phase ENTER (after.goes flight' placed) in
        let row : regs.rip ≡ address_of flight'.phase =
        at_row next number flight' begun_next.start begun_next.failed regs beside in
        let sound' = flight_sound next number flight'
        (steps_keep_sound state number outcome.0 next is.sound plain_step) placed in
        rw early (ap phase_at row ∙ phase_read (thread_at next number) flight' sound')

    end_by : (found : Option Flight) → flight_at next number ≡ found
        → (core_at machine number).end ≡ (thread_at next number).state
    end_by None landed = core_is.end ∙ sym (ap (λ (one : Thread). one.state) (after.lands landed))
    end_by (Some flight') placed =
        let sound' = flight_sound next number flight'
        (steps_keep_sound state number outcome.0 next is.sound plain_step) placed in
        core_is.end ∙ (flies.running ∙ sym sound'.running)

    abbrev core : Core
    core = core_behind (core_at machine number) regs

    core_next : IsCoreOf (thread_at next number) (flight_at next number) core
    core_next = record {
      view = core_is.view ∙ sym (after.index away);
      phase = ap (λ (phase : Option ℕ). phase_behind phase regs.rip) core_is.phase
          ∙ phase_by (flight_at next number) refl beside_next;
      end = end_by (flight_at next number) refl;
      origin = ap (λ (line : Event). origin_behind line (core_at machine number).origin) line_is
          ∙ after.origin (core_at machine number).origin core_is.origin;
    }

    pub goes_on_follows : Follows
        (next_outcome machine number regs (execution_on machine number insn).meaning.physical).1 state number
        (next_outcome machine number regs (execution_on machine number insn).meaning.physical).0
    goes_on_follows =
        let new : Machine = record (with_core machine number core) {
          memory = (execution_on machine number insn).meaning.physical;
        } in
        let quiet : IsQuiet state next =
        quiet_line state next number flight.phase flight.index
        (execution_in_view state number flight.index insn (regs_of machine number)).registers
        (subst (λ (line : Event). LineChanges state number line next) lands.line
        (steps_change state number outcome.0 next plain_step).rest) in
        let pages = sym lands.memory ∙ sym (ap (λ one. one.meaning.pages) same_execution) in
        subst (λ (line : Event). Follows new state number line) (sym line_is)
        (follows_by new state number outcome.0 next is.sound plain_step
        (afterwards machine new state next number outcome.0 core begun_next is there plain_step
        (instruction_stands machine state next number outcome.0 insn is there plain_step quiet pages)
        (record { lists = λ n. refl; views = λ n view set. refl })
        (record {
          cr3 = refl;
          list = refl;
          eptp = eptp_is machine state is number there
              ∙ ap (list_entry machine.root number) (index_is ∙ sym (after.index away));
          beside = beside_next;
          own = core_next;
        }) refl))
