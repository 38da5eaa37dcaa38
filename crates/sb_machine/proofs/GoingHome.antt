-- The last step of a refused call in flight: VMFUNC leads home.
use Rattle.std.proofs.Common.{◌≡◌, ◌≢◌, ◌∙◌, sym, ap, subst, ℕ, ◌<◌, length, refl, arith, Result, Ok}
use Rattle.std.specs.Prelude.{Option, Some, None, map}
use Rattle.std.specs.List.{Contains}
use Rattle.sb_abi.specs.Numbers.{status_number}
use Rattle.sb_abi.specs.declared.call.CallStatus.TheVariants as status
use Rattle.sb_abi.specs.declared.trampoline.TheConstants.{GO_HOME}
use Rattle.sb_insn.specs.declared.insn.Insn.{Insn}
use Rattle.sb_insn.specs.declared.registers.Regs.{Regs}
use Rattle.sb_exec.specs.Operand.{next_rip}
use Rattle.sb_exec.specs.Words.{AreWords}
use Rattle.sb_exec.specs.declared.action.Effect.{Effect}
use Rattle.sb_exec.specs.declared.action.Effect.TheVariants.{Next, Switch}
use Rattle.sb_exec.proofs.Left.{rows_left}
use Rattle.sb_bus.specs.declared.stop.BusStop.{BusStop}
use Rattle.sb_root.specs.Root.{list_entry}
use Rattle.sb_root.proofs.Between.{set_switched}
use Rattle.sb_state.specs.Registers.{eax, ecx}
use Rattle.sb_state.specs.declared.state.Binding.{Binding}
use Rattle.sb_state.specs.declared.state.Decision.{Decision}
use Rattle.sb_state.specs.declared.state.Decision.TheVariants as decision
use Rattle.sb_state.specs.declared.state.Flight.{Flight}
use Rattle.sb_state.specs.declared.state.Thread.{Thread}
use Rattle.sb_trace.specs.declared.event.Event.{Event}
use Rattle.sb_trace.specs.declared.event.Event.TheVariants as event
use Rattle.sb_trace.specs.PlainMemory.{plain}
use Rattle.sb_trace.specs.State.{State, thread_at, flight_at}
use Rattle.sb_trace.specs.Home.{home_address}
use Rattle.sb_trace.specs.Sound.{IsThreadOfFlight, phases_of}
use Rattle.sb_trace.specs.Changes.{LineChanges, OnlyThreads}
use Rattle.sb_trace.specs.KernelCall.{refusal_regs}
use Rattle.sb_trace.specs.Step.{Steps, execution_in_view}
use Rattle.sb_trace.proofs.Steps.{steps_change}
use Rattle.sb_landing.specs.AtPhase.{AtPhase, kept_regs, landing_in}
use Rattle.sb_landing.specs.Lands.{effect_at, behind, line_of}
use Rattle.sb_landing.specs.Laws.{begun_behind, StepsStayBeside}
use Rattle.sb_landing.specs.Related.{IsBeside}
use Rattle.sb_landing.specs.Rows.{address_of}
use Rattle.sb_landing.specs.Stages.{Landing}
use Rattle.sb_landing.proofs.Ends.{refused_put}
use Rattle.sb_landing.proofs.Steps.{at_row}
use Rattle.sb_shows.specs.Shows.{index_of}
use Rattle.sb_sub.specs.Kernel.{seat_of}
use Rattle.sb_sub.proofs.Moves.{IsMoved, stands_moved}
use Rattle.sb_machine.specs.declared.processor.Core.{Core}
use Rattle.sb_machine.specs.Machine.{Machine, core_at, state_at, regs_of, with_core}
use Rattle.sb_machine.specs.Outcomes.{home_line, home_state, regs_behind, homecoming, switch_outcome}
use Rattle.sb_machine.specs.StandsFor.{origin_by, origin_of, IsCoreOf, IsMachineOf}
use Rattle.sb_machine.specs.Laws.{Follows}
use Rattle.sb_machine.proofs.Afterwards.{afterwards}
use Rattle.sb_machine.proofs.Following.{follows_by}
use Rattle.sb_machine.proofs.InFlight.{core_is, plain_step, outcome, next, insn, lands, flies, after, law_beside}
use Rattle.sb_machine.proofs.Phases.{undecided_away, entered_away}
use Rattle.sb_machine.proofs.Present.{home_shown}
use Rattle.sb_machine.proofs.Seeing.{small, root_stands, set_view, list_is}

-- ---- RAX and RCX at the VMFUNC home

zeros_of : (start : Regs) (status : ℕ) → AreWords start
    → (eax (refusal_regs start status) ≡ 0) × (ecx (refusal_regs start status) ≡ 0)
zeros_of start status words = (
  ap (λ (regs : Regs). eax regs) (refused_put start status words),
  ap (λ (regs : Regs). ecx regs) (refused_put start status words),
)

-- what the plain machine keeps of a refused call has 0 in RAX and RCX
kept_zeros : (decided : Option Decision) (landing : Landing) (phase : ℕ) → Contains (phases_of decided) phase → phase ≡ GO_HOME
    → AreWords landing.start → (eax (kept_regs landing decided) ≡ 0) × (ecx (kept_regs landing decided) ≡ 0)
kept_zeros None landing phase among home words = absurd (undecided_away phase among home)
kept_zeros (Some decision.WrongKey) landing phase among home words = zeros_of landing.start (status_number status.WrongKey) words
kept_zeros (Some decision.PoolEmpty) landing phase among home words =
    zeros_of landing.start (status_number status.PoolEmpty) words
kept_zeros (Some decision.Entered) landing phase among home words = absurd (entered_away phase among home)

-- ---- the view at home

home_view_by : (decided : Option Decision) (thread : Thread) (flight : Flight) (binding : Binding)
    → Contains (phases_of decided) flight.phase → flight.phase ≡ GO_HOME → IsThreadOfFlight decided thread flight binding
    → thread.view ≡ 0
home_view_by None thread flight binding among home stage = absurd (undecided_away flight.phase among home)
home_view_by (Some decision.WrongKey) thread flight binding among home stage = stage
home_view_by (Some decision.PoolEmpty) thread flight binding among home stage = stage
home_view_by (Some decision.Entered) thread flight binding among home stage = absurd (entered_away flight.phase among home)

-- the phase that goes home has its landing line
line_home : (phase index : ℕ) (regs : Regs) → phase ≡ GO_HOME → line_of phase index regs ≡ event.Landing phase
line_home phase index regs home = subst (λ (phase : ℕ). line_of phase index regs ≡ event.Landing phase) (sym home) refl

-- a flight that goes home is decided
decided_by : (decided : Option Decision) (thread : Thread) (flight : Flight) → Contains (phases_of flight.decided) flight.phase
    → flight.phase ≡ GO_HOME → flight.decided ≡ decided → origin_of thread (Some flight) ≡ None
decided_by None thread flight among home was =
    absurd (undecided_away flight.phase (subst (λ decided. Contains (phases_of decided) flight.phase) was among) home)
decided_by (Some decided) thread flight among home was = ap (λ found. origin_by thread found) was

-- at the phase that goes home the effect is a switch
switches_by : (phase : ℕ) (answer : Result Effect BusStop) → phase ≡ GO_HOME → answer ≡ Ok (effect_at phase) → answer ≢ Ok Next
switches_by phase answer home is goes = let switch : answer ≡ Ok Switch = is ∙ rw home refl in cc

module _ (machine : Machine) (state : State) (is : IsMachineOf machine state) (number : ℕ) (there : number < length machine.cores)
    (flight : Flight) (flying : flight_at state number ≡ Some flight) (law : StepsStayBeside)
    (home : flight.phase ≡ GO_HOME) where
  abbrev end : State
  end = next machine state is number there flight flying law

  abbrev row : Insn
  row = insn machine state is number there flight flying law

  abbrev regs : Regs
  regs = regs_of machine number

  steps : Steps state number (outcome machine state is number there flight flying law).0 end
  steps = plain_step machine state is number there flight flying law

  held : AtPhase state number flight (is.begun number).start (is.begun number).failed regs
  held = subst (λ found. IsBeside state number found (is.begun number) regs) flying (is.beside number)

  landed : flight_at end number ≡ None
  landed = (after machine state is number there flight flying law).home home

  thread_is : thread_at end number ≡ thread_at state number
  thread_is = (after machine state is number there flight flying law).lands landed

  at_home : (thread_at end number).view ≡ 0
  at_home =
      let own = flies machine state is number there flight flying law in
      ap (λ (one : Thread). one.view) thread_is
      ∙ home_view_by flight.decided (thread_at state number) flight own.binding own.phase home own.stage

  -- ---- the line, and what changes

  line_is : (outcome machine state is number there flight flying law).0 ≡ event.Landing flight.phase
  line_is =
      (lands machine state is number there flight flying law).line
      ∙ line_home flight.phase flight.index
      (execution_in_view state number flight.index row (regs_of machine number)).registers home

  only : OnlyThreads state end
  only =
      (subst (λ (line : Event). LineChanges state number line end) line_is
      (steps_change state number (outcome machine state is number there flight flying law).0 end steps).rest).0

  same_threads : end.threads ≡ state.threads
  same_threads =
      (subst (λ (line : Event). LineChanges state number line end) line_is
      (steps_change state number (outcome machine state is number there flight flying law).0 end steps).rest).1

  moved : IsMoved state end
  moved = record {
    pages = only.become;
    processes = only.processes;
    seats = ap (map seat_of) same_threads;
    flights = (steps_change state number (outcome machine state is number there flight flying law).0 end steps).thread.places;
    free = only.free;
    keys = only.keys;
  }

  -- ---- registers

  behind_is : next_rip row regs ≡ home_address
  behind_is =
      let at : regs.rip ≡ address_of flight.phase =
      at_row state number flight (is.begun number).start (is.begun number).failed regs held in
      rw (at, home) refl

  left : (execution_in_view state number flight.index row regs).registers ≡ regs
  left =
      (rows_left (plain number flight.index) row regs state tt
      (switches_by flight.phase _ home (lands machine state is number there flight flying law).answer)).0

  real : behind flight.phase (execution_in_view state number flight.index row regs).registers ≡ regs_behind row regs
  real =
      ap (behind flight.phase) left
      ∙ (ap (λ (phase : ℕ). behind phase regs) home ∙ ap (λ (rip : ℕ). record regs { rip = rip }) (sym behind_is))

  beside : IsBeside end number None (begun_behind (flight_at end number) (is.begun number)) (regs_behind row regs)
  beside =
      subst (λ (one : Regs). IsBeside end number None (begun_behind (flight_at end number) (is.begun number)) one) real
      (subst (λ found. IsBeside end number found (begun_behind (flight_at end number) (is.begun number))
      (behind flight.phase (execution_in_view state number flight.index row regs).registers)) landed
      (law_beside machine state is number there flight flying law))

  -- the registers at home are those that the plain machine keeps of a refused call
  abbrev landing : Landing
  landing = landing_in state number flight.index flight.mask (is.begun number).start held.left

  kept_is : regs_behind row regs ≡ kept_regs landing flight.decided
  kept_is = beside ∙ (ap (λ (one : Thread). one.regs) thread_is ∙ held.plain)

  zeros : (eax regs ≡ 0) × (ecx regs ≡ 0)
  zeros =
      let own = flies machine state is number there flight flying law in
      let kept = kept_zeros flight.decided landing flight.phase own.phase home held.words in
      (ap (λ (one : Regs). eax one) kept_is ∙ kept.0, ap (λ (one : Regs). ecx one) kept_is ∙ kept.1)

  -- ---- the core

  abbrev entry : ℕ
  entry = list_entry machine.root number 0

  abbrev core : Core
  core = record (core_at machine number) { state = home_state entry (state_at machine number) (regs_behind row regs) }

  core_next : IsCoreOf (thread_at end number) None core
  core_next =
      let own = core_is machine state is number there flight flying law in
      record {
        view = sym at_home;
        phase = refl;
        end = own.end ∙ sym (ap (λ (one : Thread). one.state) thread_is);
        origin = own.origin ∙ decided_by flight.decided (thread_at state number) flight
            (flies machine state is number there flight flying law).phase home refl;
      }

  line_same : (told : Event) → told ≡ event.Landing flight.phase
      → (outcome machine state is number there flight flying law).0 ≡ told
  line_same told is_it = line_is ∙ sym is_it

  follows_line : (phase : Option ℕ) (view : ℕ) → phase ≡ Some flight.phase → home_line phase view ≡ event.Landing flight.phase
  follows_line phase view at = ap (λ found. home_line found view) at

  homecoming_follows : Follows (homecoming machine number row entry).1 state number (homecoming machine number row entry).0
  homecoming_follows =
      let own = core_is machine state is number there flight flying law in
      let line = follows_line (state_at machine number).phase (state_at machine number).view own.phase in
      subst (λ (told : Event). Follows (with_core machine number core) state number told)
      (line_same (homecoming machine number row entry).0 line)
      (follows_by (with_core machine number core) state number (outcome machine state is number there flight flying law).0 end
      is.sound steps
      (afterwards machine (with_core machine number core) state end number
      (outcome machine state is number there flight flying law).0 core
      (begun_behind (flight_at end number) (is.begun number)) is there steps
      (stands_moved machine.kernel machine.root machine.book machine.memory state end moved is.stands)
      (record { lists = λ n. refl; views = λ n view set. refl })
      (record {
        cr3 = refl;
        list = refl;
        eptp = ap (list_entry machine.root number)
            (sym (ap (λ found. index_of found (thread_at end number).view) landed ∙ at_home));
        beside = subst (λ found. IsBeside end number found (begun_behind (flight_at end number) (is.begun number))
            (regs_behind row regs)) (sym landed) beside;
        own = subst (λ found. IsCoreOf (thread_at end number) found core) (sym landed) core_next;
      }) refl))

  -- the switch that the core makes leads home
  pub home_follows : Follows (switch_outcome machine number row).1 state number (switch_outcome machine number row).0
  home_follows =
      let answer = set_switched machine.root machine.memory number 0 (state_at machine number).list
      (root_stands machine state is number there) (list_is machine state is number there)
      (set_view machine state is number there 0 (home_shown state number (small machine state is number there))) (omega arith) in
      let outcome_is : switch_outcome machine number row ≡ homecoming machine number row entry =
      rw (zeros.0, zeros.1, answer) refl in
      subst (λ outcome. Follows outcome.1 state number outcome.0) (sym outcome_is) homecoming_follows
