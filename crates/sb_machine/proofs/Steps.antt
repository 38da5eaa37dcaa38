-- Each step of a machine is one of the plain machine.
use Rattle.std.proofs.Common.{◌≡◌, ◌∙◌, sym, ap, subst, ℕ, ◌<◌, length, refl, arith, inl, inr, Result, Ok, Err}
use Rattle.std.specs.Prelude.{Option, Some, None}
use Rattle.std.proofs.lemmas.Bool.{cases_eq}
use Rattle.sb_abi.specs.declared.trampoline.TheConstants.{GO_HOME}
use Rattle.sb_insn.specs.declared.insn.Insn.{Insn}
use Rattle.sb_insn.specs.Spelling.{spelling}
use Rattle.sb_bus.specs.declared.stop.BusStop.{BusStop}
use Rattle.sb_bus.specs.declared.stop.BusStop.TheVariants.{Fault as FaultStop, Missing}
use Rattle.sb_bus.specs.declared.stop.FaultKind.TheVariants as kind
use Rattle.sb_exec.specs.declared.action.Effect.{Effect}
use Rattle.sb_exec.specs.declared.action.Effect.TheVariants.{Next, Syscall, Switch, Undefined}
use Rattle.sb_exec.specs.Execution.{Execution}
use Rattle.sb_exec.specs.Fetching.{fetch_of}
use Rattle.sb_exec.specs.Simulation.{Alike}
use Rattle.sb_exec.specs.Operand.{next_rip}
use Rattle.sb_exec.proofs.Stopping.{switch_ends}
use Rattle.sb_calls.specs.SyscallRegisters.{after_syscall}
use Rattle.sb_state.specs.declared.end_kind.EndKind.{EndKind}
use Rattle.sb_state.specs.declared.end_kind.EndKind.TheVariants.{Running, Ended, Faulted}
use Rattle.sb_state.specs.declared.state.Flight.{Flight}
use Rattle.sb_trace.specs.declared.event.Event.{Event}
use Rattle.sb_trace.specs.declared.event.Event.TheVariants.{Idle}
use Rattle.sb_trace.specs.PlainMemory.{plain}
use Rattle.sb_trace.specs.State.{State, thread_at, flight_at}
use Rattle.sb_trace.specs.Home.{Outcome as PlainOutcome, home_address, fault_outcome as plain_fault}
use Rattle.sb_trace.specs.Flight.{vmfunc_outcome}
use Rattle.sb_trace.specs.Syscall.{syscall_outcome}
use Rattle.sb_trace.specs.Step.{Steps, PerformsBy as PlainPerforms, execution_in_view, StepsBy as PlainStepsBy, StopsWith as PlainStops}
use Rattle.sb_trace.proofs.Fetchable.{one_pattern}
use Rattle.sb_trace.proofs.Vmfunc.{vmfunc_stands, vmfunc_spelled}
use Rattle.sb_landing.specs.Lands.{effect_at}
use Rattle.sb_landing.specs.Laws.{StepsStayBeside}
use Rattle.sb_landing.specs.Rows.{row_at}
use Rattle.sb_shows.specs.Related.{Sees}
use Rattle.sb_shows.specs.Shows.{present_index}
use Rattle.sb_machine.specs.Machine.{Machine, core_at, state_at}
use Rattle.sb_machine.specs.Outcomes.{Outcome}
use Rattle.sb_machine.specs.StandsFor.{IsMachineOf}
use Rattle.sb_machine.specs.Written.{FetchesNext, Works, StopsWith, PerformsBy, Performs, FollowsFetch, RunsOn, StepsBy, execution_on}
use Rattle.sb_machine.specs.Laws.{Follows, StepsArePlain}
use Rattle.sb_machine.proofs.Called.{call_follows}
use Rattle.sb_machine.proofs.Counted.{counted}
use Rattle.sb_machine.proofs.Faulted.{fault_follows}
use Rattle.sb_machine.proofs.Following.{follows_by}
use Rattle.sb_machine.proofs.Going.{next_follows}
use Rattle.sb_machine.proofs.GoingHome.{home_follows}
use Rattle.sb_machine.proofs.Grounded.{plain_steps}
use Rattle.sb_machine.proofs.InFlight.{apart_test, fetches_row, answers, goes_on_follows}
use Rattle.sb_machine.proofs.Seeing.{fetched, executed}
use Rattle.sb_machine.proofs.Switched.{vmfunc_follows}

-- what follows an outcome
abbrev FollowsBy : State → ℕ → Outcome → Type 0
FollowsBy state number outcome = Follows outcome.1 state number outcome.0

module _ (machine : Machine) (state : State) (is : IsMachineOf machine state) (number : ℕ)
    (there : number < length machine.cores) where
  -- ---- out of flight

  module _ (grounded : flight_at state number ≡ None) (running : (thread_at state number).state ≡ Running) where
    abbrev rip : ℕ
    rip = (state_at machine number).regs.rip

    stopped : (result : Result Insn BusStop) (stop : BusStop) → FetchesNext machine number result
        → ((outcome : PlainOutcome) → PlainStops state number stop outcome
        → Steps state number outcome.0 outcome.1)
        → (outcome : Outcome) → StopsWith machine number stop outcome → FollowsBy state number outcome
    stopped result (FaultStop kind address) fetches steps outcome is_it =
        subst (FollowsBy state number) (sym is_it)
        (fault_follows machine state is number there grounded kind address.0
        (steps (plain_fault state number kind address.0) refl))
    stopped result (Missing frame) fetches steps outcome is_it = absurd is_it

    module _ (insn : Insn) (fetches : FetchesNext machine number (Ok insn)) where
      alike : Alike (Sees is.stands.placement number (present_index state number))
          (execution_in_view state number (present_index state number) insn (state_at machine number).regs)
          (execution_on machine number insn)
      alike = executed machine state is number there insn

      abbrev executed_plain : Execution State (Unit {0})
      executed_plain = execution_in_view state number (present_index state number) insn (state_at machine number).regs

      -- an outcome of the plain machine by the answer of the core's execution
      plain_performs : (answer : Result Effect BusStop) → (execution_on machine number insn).answer ≡ answer
          → (outcome : PlainOutcome)
          → PlainPerforms vmfunc_outcome state number insn (state_at machine number).regs answer executed_plain.registers
          executed_plain.meaning outcome
          → Steps state number outcome.0 outcome.1
      plain_performs answer at outcome performs =
          plain_steps machine state is number there grounded running (Ok insn) fetches outcome
          (subst (λ (one : Result Effect BusStop). PlainPerforms vmfunc_outcome state number insn
          (state_at machine number).regs one executed_plain.registers executed_plain.meaning outcome)
          (sym at ∙ alike.answer) performs)

      behind : (execution_on machine number insn).answer ≡ Ok Switch → next_rip insn (state_at machine number).regs ≡ home_address
      behind at =
          let plain_fetch = fetched machine state is number there (Ok insn) fetches in
          let valid = plain_fetch.fetched.ends.0.0 in
          let op =
          switch_ends (plain number (present_index state number)) insn (state_at machine number).regs state tt valid
          (sym alike.answer ∙ at) in
          let stands =
          vmfunc_stands (fetch_of (plain number (present_index state number)) state) rip plain_fetch.asked insn op
          plain_fetch.fetched in
          let here = one_pattern state number (present_index state number) rip is.sound.pages stands in
          let size : length (spelling insn) ≡ 3 = ap length (vmfunc_spelled insn valid op) in
          rw size (omega (arith, here))

      performs_by : (answer : Result Effect BusStop) → (execution_on machine number insn).answer ≡ answer → (outcome : Outcome)
          → PerformsBy machine number insn answer (execution_on machine number insn).registers
          (execution_on machine number insn).meaning.physical outcome
          → FollowsBy state number outcome
      performs_by (Ok Next) at outcome is_it =
          subst (FollowsBy state number) (sym is_it)
          (next_follows machine state is number there grounded insn (plain_performs (Ok Next) at _ refl))
      performs_by (Ok Syscall) at outcome calls =
          call_follows machine outcome.1 state is number there grounded insn outcome.0 calls
          (plain_performs (Ok Syscall) at
          (syscall_outcome state number (after_syscall (next_rip insn (state_at machine number).regs) (state_at machine
          number).regs)) refl)
      performs_by (Ok Switch) at outcome is_it =
          subst (FollowsBy state number) (sym is_it)
          (vmfunc_follows machine state is number there grounded insn (behind at)
          (plain_performs (Ok Switch) at (vmfunc_outcome state number) refl))
      performs_by (Ok Undefined) at outcome is_it =
          subst (FollowsBy state number) (sym is_it)
          (fault_follows machine state is number there grounded kind.Undefined rip
          (plain_performs (Ok Undefined) at (plain_fault state number kind.Undefined rip) refl))
      performs_by (Err stop) at outcome is_it =
          stopped (Ok insn) stop fetches (plain_performs (Err stop) at) outcome is_it

    by_fetch : (result : Result Insn BusStop) → FetchesNext machine number result → (outcome : Outcome)
        → FollowsFetch machine number result outcome → FollowsBy state number outcome
    by_fetch (Ok insn) fetches outcome performs =
        performs_by insn fetches (execution_on machine number insn).answer refl outcome performs
    by_fetch (Err stop) fetches outcome is_it =
        stopped (Err stop) stop fetches
        (λ plain_outcome stops.
        plain_steps machine state is number there grounded running (Err stop) fetches plain_outcome stops) outcome is_it

  -- ---- in flight

  module _ (law : StepsStayBeside) (flight : Flight) (flying : flight_at state number ≡ Some flight) where
    abbrev row : Insn
    row = (row_at flight.phase).insn

    by_effect : (outcome : Outcome)
        → PerformsBy machine number row (Ok (effect_at flight.phase)) (execution_on machine number row).registers
        (execution_on machine number row).meaning.physical outcome
        → FollowsBy state number outcome
    by_effect outcome performs = elim (cases_eq flight.phase GO_HOME) [
      | inl home ↦
          let effect : effect_at flight.phase ≡ Switch = rw home refl in
          let is_it = subst (λ (one : Effect). PerformsBy machine number row (Ok one) (execution_on machine number row).registers
          (execution_on machine number row).meaning.physical outcome) effect performs in
          subst (FollowsBy state number) (sym is_it) (home_follows machine state is number there flight flying law home)
      | inr away ↦
          let effect : effect_at flight.phase ≡ Next = rw (apart_test flight.phase GO_HOME away) refl in
          let is_it = subst (λ (one : Effect). PerformsBy machine number row (Ok one) (execution_on machine number row).registers
          (execution_on machine number row).meaning.physical outcome) effect performs in
          subst (FollowsBy state number) (sym is_it) (goes_on_follows machine state is number there flight flying law away)
    ]

    flying_follows : (result : Result Insn BusStop) → FetchesNext machine number result → (outcome : Outcome)
        → FollowsFetch machine number result outcome → FollowsBy state number outcome
    flying_follows result fetches outcome follows =
        let row_is = fetches_row machine state is number there flight flying law result fetches in
        let performs : Performs machine number row outcome =
        subst (λ (one : Result Insn BusStop). FollowsFetch machine number one outcome) row_is follows in
        by_effect outcome (subst (λ (one : Result Effect BusStop). PerformsBy machine number row one
        (execution_on machine number row).registers (execution_on machine number row).meaning.physical outcome)
        (answers machine state is number there flight flying law) performs)

  -- ---- each

  by_flight : StepsStayBeside → (found : Option Flight) → flight_at state number ≡ found
      → (thread_at state number).state ≡ Running → (outcome : Outcome) → RunsOn machine number outcome
      → FollowsBy state number outcome
  by_flight law None grounded running outcome runs = by_fetch grounded running runs.0 runs.1 outcome runs.2
  by_flight law (Some flight) flying running outcome runs = flying_follows law flight flying runs.0 runs.1 outcome runs.2

  idle : (end : EndKind) → (thread_at state number).state ≡ end
      → PlainStepsBy state number (thread_at state number) end (Idle, state) → FollowsBy state number (Idle, machine)
  idle end ended steps =
      follows_by machine state number Idle state is.sound
      (subst (λ (end : EndKind). PlainStepsBy state number (thread_at state number) end (Idle, state)) (sym ended) steps) is

  by_end : StepsStayBeside → (end : EndKind) → (thread_at state number).state ≡ end → (outcome : Outcome)
      → StepsBy machine number end outcome → FollowsBy state number outcome
  by_end law Running running outcome runs = by_flight law (flight_at state number) refl running outcome runs
  by_end law (Ended status) ended outcome is_it =
      subst (FollowsBy state number) (sym is_it) (idle (Ended status) ended refl)
  by_end law (Faulted kind address) ended outcome is_it =
      subst (FollowsBy state number) (sym is_it) (idle (Faulted kind address) ended refl)

works_are_plain : StepsStayBeside → (old : Machine) (number : ℕ) (event : Event) (new : Machine) (state : State)
    → number < length old.cores → IsMachineOf old state → Works old number event new → Follows new state number event
works_are_plain law old number event new state there is works =
    let end : (core_at old number).end ≡ (thread_at state number).state = (is.cores number).end in
    by_end old state is number there law (thread_at state number).state refl (event, new)
    (subst (λ (one : EndKind). StepsBy old number one (event, new)) end works)

pub steps_are_plain : StepsStayBeside → StepsArePlain
steps_are_plain law old number event new state there is steps =
    let follows = works_are_plain law old number event steps.0 state there is steps.1 in
    follows_by new state number event follows.next is.sound follows.steps
    (subst (λ (machine : Machine). IsMachineOf machine follows.next) (sym steps.2)
    (counted steps.0 follows.next number follows.stands))
