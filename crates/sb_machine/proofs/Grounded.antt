-- A thread out of flight: its core has its registers and its view, and a step of it is an instruction.
use Rattle.std.proofs.Common.{◌≡◌, ◌∙◌, sym, ap, subst, ℕ, ◌<◌, length}
use Rattle.std.specs.Prelude.{Option, None, Result}
use Rattle.sb_insn.specs.declared.insn.Insn.{Insn}
use Rattle.sb_insn.specs.declared.registers.Regs.{Regs}
use Rattle.sb_bus.specs.declared.stop.BusStop.{BusStop}
use Rattle.sb_root.specs.Root.{list_entry}
use Rattle.sb_state.specs.declared.end_kind.EndKind.{EndKind}
use Rattle.sb_state.specs.declared.end_kind.EndKind.TheVariants.{Running}
use Rattle.sb_state.specs.declared.state.Flight.{Flight}
use Rattle.sb_trace.specs.State.{State, thread_at, flight_at}
use Rattle.sb_trace.specs.Home.{Outcome}
use Rattle.sb_trace.specs.Flight.{vmfunc_outcome}
use Rattle.sb_trace.specs.Step.{FollowsFetch, RunsOn, GoesOn, StepsBy, Steps}
use Rattle.sb_landing.specs.Related.{IsBeside}
use Rattle.sb_shows.specs.Shows.{index_of, present_index}
use Rattle.sb_machine.specs.Machine.{Machine, core_at, state_at, regs_of}
use Rattle.sb_machine.specs.StandsFor.{IsCoreOf, IsMachineOf}
use Rattle.sb_machine.specs.Written.{FetchesNext}
use Rattle.sb_machine.proofs.Seeing.{eptp_is, fetched}

module _ (machine : Machine) (state : State) (is : IsMachineOf machine state) (number : ℕ) (there : number < length machine.cores)
    (grounded : flight_at state number ≡ None) where
  pub regs_are : (state_at machine number).regs ≡ (thread_at state number).regs
  regs_are = subst (λ found. IsBeside state number found (is.begun number) (regs_of machine number)) grounded (is.beside number)

  pub core_is : IsCoreOf (thread_at state number) None (core_at machine number)
  core_is = subst (λ found. IsCoreOf (thread_at state number) found (core_at machine number)) grounded (is.cores number)

  pub index_is : present_index state number ≡ (thread_at state number).view
  index_is = ap (λ found. index_of found (thread_at state number).view) grounded

  pub eptp_now : (state_at machine number).eptp ≡ list_entry machine.root number (thread_at state number).view
  eptp_now = eptp_is machine state is number there ∙ ap (list_entry machine.root number) index_is

  -- what follows what the core fetched is a step of the plain machine
  pub plain_steps : (thread_at state number).state ≡ Running → (result : Result Insn BusStop) → FetchesNext machine number result
      → (outcome : Outcome)
      → FollowsFetch vmfunc_outcome state number (present_index state number) (state_at machine number).regs result outcome
      → Steps state number outcome.0 outcome.1
  plain_steps running result fetches outcome follows =
      let runs : RunsOn vmfunc_outcome state number (present_index state number) (state_at machine number).regs outcome =
      (result, fetched machine state is number there result fetches, follows) in
      let as_thread : RunsOn vmfunc_outcome state number (thread_at state number).view (thread_at state number).regs outcome =
      subst (λ (view : ℕ). RunsOn vmfunc_outcome state number view (thread_at state number).regs outcome) index_is
      (subst (λ (regs : Regs). RunsOn vmfunc_outcome state number (present_index state number) regs outcome) regs_are runs) in
      subst (λ (end : EndKind). StepsBy state number (thread_at state number) end outcome) (sym running)
      (subst (λ (found : Option Flight). GoesOn state number (thread_at state number) found outcome) (sym grounded) as_thread)
