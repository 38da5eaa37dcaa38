-- A line of an instruction that went on comes from an instruction that the thread fetched, out of flight.
use Rattle.std.proofs.Common.{◌≡◌, ◌∙◌, sym, ap, subst, ℕ, refl, Result, Ok, Err}
use Rattle.std.specs.Prelude.{Option, Some, None}
use Rattle.sb_insn.specs.declared.insn.Insn.{Insn}
use Rattle.sb_insn.specs.declared.registers.Regs.{Regs}
use Rattle.sb_bus.specs.declared.stop.BusStop.{BusStop}
use Rattle.sb_bus.specs.declared.stop.BusStop.TheVariants.{Fault as FaultStop, Missing}
use Rattle.sb_bus.specs.declared.stop.FaultKind.TheVariants as kind
use Rattle.sb_exec.specs.declared.action.Effect.{Effect}
use Rattle.sb_exec.specs.declared.action.Effect.TheVariants.{Next, Syscall, Switch, Undefined}
use Rattle.sb_exec.specs.Fetching.{FetchesOn}
use Rattle.sb_exec.specs.Operand.{next_rip}
use Rattle.sb_calls.specs.SyscallRegisters.{after_syscall}
use Rattle.sb_state.specs.declared.end_kind.EndKind.{EndKind}
use Rattle.sb_state.specs.declared.end_kind.EndKind.TheVariants.{Running, Ended, Faulted}
use Rattle.sb_state.specs.declared.state.Binding.{Binding}
use Rattle.sb_state.specs.declared.state.Decision.{Decision}
use Rattle.sb_state.specs.declared.state.Flight.{Flight}
use Rattle.sb_state.specs.PlainMemory.{plain}
use Rattle.sb_state.specs.State.{State, thread_at, flight_at}
use Rattle.sb_trace.specs.declared.event.Event.{Event}
use Rattle.sb_trace.specs.declared.event.Event.TheVariants.{Step as StepLine, Idle}
use Rattle.sb_trace.specs.Flight.{called_binding, landing_step, phase_outcome, vmfunc_outcome, vmfunc_outcome_by}
use Rattle.sb_trace.specs.Home.{Outcome, fault_outcome}
use Rattle.sb_trace.specs.Step.{FollowsFetch, GoesOn, PerformsBy, Steps, StepsBy, StopsWith, execution_in_view}
use Rattle.sb_trace.specs.Syscall.{syscall_outcome}
use Rattle.sb_trace.proofs.Steps.{did_next, instruction_claims}
use Rattle.sb_trace.proofs.KernelLines.{IsOther, fault_other, phase_other, syscall_other, vmfunc_other}

-- the thread runs out of flight, and fetched this instruction, which stood at the address
pub record IsOfInstruction (old : State) (core rip : ℕ) : Type 0 where
  pub running : (thread_at old core).state ≡ Running
  pub grounded : flight_at old core ≡ None
  pub at : rip ≡ (thread_at old core).regs.rip
  pub insn : Insn
  pub fetches : FetchesOn (plain core (thread_at old core).view) old (thread_at old core).regs.rip tt tt (Ok insn)

-- an outcome that is another one, with another line, has no line of an instruction
not_other : (rip : ℕ) (outcome other : Outcome) → outcome.0 ≡ StepLine rip → outcome ≡ other → IsOther other.0 → ⊥
not_other rip outcome other line is apart =
    subst IsOther line (subst (λ (one : Outcome). IsOther one.0) (sym is) apart)

-- the address of such a line
abbrev address_in : Event → ℕ
address_in (StepLine rip) = rip
address_in _ = 0

module _ (old : State) (core rip : ℕ) (outcome : Outcome) (line : outcome.0 ≡ StepLine rip) where
  -- ---- an instruction

  by_stop : (stop : BusStop) → StopsWith old core stop outcome → ⊥
  by_stop (FaultStop kind address) is =
      not_other rip outcome (fault_outcome old core kind address.0) line is (fault_other old core kind address.0)
  by_stop (Missing frame) is = is

  by_switch : (found : Option Binding) → outcome ≡ vmfunc_outcome_by old core found → ⊥
  by_switch found is = not_other rip outcome (vmfunc_outcome_by old core found) line is (vmfunc_other old core found)

  by_answer : (insn : Insn) (regs regs' : Regs) (state' : State) (answer : Result Effect BusStop)
      → PerformsBy vmfunc_outcome old core insn regs answer regs' state' outcome → rip ≡ regs.rip
  unfolding vmfunc_outcome
  by_answer insn regs regs' state' (Ok Next) is = ap address_in (sym line) ∙ ap (λ (one : Outcome). address_in one.0) is
  by_answer insn regs regs' state' (Ok Syscall) is =
      let next = after_syscall (next_rip insn regs) regs in
      absurd (not_other rip outcome (syscall_outcome old core next) line is (syscall_other old core next))
  by_answer insn regs regs' state' (Ok Undefined) is =
      absurd (by_stop (FaultStop kind.Undefined (record { 0 = regs.rip })) is)
  by_answer insn regs regs' state' (Ok Switch) is = absurd (by_switch (called_binding (thread_at old core)) is)
  by_answer insn regs regs' state' (Err stop) is = absurd (by_stop stop is)

  by_fetch : (fetched : Result Insn BusStop) → (thread_at old core).state ≡ Running → flight_at old core ≡ None
      → FetchesOn (plain core (thread_at old core).view) old (thread_at old core).regs.rip tt tt fetched
      → FollowsFetch vmfunc_outcome old core (thread_at old core).view (thread_at old core).regs fetched outcome
      → IsOfInstruction old core rip
  by_fetch (Ok insn) running grounded fetches follows =
      let view = (thread_at old core).view in
      let regs = (thread_at old core).regs in
      let execution = execution_in_view old core view insn regs in
      record {
        running = running;
        grounded = grounded;
        at = by_answer insn regs execution.registers execution.meaning execution.answer follows;
        insn = insn;
        fetches = fetches;
      }
  by_fetch (Err stop) running grounded fetches follows = absurd (by_stop stop follows)

  -- ---- a step

  by_decision : (flight : Flight) (found : Option Decision) → outcome ≡ phase_outcome old core flight found → ⊥
  by_decision flight found is = not_other rip outcome (phase_outcome old core flight found) line is (phase_other old core flight found)

  by_flight : (flight : Option Flight) → (thread_at old core).state ≡ Running → flight_at old core ≡ flight
      → GoesOn old core (thread_at old core) flight outcome → IsOfInstruction old core rip
  unfolding landing_step
  by_flight None running grounded runs = by_fetch runs.0 running grounded runs.1 runs.2
  by_flight (Some flight) running flying is = absurd (by_decision _ _ is)

  by_end : (end : EndKind) → (thread_at old core).state ≡ end → StepsBy old core (thread_at old core) end outcome
      → IsOfInstruction old core rip
  by_end Running running runs = by_flight (flight_at old core) running refl runs
  by_end (Ended status) ended is = absurd (not_other rip outcome (Idle, old) line is tt)
  by_end (Faulted kind address) ended is = absurd (not_other rip outcome (Idle, old) line is tt)

  -- ---- flights

  abbrev Stays : Outcome → Type 0
  Stays one = (IsOther one.0 → ⊥) → one.1.flights ≡ old.flights

  stay_by_flight : (flight : Option Flight) → GoesOn old core (thread_at old core) flight outcome → Stays outcome
  unfolding landing_step vmfunc_outcome
  stay_by_flight None runs =
      let view = (thread_at old core).view in
      let regs = (thread_at old core).regs in
      instruction_claims Stays vmfunc_outcome old core view regs
      (λ insn regs' apart. (did_next old core view insn regs regs' refl).flights) (λ one did apart. did.flights)
      (λ stands apart. absurd (apart (vmfunc_other old core (called_binding (thread_at old core))))) outcome runs
  stay_by_flight (Some flight) is = λ apart. absurd (by_decision _ _ is)

  stay_by_end : (end : EndKind) → StepsBy old core (thread_at old core) end outcome → Stays outcome
  stay_by_end Running runs = stay_by_flight (flight_at old core) runs
  stay_by_end (Ended status) is = λ apart. absurd (not_other rip outcome (Idle, old) line is tt)
  stay_by_end (Faulted kind address) is = λ apart. absurd (not_other rip outcome (Idle, old) line is tt)

-- a step with the line of an instruction is one of an instruction
pub line_of_instruction : (old : State) (core rip : ℕ) (new : State) → Steps old core (StepLine rip) new
    → IsOfInstruction old core rip
line_of_instruction old core rip new steps =
    by_end old core rip (StepLine rip, new) refl (thread_at old core).state refl steps

-- and leaves all flights
pub flights_stay : (old : State) (core rip : ℕ) (new : State) → Steps old core (StepLine rip) new → new.flights ≡ old.flights
flights_stay old core rip new steps =
    stay_by_end old core rip (StepLine rip, new) refl (thread_at old core).state steps (λ other. other)
