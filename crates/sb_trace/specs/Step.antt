-- A step of the plain machine: an instruction is fetched and executed, and then the kernel does its part.
use Rattle.std.specs.Prelude.{◌≡◌, ℕ, Option, Some, None, Result, Ok, Err}
use Rattle.sb_insn.specs.declared.insn.Insn.{Insn}
use Rattle.sb_insn.specs.declared.registers.Regs.{Regs}
use Rattle.sb_bus.specs.declared.stop.BusStop.{BusStop}
use Rattle.sb_bus.specs.declared.stop.BusStop.TheVariants.{Fault as FaultStop, Missing}
use Rattle.sb_bus.specs.declared.stop.FaultKind.TheVariants as kind
use Rattle.sb_exec.specs.declared.action.Effect.{Effect}
use Rattle.sb_exec.specs.declared.action.Effect.TheVariants.{Next, Syscall, Switch, Undefined}
use Rattle.sb_exec.specs.Execution.{Execution, execution_of}
use Rattle.sb_exec.specs.Operand.{next_rip}
use Rattle.sb_exec.specs.Rows.{row_of}
use Rattle.sb_exec.specs.Fetching.{FetchesOn}
use Rattle.sb_trace.specs.declared.event.Event.{Event}
use Rattle.sb_trace.specs.declared.event.Event.TheVariants.{Step as StepLine, Idle}
use Rattle.sb_state.specs.declared.end_kind.EndKind.{EndKind}
use Rattle.sb_state.specs.declared.end_kind.EndKind.TheVariants.{Running, Ended, Faulted}
use Rattle.sb_state.specs.declared.state.Flight.{Flight}
use Rattle.sb_state.specs.declared.state.Thread.{Thread}
use Rattle.sb_state.specs.State.{State, thread_at, with_regs, flight_at}
use Rattle.sb_state.specs.PlainMemory.{plain}
use Rattle.sb_trace.specs.Home.{Outcome, fault_outcome}
use Rattle.sb_trace.specs.Flight.{vmfunc_outcome, landing_step}
use Rattle.sb_calls.specs.SyscallRegisters.{after_syscall}
use Rattle.sb_trace.specs.Syscall.{syscall_outcome}

-- ---- an ordinary step

-- What stops a step is a fault: this memory never lacks a frame.
abbrev pub StopsWith : State → ℕ → BusStop → Outcome → Type 0
StopsWith state core (FaultStop kind address) outcome = outcome ≡ fault_outcome state core kind address.0
StopsWith state core (Missing frame) outcome = ⊥

-- by the effect of the instruction, which began with these registers and left others, and another state; `switch` is what
-- VMFUNC does
abbrev pub outcome_by_effect : (State → ℕ → Outcome) → State → ℕ → Insn → Regs → Effect → Regs → State → Outcome
outcome_by_effect switch state core insn regs Next regs' state' = (StepLine regs.rip, with_regs state' core regs')
outcome_by_effect switch state core insn regs Syscall regs' state' =
    syscall_outcome state core (after_syscall (next_rip insn regs) regs)
outcome_by_effect switch state core insn regs Undefined regs' state' = fault_outcome state core kind.Undefined regs.rip
outcome_by_effect switch state core insn regs Switch regs' state' = switch state core

abbrev pub PerformsBy : (State → ℕ → Outcome) → State → ℕ → Insn → Regs → Result Effect BusStop → Regs → State → Outcome → Type 0
PerformsBy switch state core insn regs (Ok effect) regs' state' outcome =
    outcome ≡ outcome_by_effect switch state core insn regs effect regs' state'
PerformsBy switch state core insn regs (Err stop) regs' state' outcome = StopsWith state core stop outcome

-- what the instruction leaves in the memory of a thread's view
abbrev pub execution_in_view : State → ℕ → ℕ → Insn → Regs → Execution State (Unit {0})
execution_in_view state core view insn regs = execution_of (plain core view) (row_of insn regs) regs state tt

abbrev pub Performs : (State → ℕ → Outcome) → State → ℕ → ℕ → Insn → Regs → Outcome → Type 0
Performs switch state core view insn regs outcome =
    PerformsBy switch state core insn regs (execution_in_view state core view insn regs).answer
    (execution_in_view state core view insn regs).registers
    (execution_in_view state core view insn regs).meaning outcome

abbrev pub FollowsFetch : (State → ℕ → Outcome) → State → ℕ → ℕ → Regs → Result Insn BusStop → Outcome → Type 0
FollowsFetch switch state core view regs (Ok insn) outcome = Performs switch state core view insn regs outcome
FollowsFetch switch state core view regs (Err stop) outcome = StopsWith state core stop outcome

-- a running thread with these registers in this view
abbrev pub RunsOn : (State → ℕ → Outcome) → State → ℕ → ℕ → Regs → Outcome → Type 0
RunsOn switch state core view regs outcome =
    (fetched : Result Insn BusStop) × FetchesOn (plain core view) state regs.rip tt tt fetched
    × FollowsFetch switch state core view regs fetched outcome

-- ---- the step

-- a running thread: its flight goes on, or it executes an instruction
abbrev pub GoesOn : State → ℕ → Thread → Option Flight → Outcome → Type 0
GoesOn state core thread None outcome = RunsOn vmfunc_outcome state core thread.view thread.regs outcome
GoesOn state core thread (Some flight) outcome = outcome ≡ landing_step state core flight

-- a thread that has ended is idle
abbrev pub StepsBy : State → ℕ → Thread → EndKind → Outcome → Type 0
StepsBy state core thread Running outcome = GoesOn state core thread (flight_at state core) outcome
StepsBy state core thread (Ended status) outcome = outcome ≡ (Idle, state)
StepsBy state core thread (Faulted kind address) outcome = outcome ≡ (Idle, state)

-- a step of a core, which runs the thread of its number
abbrev pub Steps : State → ℕ → Event → State → Type 0
Steps state core event state' = StepsBy state core (thread_at state core) (thread_at state core).state (event, state')
