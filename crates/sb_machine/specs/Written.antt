-- A step of the machine as it is written down: an instruction is fetched and executed through the nested walk of the core's own
-- words, and where it asks for them the kernels do their part.
use Rattle.std.specs.Prelude.{◌≡◌, ◌≢◌, ℕ, Result, Ok, Err}
use Rattle.sb_abi.specs.Numbers.{call_number}
use Rattle.sb_abi.specs.declared.call.Call.TheVariants.{Register, Bind, Protect}
use Rattle.sb_memory.specs.Physical.{Physical, frame_count}
use Rattle.sb_insn.specs.declared.insn.Insn.{Insn}
use Rattle.sb_insn.specs.declared.registers.Regs.{Regs}
use Rattle.sb_bus.specs.declared.stop.BusStop.{BusStop}
use Rattle.sb_bus.specs.declared.stop.BusStop.TheVariants as stop
use Rattle.sb_bus.specs.declared.stop.FaultKind.TheVariants as kind
use Rattle.sb_exec.specs.declared.action.Effect.{Effect}
use Rattle.sb_exec.specs.declared.action.Effect.TheVariants.{Next, Syscall, Switch, Undefined}
use Rattle.sb_exec.specs.Execution.{Execution, execution_of}
use Rattle.sb_exec.specs.Fetching.{FetchesOn}
use Rattle.sb_exec.specs.Rows.{row_of}
use Rattle.sb_nested.specs.View.{View}
use Rattle.sb_nested.specs.Store.{view_interface}
use Rattle.sb_state.specs.Registers.{rax}
use Rattle.sb_state.specs.declared.end_kind.EndKind.{EndKind}
use Rattle.sb_state.specs.declared.end_kind.EndKind.TheVariants.{Running, Ended, Faulted}
use Rattle.sb_trace.specs.declared.event.Event.{Event}
use Rattle.sb_trace.specs.declared.event.Event.TheVariants.{Idle}
use Rattle.sb_trace.specs.Syscall.{syscall_outcome}
use Rattle.sb_sub.specs.declared.answer.Answer.{Answer}
use Rattle.sb_sub.specs.Serving.{IsRefused, ServesBy, KeepsLists, line_of}
use Rattle.sb_sub.specs.Translations.{PlacesStay}
use Rattle.sb_machine.specs.Machine.{Machine, core_at, state_at, with_core, view_at, no_account}
use Rattle.sb_machine.specs.Outcomes.{Outcome, next_outcome, fault_outcome, switch_outcome, home_eptp, regs_behind, core_after_call, with_line}

-- ---- a system call

-- The Subkernel serves a call: it may change its own tables, the root kernel's, the frame book and memory, of which no frame
-- comes or goes; then the core goes on by the answer. A call that is refused changes none of them, one that does not register,
-- bind or protect leaves memory, and one that does not protect leaves each place that is reached.
pub record Calls (old : Machine) (number : ℕ) (insn : Insn) (event : Event) (new : Machine) : Type 0 where
  pub answer : Answer
  pub regs : Regs
  pub served : ServesBy syscall_outcome old.kernel old.root old.book old.memory new.kernel new.root new.book new.memory
      number (state_at old number).view answer (regs_behind insn (state_at old number).regs) regs
  pub lists : KeepsLists old.root new.root
  pub frames : frame_count new.memory ≡ frame_count old.memory
  pub refused : IsRefused answer
      → (new.kernel ≡ old.kernel) × (new.root ≡ old.root) × (new.book ≡ old.book) × (new.memory ≡ old.memory)
  pub quiet : rax (state_at old number).regs ≢ call_number Protect → rax (state_at old number).regs ≢ call_number Register
      → rax (state_at old number).regs ≢ call_number Bind → new.memory ≡ old.memory
  pub places : rax (state_at old number).regs ≢ call_number Protect
      → PlacesStay old.kernel old.root old.book old.memory new.memory
  pub line : event ≡ line_of answer
  pub cores : new.cores
      ≡ (with_core old number
      (core_after_call answer (home_eptp old.memory (state_at old number)) (core_at old number) regs)).cores

-- ---- an instruction

-- a stop is a fault of the thread; this memory never lacks a frame
abbrev pub StopsWith : Machine → ℕ → BusStop → Outcome → Type 0
StopsWith machine number (stop.Fault kind address) outcome = outcome ≡ fault_outcome machine number kind address.0
StopsWith machine number (stop.Missing frame) outcome = ⊥

-- what an instruction leaves of what its core sees
abbrev pub execution_on : Machine → ℕ → Insn → Execution View (Unit {0})
execution_on machine number insn =
    execution_of (view_interface no_account) (row_of insn (state_at machine number).regs) (state_at machine number).regs
    (view_at machine number) tt

abbrev pub PerformsBy : Machine → ℕ → Insn → Result Effect BusStop → Regs → Physical → Outcome → Type 0
PerformsBy machine number insn (Ok Next) regs memory outcome = outcome ≡ next_outcome machine number regs memory
PerformsBy machine number insn (Ok Syscall) regs memory outcome = Calls machine number insn outcome.0 outcome.1
PerformsBy machine number insn (Ok Switch) regs memory outcome = outcome ≡ switch_outcome machine number insn
PerformsBy machine number insn (Ok Undefined) regs memory outcome =
    outcome ≡ fault_outcome machine number kind.Undefined (state_at machine number).regs.rip
PerformsBy machine number insn (Err stop) regs memory outcome = StopsWith machine number stop outcome

abbrev pub Performs : Machine → ℕ → Insn → Outcome → Type 0
Performs machine number insn outcome =
    PerformsBy machine number insn (execution_on machine number insn).answer (execution_on machine number insn).registers
    (execution_on machine number insn).meaning.physical outcome

abbrev pub FollowsFetch : Machine → ℕ → Result Insn BusStop → Outcome → Type 0
FollowsFetch machine number (Ok insn) outcome = Performs machine number insn outcome
FollowsFetch machine number (Err stop) outcome = StopsWith machine number stop outcome

-- the instruction at RIP of a core
abbrev pub FetchesNext : Machine → ℕ → Result Insn BusStop → Type 0
FetchesNext machine number fetched =
    FetchesOn (view_interface no_account) (view_at machine number) (state_at machine number).regs.rip tt tt fetched

abbrev pub RunsOn : Machine → ℕ → Outcome → Type 0
RunsOn machine number outcome =
    (fetched : Result Insn BusStop) × FetchesNext machine number fetched × FollowsFetch machine number fetched outcome

-- ---- the step

-- a core whose thread has ended is idle
abbrev pub StepsBy : Machine → ℕ → EndKind → Outcome → Type 0
StepsBy machine number Running outcome = RunsOn machine number outcome
StepsBy machine number (Ended status) outcome = outcome ≡ (Idle, machine)
StepsBy machine number (Faulted kind address) outcome = outcome ≡ (Idle, machine)

-- a step of a core, before its line is counted
abbrev pub Works : Machine → ℕ → Event → Machine → Type 0
Works old number event new = StepsBy old number (core_at old number).end (event, new)

-- a step of a core
abbrev pub Steps : Machine → ℕ → Event → Machine → Type 0
Steps old number event new = (worked : Machine) × Works old number event worked × (new ≡ with_line worked number)
