-- The line of a thread that runs is not `idle`.
use Rattle.std.proofs.Common.{◌≡◌, ◌≢◌, ℕ, Bool, true, false, ◌==◌, sym, subst, Option, Some, None, Result, Ok, Err}
use Rattle.std.specs.Prelude.{if◌then◌else◌}
use Rattle.sb_abi.specs.declared.call.Call.TheVariants as system_call
use Rattle.sb_abi.specs.declared.call.CallRefusal.{CallRefusal}
use Rattle.sb_abi.specs.Numbers.{call_number}
use Rattle.sb_insn.specs.declared.insn.Insn.{Insn}
use Rattle.sb_insn.specs.declared.registers.Regs.{Regs}
use Rattle.sb_bus.specs.declared.stop.BusStop.{BusStop}
use Rattle.sb_bus.specs.declared.stop.BusStop.TheVariants.{Fault as FaultStop, Missing}
use Rattle.sb_bus.specs.declared.stop.FaultKind.{FaultKind}
use Rattle.sb_exec.specs.declared.action.Effect.{Effect}
use Rattle.sb_exec.specs.declared.action.Effect.TheVariants.{Next, Syscall, Switch, Undefined}
use Rattle.sb_slots.specs.declared.mark.Mark.{Mark}
use Rattle.sb_slots.specs.declared.mark.Mark.TheVariants as mark_of
use Rattle.sb_slots.specs.Marks.{mark}
use Rattle.sb_state.specs.declared.end_kind.EndKind.{EndKind}
use Rattle.sb_state.specs.declared.end_kind.EndKind.TheVariants.{Running, Ended, Faulted}
use Rattle.sb_state.specs.declared.state.Binding.{Binding}
use Rattle.sb_state.specs.declared.state.Decision.{Decision}
use Rattle.sb_state.specs.declared.state.Flight.{Flight}
use Rattle.sb_state.specs.declared.state.Thread.{Thread}
use Rattle.sb_state.specs.Pattern.{heap_pattern}
use Rattle.sb_state.specs.Registers.{eax, ecx, rax, rdi, rsi}
use Rattle.sb_state.specs.State.{State, thread_at, flight_at, process_at}
use Rattle.sb_state.specs.Windows.{process_now}
use Rattle.sb_calls.specs.Refusals.{protect_refusal}
use Rattle.sb_calls.specs.declared.refusals.TheConstants.{EXECUTE_MODE}
use Rattle.sb_trace.specs.declared.event.Event.{Event}
use Rattle.sb_trace.specs.declared.event.Event.TheVariants as event
use Rattle.sb_trace.specs.Home.{Outcome, fault_outcome}
use Rattle.sb_trace.specs.KernelCall.{kernel_call, outcome_by_index, call_outcome, entry_outcome, refusal_or_fault, return_outcome, binding_with}
use Rattle.sb_trace.specs.Flight.{vmfunc_outcome, vmfunc_outcome_by, called_binding, landing_step, phase_outcome}
use Rattle.sb_trace.specs.SyscallRegister.{register_outcome, refusal_of_register}
use Rattle.sb_trace.specs.SyscallBind.{bind_outcome, refusal_of_bind}
use Rattle.sb_trace.specs.SyscallProtect.{protect_outcome_by, execute_mode_outcome, heap_count}
use Rattle.sb_trace.specs.Syscall.{syscall_outcome, outcome_by_number, exit_outcome}
use Rattle.sb_trace.specs.Marks.{HasMark, StepsWithMark, line_of_mark, map_now, touches_scratch}
use Rattle.sb_trace.specs.Step.{StopsWith, PerformsBy, FollowsFetch, GoesOn, StepsBy, Steps}

-- the line of an outcome is not `idle`
abbrev IsBusy : Outcome → Type 0
IsBusy outcome = outcome.0 ≢ event.Idle

either : (test : Bool) (one other : Outcome) → IsBusy one → IsBusy other → IsBusy (if test then one else other)
either true one other busy also = busy
either false one other busy also = also

fault_busy : (state : State) (core : ℕ) (kind : FaultKind) (address : ℕ) → IsBusy (fault_outcome state core kind address)
fault_busy state core kind address = either ((thread_at state core).view == 0) _ _ (λ idle. cc) (λ idle. cc)

-- ---- calls through VMFUNC

refusal_busy : (state : State) (core : ℕ) (thread : Thread) (line : Event) (status : ℕ) → line ≢ event.Idle
    → IsBusy (refusal_or_fault state core thread line status)
refusal_busy state core thread line status busy = either (thread.view == 0) _ _ busy (fault_busy state core _ _)

return_busy : (state : State) (core : ℕ) (thread : Thread) (test : Bool)
    → (if test then event.Turn else event.Return) ≢ event.Idle
return_busy state core thread true = λ idle. cc
return_busy state core thread false = λ idle. cc

entry_busy : (state : State) (core : ℕ) (thread : Thread) (binding : Binding) (word : ℕ)
    → IsBusy (entry_outcome state core thread binding word)
entry_busy state core thread binding word = either (word == 0) _ _ (λ idle. cc) (λ idle. cc)

call_busy : (state : State) (core : ℕ) (thread : Thread) (index : ℕ) (found : Option Binding)
    → IsBusy (call_outcome state core thread index found)
call_busy state core thread index None = refusal_busy state core thread (event.Unbound index) _ (λ idle. cc)
call_busy state core thread index (Some binding) =
    either (rsi thread.regs == binding.key) _ _ (entry_busy state core thread binding _) (λ idle. cc)

index_busy : (state : State) (core : ℕ) (thread : Thread) (leaf index : ℕ)
    → IsBusy (outcome_by_index state core thread leaf index)
index_busy state core thread leaf index =
    either (leaf == 0) _ _
    (either (index == 0) (return_outcome state core thread) _ (return_busy state core thread (thread.view == 0))
    (call_busy state core thread index (binding_with thread.bindings index)))
    (refusal_busy state core thread (event.BadLeaf index) _ (λ idle. cc))

kernel_busy : (state : State) (core : ℕ) → IsBusy (kernel_call state core)
unfolding kernel_call
kernel_busy state core =
    index_busy state core (thread_at state core) (eax (thread_at state core).regs) (ecx (thread_at state core).regs)

vmfunc_busy_by : (state : State) (core : ℕ) (found : Option Binding) → IsBusy (vmfunc_outcome_by state core found)
vmfunc_busy_by state core None = kernel_busy state core
vmfunc_busy_by state core (Some binding) = λ idle. cc

vmfunc_busy : (state : State) (core : ℕ) → IsBusy (vmfunc_outcome state core)
unfolding vmfunc_outcome
vmfunc_busy state core = vmfunc_busy_by state core (called_binding (thread_at state core))

phase_busy : (state : State) (core : ℕ) (flight : Flight) (decided : Option Decision)
    → IsBusy (phase_outcome state core flight decided)
phase_busy state core flight None = λ idle. cc
phase_busy state core flight (Some decided) = kernel_busy state core

landing_busy : (state : State) (core : ℕ) (flight : Flight) → IsBusy (landing_step state core flight)
unfolding landing_step
landing_busy state core flight = phase_busy state core _ _

-- ---- system calls

exit_busy : (state : State) (core : ℕ) (next : Regs) → IsBusy (exit_outcome state core next)
exit_busy state core next = either ((thread_at state core).view == 0) _ _ (λ idle. cc) (λ idle. cc)

register_busy : (state : State) (core : ℕ) (next : Regs) (process : ℕ) (refusal : Option CallRefusal)
    → IsBusy (register_outcome state core next process refusal)
register_busy state core next process None = λ idle. cc
register_busy state core next process (Some refusal) = λ idle. cc

bind_busy : (state : State) (core : ℕ) (thread : Thread) (next : Regs) (refusal : Option CallRefusal)
    → IsBusy (bind_outcome state core thread next refusal)
bind_busy state core thread next None = λ idle. cc
bind_busy state core thread next (Some refusal) = λ idle. cc

execute_busy : (state : State) (core : ℕ) (next : Regs) (process page : ℕ) (found : Option ℕ)
    → IsBusy (execute_mode_outcome state core next process page found)
execute_busy state core next process page None = λ idle. cc
execute_busy state core next process page (Some address) = λ idle. cc

protect_busy : (state : State) (core : ℕ) (next : Regs) (process page mode : ℕ) (refusal : Option CallRefusal)
    → IsBusy (protect_outcome_by state core next process page mode refusal)
protect_busy state core next process page mode (Some refusal) = λ idle. cc
protect_busy state core next process page mode None =
    either (mode == EXECUTE_MODE) _ _ (execute_busy state core next process page (heap_pattern state process page)) (λ idle. cc)

number_busy : (state : State) (core : ℕ) (thread : Thread) (next : Regs) (call : ℕ)
    → IsBusy (outcome_by_number state core thread next call)
number_busy state core thread next call =
    either (call == call_number system_call.Exit) _ _ (exit_busy state core next)
    (either (call == call_number system_call.Print) _ _ (λ idle. cc)
    (either (call == call_number system_call.Register) _ _
    (register_busy state core next (process_now thread)
    (refusal_of_register state thread.view (process_now thread) (rdi next) (rsi next)))
    (either (call == call_number system_call.Bind) _ _
    (bind_busy state core thread next (refusal_of_bind state thread (rdi next)))
    (either (call == call_number system_call.Protect) _ _
    (protect_busy state core next (process_now thread) (rdi next) (rsi next)
    (protect_refusal (heap_count (process_at state (process_now thread))) (rdi next) (rsi next)))
    (λ idle. cc)))))

syscall_busy : (state : State) (core : ℕ) (next : Regs) → IsBusy (syscall_outcome state core next)
unfolding syscall_outcome
syscall_busy state core next = number_busy state core (thread_at state core) next (rax next)

-- ---- a step

stop_busy : (state : State) (core : ℕ) (stop : BusStop) (outcome : Outcome) → StopsWith state core stop outcome → IsBusy outcome
stop_busy state core (FaultStop kind address) outcome is = subst IsBusy (sym is) (fault_busy state core kind address.0)
stop_busy state core (Missing frame) outcome is = absurd is

performs_busy : (state : State) (core : ℕ) (insn : Insn) (regs : Regs) (answer : Result Effect BusStop) (regs' : Regs)
    (state' : State) (outcome : Outcome)
    → PerformsBy vmfunc_outcome state core insn regs answer regs' state' outcome → IsBusy outcome
performs_busy state core insn regs (Ok Next) regs' state' outcome is = subst IsBusy (sym is) (λ idle. cc)
performs_busy state core insn regs (Ok Syscall) regs' state' outcome is = subst IsBusy (sym is) (syscall_busy state core _)
performs_busy state core insn regs (Ok Undefined) regs' state' outcome is = subst IsBusy (sym is) (fault_busy state core _ _)
performs_busy state core insn regs (Ok Switch) regs' state' outcome is = subst IsBusy (sym is) (vmfunc_busy state core)
performs_busy state core insn regs (Err stop) regs' state' outcome is = stop_busy state core stop outcome is

follows_busy : (state : State) (core view : ℕ) (regs : Regs) (fetched : Result Insn BusStop) (outcome : Outcome)
    → FollowsFetch vmfunc_outcome state core view regs fetched outcome → IsBusy outcome
follows_busy state core view regs (Ok insn) outcome performs = performs_busy state core insn regs _ _ _ outcome performs
follows_busy state core view regs (Err stop) outcome is = stop_busy state core stop outcome is

goes_busy : (state : State) (core : ℕ) (thread : Thread) (flight : Option Flight) (outcome : Outcome)
    → GoesOn state core thread flight outcome → IsBusy outcome
goes_busy state core thread None outcome (fetched, fetches, follows) =
    follows_busy state core thread.view thread.regs fetched outcome follows
goes_busy state core thread (Some flight) outcome is = subst IsBusy (sym is) (landing_busy state core flight)

by_busy : (state : State) (core : ℕ) (thread : Thread) (end : EndKind) (outcome : Outcome) → end ≡ Running
    → StepsBy state core thread end outcome → IsBusy outcome
by_busy state core thread Running outcome is steps = goes_busy state core thread (flight_at state core) outcome steps
by_busy state core thread (Ended status) outcome is steps = cc
by_busy state core thread (Faulted kind address) outcome is steps = cc

-- a step of a thread that runs has a line other than `idle`
busy_steps : (old : State) (core : ℕ) (line : Event) (new : State) → (thread_at old core).state ≡ Running
    → Steps old core line new → line ≢ event.Idle
busy_steps old core line new runs steps =
    by_busy old core (thread_at old core) (thread_at old core).state (line, new) runs steps

-- so has one with its mark
mark_busy : (one : Mark) (rip : ℕ) → line_of_mark one rip ≢ event.Idle
mark_busy mark_of.Step rip = λ idle. cc
mark_busy mark_of.Extra rip = λ idle. cc
mark_busy mark_of.Stray rip = λ idle. cc

marked_busy : (old : State) (core : ℕ) (unmarked line : Event) (new : State) → HasMark old core unmarked line new
    → unmarked ≢ event.Idle → line ≢ event.Idle
marked_busy old core (event.Step rip) line new (insn, fetches, is) busy =
    subst (λ (one : Event). one ≢ event.Idle) (sym is)
    (mark_busy (mark (map_now old core) (thread_at old core).regs.rip (thread_at new core).regs.rip
    (touches_scratch insn (thread_at old core).regs)) (thread_at old core).regs.rip)
marked_busy old core unmarked line new is busy = subst (λ (one : Event). one ≢ event.Idle) (sym is) busy

pub busy_with_mark : (old : State) (core : ℕ) (line : Event) (new : State) → (thread_at old core).state ≡ Running
    → StepsWithMark old core line new → line ≢ event.Idle
busy_with_mark old core line new runs (unmarked, steps, marked) =
    marked_busy old core unmarked line new marked (busy_steps old core unmarked new runs steps)
