-- A refused system call leaves all but five registers of its thread as they were.
use Rattle.std.proofs.Common.{◌≡◌, ◌≢◌, ℕ, zero, suc, ◌+◌, ◌<◌, ◌==◌, Bool, true, false, List, [], ◌∷◌, length, Option, Some, None, Result, Ok, Err, refl, sym, ap, ◌∙◌, subst, if◌then◌else◌, arith, get_or-set_other, get_or-set_same}
use Rattle.std.specs.Prelude.{slice_index, slice_get, slice_set, unwrap_or}
use Rattle.sb_insn.specs.Registers.{flags_image}
use Rattle.sb_insn.specs.declared.insn.Insn.{Insn}
use Rattle.sb_insn.specs.declared.registers.Regs.{Regs}
use Rattle.sb_bus.specs.declared.stop.BusStop.{BusStop}
use Rattle.sb_bus.specs.declared.stop.BusStop.TheVariants.{Fault as FaultStop, Missing}
use Rattle.sb_bus.specs.declared.stop.FaultKind.{FaultKind}
use Rattle.sb_bus.specs.declared.stop.FaultKind.TheVariants as kind
use Rattle.sb_exec.specs.declared.action.Effect.{Effect}
use Rattle.sb_exec.specs.declared.action.Effect.TheVariants.{Next, Syscall, Switch, Undefined}
use Rattle.sb_exec.specs.Execution.{Execution}
use Rattle.sb_exec.specs.Operand.{next_rip}
use Rattle.sb_trace.specs.declared.event.Event.{Event}
use Rattle.sb_trace.specs.declared.event.Event.TheVariants.{Unbound, BadLeaf, Turn, Return}
use Rattle.sb_state.specs.declared.end_kind.EndKind.{EndKind}
use Rattle.sb_state.specs.declared.end_kind.EndKind.TheVariants.{Running, Ended, Faulted}
use Rattle.sb_state.specs.declared.state.Binding.{Binding}
use Rattle.sb_state.specs.declared.state.Decision.{Decision}
use Rattle.sb_state.specs.declared.state.Flight.{Flight}
use Rattle.sb_state.specs.declared.state.Thread.{Thread}
use Rattle.sb_state.specs.Registers.{rax, eax, ecx, rdi, rsi}
use Rattle.sb_state.specs.State.{State, thread_at, flight_at, no_thread, with_regs}
use Rattle.sb_trace.specs.Home.{Outcome, fault_outcome}
use Rattle.sb_trace.specs.KernelCall.{binding_with, pool_word, refusal_or_fault, call_outcome, kernel_call}
use Rattle.sb_trace.specs.Flight.{phase_outcome, landing_step, called_binding, vmfunc_outcome_by, vmfunc_outcome}
use Rattle.sb_trace.specs.Step.{StopsWith, outcome_by_effect, PerformsBy, execution_in_view, FollowsFetch, GoesOn, StepsBy, Steps}
use Rattle.sb_state.specs.Windows.{process_now}
use Rattle.sb_abi.specs.declared.call.CallRefusal.{CallRefusal}
use Rattle.sb_abi.specs.declared.call.CallRefusal.TheVariants.{NoCall, Pattern}
use Rattle.sb_abi.specs.Numbers.{refusal_number}
use Rattle.sb_calls.specs.SyscallRegisters.{after_syscall, regs_with_answer}
use Rattle.sb_trace.specs.SyscallAnswer.{syscall_refusal}
use Rattle.sb_trace.specs.SyscallRegister.{register_outcome}
use Rattle.sb_trace.specs.SyscallBind.{bind_outcome}
use Rattle.sb_trace.specs.SyscallProtect.{execute_mode_outcome, protect_outcome_by}
use Rattle.sb_trace.specs.Syscall.{exit_outcome, outcome_by_number, syscall_outcome}
use Rattle.sb_state.specs.Pattern.{heap_pattern}
use Rattle.sb_state.proofs.Threads.{regs_set}
use Rattle.sb_plain.specs.RefusedCall.{IsRefusedCall, KeepsOthers, LeavesAll}

-- what is said of a step's outcome
abbrev Leaves : State → ℕ → Outcome → Type 0
Leaves state number outcome = IsRefusedCall outcome.0 → LeavesAll state outcome.1 number

-- ---- a refusal

four_put : (values : List ℕ) (rcx r11 rax rdx register : ℕ) → register ≢ 0 → register ≢ 1 → register ≢ 2 → register ≢ 11
    → slice_index (slice_set (slice_set (slice_set (slice_set values 1 rcx) 11 r11) 0 rax) 2 rdx) register
    ≡ slice_index values register
four_put values rcx r11 rax rdx register not_rax not_rcx not_rdx not_r11 =
    get_or-set_other (slice_set (slice_set (slice_set values 1 rcx) 11 r11) 0 rax) 2 register rdx 0 not_rdx
    ∙ get_or-set_other (slice_set (slice_set values 1 rcx) 11 r11) 0 register rax 0 not_rax
    ∙ get_or-set_other (slice_set values 1 rcx) 11 register r11 0 not_r11 ∙ get_or-set_other values 1 register rcx 0 not_rcx

others_stay : (address : ℕ) (regs : Regs) (answer second : ℕ)
    → KeepsOthers regs (regs_with_answer (after_syscall address regs) answer second)
others_stay address regs answer second = record {
  general = λ register not_rax not_rcx not_rdx not_r11.
      four_put regs.general address (flags_image regs.flags + 0x202) answer second register not_rax not_rcx not_rdx not_r11;
  flags = refl;
}

-- ---- the calls

by_test : (state : State) (number : ℕ) (test : Bool) (first second : Outcome) → Leaves state number first
    → Leaves state number second → Leaves state number (if test then first else second)
by_test state number true first second one other = one
by_test state number false first second one other = other

-- a SYSCALL of the thread of this number, whose next instruction is at this address
module _ (address : ℕ) (state : State) (number : ℕ) (inside : number < length state.threads) where
  abbrev next : Regs
  next = after_syscall address (thread_at state number).regs

  refused_leaves : (refusal : CallRefusal) (second : ℕ) → Leaves state number (syscall_refusal state number next refusal second)
  refused_leaves refusal second refused =
      let there = regs_set state number (regs_with_answer next (refusal_number refusal) second) inside in
      record {
        state = ap (λ (left : Regs). with_regs state number left) (sym there);
        registers = subst (λ (left : Regs). KeepsOthers (thread_at state number).regs left) (sym there)
            (others_stay address (thread_at state number).regs (refusal_number refusal) second);
      }

  exit_leaves : Leaves state number (exit_outcome state number next)
  exit_leaves = by_test state number ((thread_at state number).view == 0) _ _ (λ no. absurd no) (λ no. absurd no)

  register_leaves : (process : ℕ) (refusal : Option CallRefusal)
      → Leaves state number (register_outcome state number next process refusal)
  register_leaves process (Some refusal) = refused_leaves refusal 0
  register_leaves process None = λ refused. absurd (refused refl)

  bind_leaves : (thread : Thread) (refusal : Option CallRefusal)
      → Leaves state number (bind_outcome state number thread next refusal)
  bind_leaves thread (Some refusal) = refused_leaves refusal 0
  bind_leaves thread None = λ refused. absurd (refused refl)

  execute_leaves : (process page : ℕ) (found : Option ℕ)
      → Leaves state number (execute_mode_outcome state number next process page found)
  execute_leaves process page (Some address) = refused_leaves Pattern address
  execute_leaves process page None = λ refused. absurd (refused refl)

  protect_leaves : (process page mode : ℕ) (refusal : Option CallRefusal)
      → Leaves state number (protect_outcome_by state number next process page mode refusal)
  protect_leaves process page mode (Some refusal) = refused_leaves refusal 0
  protect_leaves process page mode None =
      by_test state number (mode == 1) _ _ (execute_leaves process page (heap_pattern state process page))
      (λ refused. absurd (refused refl))

  number_leaves : (thread : Thread) (call : ℕ) → Leaves state number (outcome_by_number state number thread next call)
  number_leaves thread call =
      by_test state number (call == 0) _ _ exit_leaves
      (by_test state number (call == 1) _ _ (λ no. absurd no)
      (by_test state number (call == 2) _ _ (register_leaves (process_now thread) _)
      (by_test state number (call == 3) _ _ (bind_leaves thread _)
      (by_test state number (call == 4) _ _ (protect_leaves (process_now thread) (rdi next) (rsi next) _)
      (refused_leaves NoCall 0)))))

-- ---- lines of no system call

-- its line is not that of a refused call
abbrev IsOther : Outcome → Type 0
IsOther outcome = IsRefusedCall outcome.0 → ⊥

other_by_test : (test : Bool) (first second : Outcome) → IsOther first → IsOther second → IsOther (if test then first else second)
other_by_test true first second one other = one
other_by_test false first second one other = other

fault_is_other : (state : State) (number : ℕ) (kind : FaultKind) (address : ℕ) → IsOther (fault_outcome state number kind address)
fault_is_other state number kind address =
    other_by_test ((thread_at state number).view == 0) _ _ (λ refused. refused) (λ refused. refused)

stop_is_other : (state : State) (number : ℕ) (stop : BusStop) (outcome : Outcome) → StopsWith state number stop outcome
    → IsOther outcome
stop_is_other state number (FaultStop kind address) outcome stops =
    subst IsOther (sym stops) (fault_is_other state number kind address.0)
stop_is_other state number (Missing frame) outcome stops = absurd stops

refusal_or_fault_is_other : (state : State) (number : ℕ) (thread : Thread) (line : Event) (status : ℕ) → (IsRefusedCall line → ⊥)
    → IsOther (refusal_or_fault state number thread line status)
refusal_or_fault_is_other state number thread line status other =
    other_by_test (thread.view == 0) _ _ other (fault_is_other state number kind.Switch thread.regs.rip)

return_is_other : (test : Bool) → IsRefusedCall (if test then Turn else Return) → ⊥
return_is_other true refused = refused
return_is_other false refused = refused

call_is_other : (state : State) (number : ℕ) (thread : Thread) (index : ℕ) (binding : Option Binding)
    → IsOther (call_outcome state number thread index binding)
call_is_other state number thread index None =
    refusal_or_fault_is_other state number thread (Unbound index) _ (λ refused. refused)
call_is_other state number thread index (Some binding) =
    other_by_test (rsi thread.regs == binding.key) _ _
    (other_by_test (pool_word state binding.server == 0) _ _ (λ refused. refused) (λ refused. refused))
    (λ refused. refused)

-- a call or a return through VMFUNC
kernel_is_other : (state : State) (number : ℕ) → IsOther (kernel_call state number)
unfolding kernel_call
kernel_is_other state number =
    let thread = thread_at state number in
    other_by_test (eax thread.regs == 0) _ _
    (other_by_test (ecx thread.regs == 0) _ _ (return_is_other (thread.view == 0))
    (call_is_other state number thread (ecx thread.regs) (binding_with thread.bindings (ecx thread.regs))))
    (refusal_or_fault_is_other state number thread (BadLeaf (ecx thread.regs)) _ (λ refused. refused))

vmfunc_is_other : (state : State) (number : ℕ) (binding : Option Binding) → IsOther (vmfunc_outcome_by state number binding)
vmfunc_is_other state number None = kernel_is_other state number
vmfunc_is_other state number (Some binding) = λ refused. refused

phase_is_other : (state : State) (number : ℕ) (flight : Flight) (decided : Option Decision)
    → IsOther (phase_outcome state number flight decided)
phase_is_other state number flight None = λ refused. refused
phase_is_other state number flight (Some decided) = kernel_is_other state number

-- ---- a step

-- a thread that runs is there
running_inside : (threads : List Thread) (number : ℕ) → (unwrap_or (slice_get threads number) no_thread).state ≡ Running
    → number < length threads
unfolding no_thread
running_inside [] number running = absurd cc
running_inside (first ∷ threads) zero running = omega arith
running_inside (first ∷ threads) (suc number) running = omega (arith, running_inside threads number running)

module _ (state : State) (number : ℕ) (outcome : Outcome) where
  other_leaves : IsOther outcome → Leaves state number outcome
  other_leaves other = λ refused. absurd (other refused)

  effect_leaves : (insn : Insn) (effect : Effect) (left : Regs) (after : State) → number < length state.threads
      → outcome ≡ outcome_by_effect vmfunc_outcome state number insn (thread_at state number).regs effect left after
      → Leaves state number outcome
  unfolding vmfunc_outcome syscall_outcome
  effect_leaves insn Next left after inside is = other_leaves (subst IsOther (sym is) (λ refused. refused))
  effect_leaves insn Syscall left after inside is =
      subst (Leaves state number) (sym is)
      (number_leaves (next_rip insn (thread_at state number).regs) state number inside (thread_at state number)
      (rax (after_syscall (next_rip insn (thread_at state number).regs) (thread_at state number).regs)))
  effect_leaves insn Undefined left after inside is = other_leaves (subst IsOther (sym is) (fault_is_other state number _ _))
  effect_leaves insn Switch left after inside is =
      other_leaves (subst IsOther (sym is) (vmfunc_is_other state number (called_binding (thread_at state number))))

  performed_leaves : (insn : Insn) (answer : Result Effect BusStop) (left : Regs) (after : State)
      → number < length state.threads
      → PerformsBy vmfunc_outcome state number insn (thread_at state number).regs answer left after outcome
      → Leaves state number outcome
  performed_leaves insn (Ok effect) left after inside is = effect_leaves insn effect left after inside is
  performed_leaves insn (Err stop) left after inside stops = other_leaves (stop_is_other state number stop outcome stops)

  fetched_leaves : (view : ℕ) (fetched : Result Insn BusStop) → number < length state.threads
      → FollowsFetch vmfunc_outcome state number view (thread_at state number).regs fetched outcome → Leaves state number outcome
  fetched_leaves view (Ok insn) inside follows =
      let execution : Execution State (Unit {0}) = execution_in_view state number view insn (thread_at state number).regs in
      performed_leaves insn execution.answer execution.registers execution.meaning inside follows
  fetched_leaves view (Err stop) inside stops = other_leaves (stop_is_other state number stop outcome stops)

  going_leaves : (flight : Option Flight) → number < length state.threads
      → GoesOn state number (thread_at state number) flight outcome → Leaves state number outcome
  unfolding landing_step
  going_leaves None inside (fetched, fetches, follows) =
      fetched_leaves (thread_at state number).view fetched inside follows
  going_leaves (Some flight) inside is =
      other_leaves (subst IsOther (sym is) (phase_is_other state number _ _))

  step_leaves : (end : EndKind) → (thread_at state number).state ≡ end
      → StepsBy state number (thread_at state number) end outcome → Leaves state number outcome
  unfolding thread_at
  step_leaves Running running goes = going_leaves (flight_at state number) (running_inside state.threads number running) goes
  step_leaves (Ended status) ended is = other_leaves (subst IsOther (sym is) (λ refused. refused))
  step_leaves (Faulted kind address) ended is = other_leaves (subst IsOther (sym is) (λ refused. refused))

-- a step with the line of a refused call leaves all but five registers of its thread
pub steps_leave : (old : State) (core : ℕ) (event : Event) (new : State) → Steps old core event new → IsRefusedCall event
    → LeavesAll old new core
steps_leave old core event new steps = step_leaves old core (event, new) (thread_at old core).state refl steps
