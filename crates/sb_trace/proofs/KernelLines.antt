-- No line of the kernel is one of an instruction that went on.
use Rattle.std.proofs.Common.{◌≡◌, ℕ, Bool, true, false, ◌==◌}
use Rattle.std.specs.Prelude.{Option, Some, None, if◌then◌else◌}
use Rattle.sb_abi.specs.declared.call.CallRefusal.{CallRefusal}
use Rattle.sb_bus.specs.declared.stop.FaultKind.{FaultKind}
use Rattle.sb_bus.specs.declared.stop.FaultKind.TheVariants as kind
use Rattle.sb_calls.specs.Refusals.{protect_refusal}
use Rattle.sb_insn.specs.declared.registers.Regs.{Regs}
use Rattle.sb_state.proofs.Cases.{claim_if}
use Rattle.sb_state.specs.Pattern.{heap_pattern}
use Rattle.sb_state.specs.Registers.{rax, rdi, rsi, eax, ecx}
use Rattle.sb_state.specs.State.{State, thread_at, process_at}
use Rattle.sb_state.specs.Windows.{process_now}
use Rattle.sb_state.specs.declared.state.Binding.{Binding}
use Rattle.sb_state.specs.declared.state.Decision.{Decision}
use Rattle.sb_state.specs.declared.state.Flight.{Flight}
use Rattle.sb_trace.specs.declared.event.Event.{Event}
use Rattle.sb_trace.specs.declared.event.Event.TheVariants.{Step as StepLine, Unbound, BadLeaf, Turn, Return}
use Rattle.sb_trace.specs.Flight.{phase_outcome, vmfunc_outcome_by}
use Rattle.sb_trace.specs.Home.{Outcome, fault_outcome}
use Rattle.sb_trace.specs.KernelCall.{binding_with, call_outcome, entry_outcome, kernel_call, outcome_by_index, pool_word, refusal_or_fault, return_outcome}
use Rattle.sb_trace.specs.Syscall.{exit_outcome, outcome_by_number, syscall_outcome}
use Rattle.sb_trace.specs.SyscallBind.{bind_outcome, refusal_of_bind}
use Rattle.sb_trace.specs.SyscallProtect.{execute_mode_outcome, heap_count, protect_outcome_by}
use Rattle.sb_trace.specs.SyscallRegister.{refusal_of_register, register_outcome}

-- a line that is none of an instruction without a mark
abbrev pub IsOther : Event → Type 0
IsOther (StepLine rip) = ⊥
IsOther _ = Unit {0}

abbrev HasOther : Outcome → Type 0
HasOther outcome = IsOther outcome.0

module _ (state : State) (core : ℕ) where
  -- ---- faults and calls through VMFUNC

  pub fault_other : (kind : FaultKind) (address : ℕ) → HasOther (fault_outcome state core kind address)
  fault_other kind address = claim_if HasOther ((thread_at state core).view == 0) _ _ (λ home. tt) (λ away. tt)

  not_switched_other : (line : Event) (status : ℕ) → IsOther line
      → HasOther (refusal_or_fault state core (thread_at state core) line status)
  not_switched_other line status other =
      claim_if HasOther ((thread_at state core).view == 0) _ _ (λ home. other)
      (λ away. fault_other kind.Switch (thread_at state core).regs.rip)

  home_other : (test : Bool) → IsOther (if test then Turn else Return)
  home_other true = tt
  home_other false = tt

  entry_other : (binding : Binding) (word : ℕ) → HasOther (entry_outcome state core (thread_at state core) binding word)
  entry_other binding word = claim_if HasOther (word == 0) _ _ (λ none. tt) (λ some. tt)

  through_other : (index : ℕ) (found : Option Binding) → HasOther (call_outcome state core (thread_at state core) index found)
  through_other index None = not_switched_other (Unbound index) 3 tt
  through_other index (Some binding) =
      claim_if HasOther (rsi (thread_at state core).regs == binding.key) _ _
      (λ fits. entry_other binding (pool_word state binding.server)) (λ wrong. tt)

  index_other : (leaf index : ℕ) → HasOther (outcome_by_index state core (thread_at state core) leaf index)
  index_other leaf index =
      claim_if HasOther (leaf == 0) _ _
      (λ switches. claim_if HasOther (index == 0) _ _ (λ home. home_other ((thread_at state core).view == 0))
      (λ away. through_other index (binding_with (thread_at state core).bindings index)))
      (λ bad. not_switched_other (BadLeaf index) 5 tt)

  call_other : HasOther (kernel_call state core)
  unfolding kernel_call
  call_other = index_other (eax (thread_at state core).regs) (ecx (thread_at state core).regs)

  pub vmfunc_other : (found : Option Binding) → HasOther (vmfunc_outcome_by state core found)
  vmfunc_other None = call_other
  vmfunc_other (Some binding) = tt

  pub phase_other : (flight : Flight) (decided : Option Decision) → HasOther (phase_outcome state core flight decided)
  phase_other flight None = tt
  phase_other flight (Some decided) = call_other

  -- ---- system calls

  exit_other : (next : Regs) → HasOther (exit_outcome state core next)
  exit_other next = claim_if HasOther ((thread_at state core).view == 0) _ _ (λ home. tt) (λ away. tt)

  register_other : (next : Regs) (process : ℕ) (refusal : Option CallRefusal)
      → HasOther (register_outcome state core next process refusal)
  register_other next process (Some refusal) = tt
  register_other next process None = tt

  bind_other : (next : Regs) (refusal : Option CallRefusal)
      → HasOther (bind_outcome state core (thread_at state core) next refusal)
  bind_other next (Some refusal) = tt
  bind_other next None = tt

  execute_other : (next : Regs) (process page : ℕ) (found : Option ℕ)
      → HasOther (execute_mode_outcome state core next process page found)
  execute_other next process page (Some address) = tt
  execute_other next process page None = tt

  protect_other : (next : Regs) (process page mode : ℕ) (refusal : Option CallRefusal)
      → HasOther (protect_outcome_by state core next process page mode refusal)
  protect_other next process page mode (Some refusal) = tt
  protect_other next process page mode None =
      claim_if HasOther (mode == 1) _ _ (λ executed. execute_other next process page (heap_pattern state process page))
      (λ written. tt)

  number_other : (next : Regs) (call : ℕ) → HasOther (outcome_by_number state core (thread_at state core) next call)
  number_other next call =
      let process : ℕ = process_now (thread_at state core) in
      claim_if HasOther (call == 0) _ _ (λ is. exit_other next)
      (λ more. claim_if HasOther (call == 1) _ _ (λ is. tt)
      (λ more. claim_if HasOther (call == 2) _ _
      (λ is. register_other next process
      (refusal_of_register state (thread_at state core).view process (rdi next) (rsi next)))
      (λ more. claim_if HasOther (call == 3) _ _
      (λ is. bind_other next (refusal_of_bind state (thread_at state core) (rdi next)))
      (λ more. claim_if HasOther (call == 4) _ _
      (λ is. protect_other next process (rdi next) (rsi next)
      (protect_refusal (heap_count (process_at state process)) (rdi next) (rsi next)))
      (λ more. tt)))))

  pub syscall_other : (next : Regs) → HasOther (syscall_outcome state core next)
  unfolding syscall_outcome
  syscall_other next = number_other next (rax next)
