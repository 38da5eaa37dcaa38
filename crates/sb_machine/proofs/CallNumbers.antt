-- The line of a system call tells its number.
use Rattle.std.proofs.Common.{◌≡◌, ℕ, ◌==◌, true, refl, arith}
use Rattle.std.specs.Prelude.{Option, Some, None}
use Rattle.sb_abi.specs.Numbers.{call_number}
use Rattle.sb_abi.specs.declared.call.Call.TheVariants as system_call
use Rattle.sb_abi.specs.declared.call.CallRefusal.{CallRefusal}
use Rattle.sb_calls.specs.Refusals.{protect_refusal}
use Rattle.sb_calls.specs.declared.refusals.TheConstants.{EXECUTE_MODE}
use Rattle.sb_insn.specs.declared.registers.Regs.{Regs}
use Rattle.sb_state.specs.Registers.{rax, rdi, rsi}
use Rattle.sb_state.specs.Windows.{process_now}
use Rattle.sb_state.proofs.Cases.{claim_if}
use Rattle.sb_trace.specs.declared.event.Event.{Event}
use Rattle.sb_trace.specs.declared.event.Event.TheVariants as event
use Rattle.sb_trace.specs.Home.{Outcome}
use Rattle.sb_trace.specs.Pattern.{heap_pattern}
use Rattle.sb_trace.specs.State.{State, thread_at, process_at}
use Rattle.sb_trace.specs.Syscall.{exit_outcome, syscall_outcome}
use Rattle.sb_trace.specs.SyscallBind.{bind_outcome}
use Rattle.sb_trace.specs.SyscallProtect.{heap_count, execute_mode_outcome, protect_outcome_by}
use Rattle.sb_trace.specs.SyscallRegister.{register_outcome}

-- the number of the call whose line this is
abbrev pub IsLineOf : ℕ → Event → Type 0
IsLineOf number (event.Sys call value) = call ≡ number
IsLineOf number (event.Printed value) = number ≡ call_number system_call.Print
IsLineOf number (event.Exit status) = number ≡ call_number system_call.Exit
IsLineOf number (event.ServerExit status) = number ≡ call_number system_call.Exit
IsLineOf number _ = ⊥

-- a number that is tested to be another is the other
number_is : (number other : ℕ) → (number == other) ≡ true → number ≡ other
number_is number other is = grind (arith)

module _ (state : State) (core : ℕ) (next : Regs) where
  abbrev Tells : Outcome → Type 0
  Tells outcome = IsLineOf (rax next) outcome.0

  tells_exit : rax next ≡ 0 → Tells (exit_outcome state core next)
  tells_exit is = claim_if Tells ((thread_at state core).view == 0) _ _ (λ home. is) (λ away. is)

  tells_register : (process : ℕ) (refusal : Option CallRefusal) → Tells (register_outcome state core next process refusal)
  tells_register process (Some refusal) = refl
  tells_register process None = refl

  tells_bind : (refusal : Option CallRefusal) → Tells (bind_outcome state core (thread_at state core) next refusal)
  tells_bind (Some refusal) = refl
  tells_bind None = refl

  tells_execute : (process page : ℕ) (found : Option ℕ) → Tells (execute_mode_outcome state core next process page found)
  tells_execute process page (Some address) = refl
  tells_execute process page None = refl

  tells_protect : (process page mode : ℕ) (refusal : Option CallRefusal)
      → Tells (protect_outcome_by state core next process page mode refusal)
  tells_protect process page mode (Some refusal) = refl
  tells_protect process page mode None =
      claim_if Tells (mode == EXECUTE_MODE) _ _ (λ is. tells_execute process page (heap_pattern state process page)) (λ is. refl)

  -- the line of each call
  pub tells_number : Tells (syscall_outcome state core next)
  unfolding syscall_outcome
  tells_number =
      claim_if Tells (rax next == 0) _ _ (λ is. tells_exit (number_is (rax next) 0 is))
      (λ is. claim_if Tells (rax next == 1) _ _ (λ is. number_is (rax next) 1 is)
      (λ is. claim_if Tells (rax next == 2) _ _ (λ is. tells_register _ _)
      (λ is. claim_if Tells (rax next == 3) _ _ (λ is. tells_bind _)
      (λ is. claim_if Tells (rax next == 4) _ _ (λ is. tells_protect (process_now (thread_at state core)) (rdi next) (rsi next)
      (protect_refusal (heap_count (process_at state (process_now (thread_at state core)))) (rdi next) (rsi next)))
      (λ is. refl)))))
