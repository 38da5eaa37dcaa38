-- How a system call ends: the thread goes on after SYSCALL, with an answer (docs/FORMATS.md, "System calls").
use Rattle.std.specs.Prelude.{ℕ}
use Rattle.sb_insn.specs.declared.registers.Regs.{Regs}
use Rattle.sb_abi.specs.declared.call.CallRefusal.{CallRefusal}
use Rattle.sb_abi.specs.Numbers.{refusal_number}
use Rattle.sb_calls.specs.SyscallRegisters.{regs_with_answer}
use Rattle.sb_trace.specs.declared.event.Event.TheVariants.{Sys}
use Rattle.sb_state.specs.State.{State, with_regs}
use Rattle.sb_state.specs.Registers.{rax}
use Rattle.sb_trace.specs.Home.{Outcome}

-- the thread of this core goes on with the registers after SYSCALL, an answer and a second value
abbrev pub state_after_call : State → ℕ → Regs → ℕ → ℕ → State
state_after_call state core next answer second = with_regs state core (regs_with_answer next answer second)

-- a refusal, and a second value with it: the state is as it was but for the registers of the thread
abbrev pub syscall_refusal : State → ℕ → Regs → CallRefusal → ℕ → Outcome
syscall_refusal state core next refusal second =
    (Sys (rax next) (refusal_number refusal), state_after_call state core next (refusal_number refusal) second)

-- a call that did what it does, and left this state
abbrev pub syscall_acceptance : State → ℕ → Regs → Outcome
syscall_acceptance state core next = (Sys (rax next) 0, state_after_call state core next 0 0)
