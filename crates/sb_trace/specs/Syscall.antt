-- The system calls (docs/FORMATS.md, "System calls"): exit, print, and those that a server and its clients make.
use Rattle.std.specs.Prelude.{ℕ, ◌==◌, if◌then◌else◌}
use Rattle.sb_abi.specs.Numbers.{call_number}
use Rattle.sb_abi.specs.declared.call.Call.TheVariants as system_call
use Rattle.sb_insn.specs.declared.registers.Regs.{Regs}
use Rattle.sb_abi.specs.declared.call.CallRefusal.TheVariants.{NoCall}
use Rattle.sb_trace.specs.declared.event.Event.TheVariants.{Printed, Exit, ServerExit}
use Rattle.sb_state.specs.declared.end_kind.EndKind.TheVariants.{Ended}
use Rattle.sb_state.specs.declared.state.Thread.{Thread}
use Rattle.sb_state.specs.State.{State, thread_at, with_regs, with_end}
use Rattle.sb_state.specs.Registers.{rax, rdi}
use Rattle.sb_trace.specs.Home.{Outcome, state_at_home}
use Rattle.sb_trace.specs.SyscallAnswer.{state_after_call, syscall_refusal}
use Rattle.sb_trace.specs.SyscallRegister.{register_of_thread}
use Rattle.sb_trace.specs.SyscallBind.{bind_of_thread}
use Rattle.sb_trace.specs.SyscallProtect.{protect_of_thread}

-- exit: at home the thread ends with the status in RDI, and RAX and RDX stay; in a server's view it is sent home
abbrev pub exit_outcome : State → ℕ → Regs → Outcome
exit_outcome state core next =
    if (thread_at state core).view == 0 then (Exit (rdi next), with_end (with_regs state core next) core (Ended (rdi next)))
    else (ServerExit (rdi next), state_at_home state core)

-- by the number of the call, which acts on the process that the thread's view shows
abbrev pub outcome_by_number : State → ℕ → Thread → Regs → ℕ → Outcome
outcome_by_number state core thread next call =
    if call == call_number system_call.Exit then exit_outcome state core next
    else if call == call_number system_call.Print then (Printed (rdi next), state_after_call state core next 0 0)
    else if call == call_number system_call.Register then register_of_thread state core thread next
    else if call == call_number system_call.Bind then bind_of_thread state core thread next
    else if call == call_number system_call.Protect then protect_of_thread state core thread next
    else syscall_refusal state core next NoCall 0

-- SYSCALL of the thread of this core, by the registers after it: the number is in RAX, arguments are in RDI and RSI
unfoldable pub syscall_outcome : State → ℕ → Regs → Outcome
syscall_outcome state core next = outcome_by_number state core (thread_at state core) next (rax next)
