-- How a thread comes home, and what a fault does.
use Rattle.std.specs.Prelude.{ℕ, ◌==◌, if◌then◌else◌}
use Rattle.sb_bus.specs.declared.stop.FaultKind.{FaultKind}
use Rattle.sb_abi.specs.declared.trampoline.TheConstants.{RETURN_ADDRESS}
pub use Rattle.sb_calls.specs.SyscallRegisters.{server_fault_regs}
use Rattle.sb_trace.specs.declared.event.Event.{Event}
use Rattle.sb_trace.specs.declared.event.Event.TheVariants.{Fault, ServerFault}
use Rattle.sb_state.specs.declared.end_kind.EndKind.TheVariants.{Faulted}
use Rattle.sb_state.specs.State.{State, thread_at, with_view, with_end}

-- what a step does: its line, and the state after it
abbrev pub Outcome : Type 0
Outcome = Event × State

-- the address behind the VMFUNC of the home page, where a thread goes on that came home
abbrev pub home_address : ℕ
home_address = RETURN_ADDRESS

-- the thread of this core is sent home; the stack that it has of a server stays taken
abbrev pub state_at_home : State → ℕ → State
state_at_home state core = with_view state core 0 server_fault_regs

-- A fault at home ends the thread with its registers as before the step; in a server's view it sends the thread home.
abbrev pub fault_outcome : State → ℕ → FaultKind → ℕ → Outcome
fault_outcome state core kind address =
    if (thread_at state core).view == 0 then (Fault kind address, with_end state core (Faulted kind address))
    else (ServerFault kind address, state_at_home state core)
