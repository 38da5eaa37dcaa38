-- A call or a return through VMFUNC as one step of a kernel (docs/FORMATS.md, "A call in one step").
use Rattle.std.specs.Prelude.{ℕ, ◌-◌, ◌^◌, ◌==◌, Option, Some, None, if◌then◌else◌}
use Rattle.std.specs.Int.{w64, trailing_zeros}
use Rattle.sb_insn.specs.declared.registers.Regs.{Regs}
use Rattle.sb_abi.specs.declared.call.CallStatus.TheVariants as status
use Rattle.sb_abi.specs.Numbers.{status_number}
use Rattle.sb_bus.specs.declared.stop.FaultKind.TheVariants as kind
use Rattle.sb_trace.specs.declared.event.Event.{Event}
use Rattle.sb_trace.specs.declared.event.Event.TheVariants.{Entered, WrongKey, PoolEmpty, Unbound, BadLeaf, Return, Turn}
use Rattle.sb_state.specs.declared.page.PageName.TheVariants.{Pool}
use Rattle.sb_state.specs.declared.state.Binding.{Binding}
use Rattle.sb_state.specs.declared.state.Registration.{Registration}
use Rattle.sb_state.specs.declared.state.Thread.{Thread}
use Rattle.sb_state.specs.State.{State, thread_at, with_view, registration_at}
use Rattle.sb_state.specs.PageWords.{word_in, with_word}
pub use Rattle.sb_state.specs.Bindings.{binding_with}
use Rattle.sb_state.specs.Registers.{eax, ecx, rsi}
unfoldable pub use Rattle.sb_state.specs.Registers.{entry_regs, refusal_regs}
use Rattle.sb_trace.specs.Home.{Outcome, home_address, fault_outcome}

-- ---- what a call looks at

-- the pool word of a process: a bit is set for each server stack that is free
abbrev pub pool_word : State → ℕ → ℕ
pool_word state process = word_in state (Pool process) 0

abbrev pub handler_in : Option Registration → ℕ
handler_in None = 0
handler_in (Some registration) = registration.handler

-- ---- refusals and ways home

-- a refused call, with its line: the thread is in its home view
abbrev pub refusal_outcome : State → ℕ → Thread → Event → ℕ → Outcome
refusal_outcome state core thread line status = (line, with_view state core 0 (refusal_regs thread.regs status))

-- no view is switched: in a server's view that is a fault at the VMFUNC
abbrev pub refusal_or_fault : State → ℕ → Thread → Event → ℕ → Outcome
refusal_or_fault state core thread line status =
    if thread.view == 0 then refusal_outcome state core thread line status else fault_outcome state core kind.Switch
    thread.regs.rip

-- index 0 leads home
abbrev pub return_outcome : State → ℕ → Thread → Outcome
return_outcome state core thread =
    (if thread.view == 0 then Turn else Return, with_view state core 0 (record thread.regs { rip = home_address }))

-- ---- entry

-- the lowest bit of a word that is set
abbrev pub lowest_bit : ℕ → ℕ
lowest_bit word = trailing_zeros w64 word

-- the server's lowest free stack is taken, and the thread stands at the handler in the view of the binding
abbrev pub state_at_handler : State → ℕ → Thread → Binding → ℕ → State
state_at_handler state core thread binding word =
    with_view (with_word state (Pool binding.server) 0 (word - 2 ^ lowest_bit word)) core binding.index
    (entry_regs thread.regs (lowest_bit word) (handler_in (registration_at state binding.server)))

-- with the pool word of the server
abbrev pub entry_outcome : State → ℕ → Thread → Binding → ℕ → Outcome
entry_outcome state core thread binding word =
    if word == 0 then refusal_outcome state core thread (PoolEmpty binding.index) (status_number status.PoolEmpty)
    else (Entered binding.index (lowest_bit word), state_at_handler state core thread binding word)

-- ---- the call

-- through the binding of this index, if there is one
abbrev pub call_outcome : State → ℕ → Thread → ℕ → Option Binding → Outcome
call_outcome state core thread index None = refusal_or_fault state core thread (Unbound index) (status_number status.Unbound)
call_outcome state core thread index (Some binding) =
    if rsi thread.regs == binding.key then entry_outcome state core thread binding (pool_word state binding.server)
    else refusal_outcome state core thread (WrongKey binding.index) (status_number status.WrongKey)

abbrev pub outcome_by_index : State → ℕ → Thread → ℕ → ℕ → Outcome
outcome_by_index state core thread leaf index =
    if leaf == 0
    then if index == 0 then return_outcome state core thread
    else call_outcome state core thread index (binding_with thread.bindings index)
    else refusal_or_fault state core thread (BadLeaf index) (status_number status.BadLeaf)

-- VMFUNC of the thread of this core, with the leaf in EAX, the index in ECX and the key in RSI
unfoldable pub kernel_call : State → ℕ → Outcome
kernel_call state core =
    outcome_by_index state core (thread_at state core) (eax (thread_at state core).regs) (ecx (thread_at state core).regs)
