-- System call 2, register: the process becomes a server.
use Rattle.std.specs.Prelude.{ℕ, ◌-◌, ◌*◌, ◌%◌, ◌^◌, ◌==◌, Bool, true, false, List, ◌++◌, Option, Some, None, if◌then◌else◌, slice_set}
use Rattle.sb_insn.specs.declared.registers.Regs.{Regs}
use Rattle.sb_abi.specs.declared.call.CallRefusal.{CallRefusal}
use Rattle.sb_abi.specs.declared.space.TheConstants.{STACK_PAGES, TOP_WORD}
use Rattle.sb_abi.specs.declared.trampoline.TheConstants.{EXIT_STUB}
use Rattle.sb_calls.specs.Refusals.{register_refusal}
use Rattle.sb_memory.specs.Words.{put_word}
use Rattle.sb_state.specs.declared.page.Page.{Page}
use Rattle.sb_state.specs.declared.page.PageName.TheVariants.{Pool, ServerStack}
use Rattle.sb_state.specs.declared.state.Registration.{Registration}
use Rattle.sb_state.specs.declared.state.Thread.{Thread}
use Rattle.sb_state.specs.State.{State, Process, is_listed, page_with, process_at, registration_at}
use Rattle.sb_state.specs.PageWords.{zeros, with_word}
use Rattle.sb_state.specs.Registers.{rsi, rdi}
use Rattle.sb_state.specs.Windows.{process_now}
use Rattle.sb_trace.specs.Home.{Outcome}
use Rattle.sb_trace.specs.Start.{pages_from}
use Rattle.sb_trace.specs.SyscallAnswer.{syscall_refusal, syscall_acceptance}

-- ---- refusals

-- whether an instruction of the process's text starts at an address
abbrev pub is_start : Option Process → ℕ → Bool
is_start None address = false
is_start (Some process) address = is_listed process.map.starts address

-- whether a process is a server, by what it told
abbrev pub is_registered : Option Registration → Bool
is_registered None = false
is_registered (Some registration) = true

-- why the process that a view shows does not become a server with this handler and so many stacks
abbrev pub refusal_of_register : State → ℕ → ℕ → ℕ → ℕ → Option CallRefusal
refusal_of_register state view process handler stacks =
    register_refusal view (is_registered (registration_at state process)) (is_start (process_at state process) handler) stacks
    state.free

-- ---- the server

-- the bytes of a page of a server stack: the last page of a stack has the address of the exit stub in its top word
unfoldable pub stack_bytes : ℕ → List ℕ
stack_bytes page = if page % STACK_PAGES == STACK_PAGES - 1 then put_word zeros TOP_WORD EXIT_STUB else zeros

-- a page of a server stack
abbrev pub server_stack_page : ℕ → ℕ → Page
server_stack_page process page = page_with (ServerStack process page) (stack_bytes page)

-- the processes with what the one of this number, which is there, told
abbrev pub with_registration : Option Process → List Process → ℕ → Registration → List Process
with_registration None processes number registration = processes
with_registration (Some process) processes number registration =
    slice_set processes number (record process { registration = Some registration })

-- the pages of the stacks are there, all of them are free, and their frames are taken
unfoldable pub with_server : State → ℕ → ℕ → ℕ → State
with_server state process handler stacks = record (with_word state (Pool process) 0 (2 ^ stacks - 1)) {
  pages = (with_word state (Pool process) 0 (2 ^ stacks - 1)).pages
      ++ pages_from (server_stack_page process) 0 (STACK_PAGES * stacks);
  processes = with_registration (process_at state process) state.processes process
      (record { handler = handler; stacks = stacks });
  free = state.free - STACK_PAGES * stacks;
}

-- register by its refusal: the handler is in RDI, the number of stacks in RSI
abbrev pub register_outcome : State → ℕ → Regs → ℕ → Option CallRefusal → Outcome
register_outcome state core next process (Some refusal) = syscall_refusal state core next refusal 0
register_outcome state core next process None = syscall_acceptance (with_server state process (rdi next) (rsi next)) core next

-- register of a thread: the process that its view shows becomes a server, or it is refused
abbrev pub register_of_thread : State → ℕ → Thread → Regs → Outcome
register_of_thread state core thread next =
    register_outcome state core next (process_now thread)
    (refusal_of_register state thread.view (process_now thread) (rdi next) (rsi next))
