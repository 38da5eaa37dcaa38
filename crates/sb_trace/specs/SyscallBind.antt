-- System call 3, bind: a thread gets a view of a server.
use Rattle.std.specs.Prelude.{ℕ, ◌-◌, List, [], ◌∷◌, ◌++◌, length, drop, Option, Some, None, slice_index}
use Rattle.sb_insn.specs.declared.registers.Regs.{Regs}
use Rattle.sb_abi.specs.declared.call.CallRefusal.{CallRefusal}
use Rattle.sb_abi.specs.declared.frames.TheConstants.{BIND_FRAMES}
use Rattle.sb_abi.specs.declared.space.TheConstants.{BUFFER_PAGES}
use Rattle.sb_calls.specs.Refusals.{bind_refusal}
use Rattle.sb_calls.specs.SyscallRegisters.{regs_after_bind}
use Rattle.sb_calls.specs.Views.{server_record}
use Rattle.sb_tramp.specs.declared.record_words.RecordWords.{RecordWords}
use Rattle.sb_trace.specs.declared.event.Event.TheVariants.{Sys}
use Rattle.sb_state.specs.declared.page.Page.{Page}
use Rattle.sb_state.specs.declared.page.PageName.TheVariants.{Buffer, Record, Scratch}
use Rattle.sb_state.specs.declared.state.Binding.{Binding}
use Rattle.sb_state.specs.declared.state.Thread.{Thread}
use Rattle.sb_state.specs.State.{State, with_thread, with_regs, registration_at, page_with}
use Rattle.sb_state.specs.PageWords.{zeros}
use Rattle.sb_state.specs.Bindings.{free_index}
use Rattle.sb_state.specs.Registers.{rax, rdi}
use Rattle.sb_trace.specs.Home.{Outcome}
use Rattle.sb_trace.specs.KernelCall.{handler_in}
use Rattle.sb_trace.specs.Start.{pages_from, record_bytes}
use Rattle.sb_trace.specs.SyscallAnswer.{syscall_refusal}
use Rattle.sb_trace.specs.SyscallRegister.{is_registered}

-- why a thread does not get a view of a process
abbrev pub refusal_of_bind : State → Thread → ℕ → Option CallRefusal
refusal_of_bind state thread server =
    bind_refusal thread.view thread.home server (is_registered (registration_at state server)) (length thread.bindings)
    (length state.keys) state.free

-- ---- the binding

-- the key word that is drawn next
abbrev pub first_key : List ℕ → ℕ
first_key keys = slice_index keys 0

-- the binding that is made: its index is the lowest that is free
abbrev pub new_binding : State → Thread → ℕ → Binding
new_binding state thread server = record { index = free_index thread.bindings; server = server; key = first_key state.keys }

-- ---- its pages

-- what the record page of a server's view says
abbrev pub server_words : ℕ → Thread → Binding → ℕ → RecordWords
server_words number thread binding handler = server_record number thread.home binding.key handler

-- a page of a binding's buffer
abbrev pub buffer_page : ℕ → ℕ → ℕ → Page
buffer_page thread index page = page_with (Buffer thread index page) zeros

-- the pages of a binding's view, and its buffer
unfoldable pub binding_pages : ℕ → ℕ → RecordWords → List Page
binding_pages thread index words =
    page_with (Record thread index) (record_bytes words) ∷ page_with (Scratch thread index) zeros
    ∷ pages_from (buffer_page thread index) 0 BUFFER_PAGES

-- the view is there, its key is drawn, and its frames are taken
unfoldable pub with_binding : State → ℕ → Thread → Binding → State
with_binding state core thread binding =
    record (with_thread state core (record thread { bindings = thread.bindings ++ binding ∷ [] })) {
      pages = state.pages
          ++ binding_pages core binding.index
          (server_words core thread binding (handler_in (registration_at state binding.server)));
      free = state.free - BIND_FRAMES;
      keys = drop 1 state.keys;
    }

-- ---- the call

-- the thread has this binding, and its registers tell it
abbrev pub binding_outcome : State → ℕ → Thread → Regs → Binding → Outcome
binding_outcome state core thread next binding = (
  Sys (rax next) 0,
  with_regs (with_binding state core thread binding) core (regs_after_bind next core binding.index binding.key),
)

-- bind of a thread by its refusal: the server is in RDI
abbrev pub bind_outcome : State → ℕ → Thread → Regs → Option CallRefusal → Outcome
bind_outcome state core thread next (Some refusal) = syscall_refusal state core next refusal 0
bind_outcome state core thread next None = binding_outcome state core thread next (new_binding state thread (rdi next))

-- bind of a thread: it gets a view of the server, or it is refused
abbrev pub bind_of_thread : State → ℕ → Thread → Regs → Outcome
bind_of_thread state core thread next = bind_outcome state core thread next (refusal_of_bind state thread (rdi next))
