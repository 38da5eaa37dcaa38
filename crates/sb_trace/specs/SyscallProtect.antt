-- System call 4, protect: a heap page is written, or executed.
use Rattle.std.specs.Prelude.{ℕ, ◌==◌, Bool, true, false, Option, Some, None, if◌then◌else◌}
use Rattle.sb_insn.specs.declared.registers.Regs.{Regs}
use Rattle.sb_abi.specs.declared.call.CallRefusal.{CallRefusal}
use Rattle.sb_abi.specs.declared.call.CallRefusal.TheVariants.{Pattern}
use Rattle.sb_calls.specs.Refusals.{protect_refusal}
use Rattle.sb_calls.specs.declared.refusals.TheConstants.{EXECUTE_MODE}
use Rattle.sb_state.specs.declared.page.PageName.TheVariants.{Heap}
use Rattle.sb_state.specs.declared.state.Thread.{Thread}
use Rattle.sb_state.specs.State.{State, Process, with_mode, process_at}
use Rattle.sb_state.specs.Registers.{rsi, rdi}
use Rattle.sb_state.specs.Windows.{process_now}
use Rattle.sb_state.specs.Pattern.{heap_pattern}
use Rattle.sb_trace.specs.Home.{Outcome}
use Rattle.sb_trace.specs.SyscallAnswer.{syscall_refusal, syscall_acceptance}

-- the pages of a process's heap
abbrev pub heap_count : Option Process → ℕ
heap_count None = 0
heap_count (Some process) = process.heap_pages

-- the state with a heap page executable, or not
unfoldable pub with_heap_mode : State → ℕ → ℕ → Bool → State
with_heap_mode state process page executable = record state { pages = with_mode state.pages (Heap process page) executable }

-- executable only where the pattern stands neither in the page nor across its borders with executable ones
abbrev pub execute_mode_outcome : State → ℕ → Regs → ℕ → ℕ → Option ℕ → Outcome
execute_mode_outcome state core next process page (Some address) = syscall_refusal state core next Pattern address
execute_mode_outcome state core next process page None = syscall_acceptance (with_heap_mode state process page true) core next

-- protect by the refusal of page and mode: the mode is 1, or else 0
abbrev pub protect_outcome_by : State → ℕ → Regs → ℕ → ℕ → ℕ → Option CallRefusal → Outcome
protect_outcome_by state core next process page mode (Some refusal) = syscall_refusal state core next refusal 0
protect_outcome_by state core next process page mode None =
    if mode == EXECUTE_MODE then execute_mode_outcome state core next process page (heap_pattern state process page)
    else syscall_acceptance (with_heap_mode state process page false) core next

-- protect: this page of the process gets this mode, or it is refused
abbrev pub protect_outcome : State → ℕ → Regs → ℕ → ℕ → ℕ → Outcome
protect_outcome state core next process page mode =
    protect_outcome_by state core next process page mode (protect_refusal (heap_count (process_at state process)) page mode)

-- protect of a thread, in the process that its view shows: the page is in RDI, the mode in RSI
abbrev pub protect_of_thread : State → ℕ → Thread → Regs → Outcome
protect_of_thread state core thread next = protect_outcome state core next (process_now thread) (rdi next) (rsi next)
