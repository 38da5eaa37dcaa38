-- The refusal of a change of a heap page's mode, with a second value.
use Rattle.std.specs.Prelude.{ℕ, ◌==◌, Bool, Option, Some, None, slice_get, if◌then◌else◌}
use Rattle.std.specs.Option.{option_map}
use Rattle.sb_abi.specs.declared.call.CallRefusal.{CallRefusal}
use Rattle.sb_abi.specs.declared.call.CallRefusal.TheVariants.{Pattern}
use Rattle.sb_abi.specs.Numbers.{refusal_number}
use Rattle.sb_memory.specs.Physical.{Physical}
use Rattle.sb_calls.specs.Refusals.{protect_refusal, register_refusal}
use Rattle.sb_calls.specs.declared.refusals.TheConstants.{EXECUTE_MODE}
use Rattle.sb_sub.specs.Heap.{pattern_at}
use Rattle.sb_trace.specs.State.{Process, registration_of}
use Rattle.sb_trace.specs.SyscallRegister.{is_registered, is_start}
use Rattle.sb_sub.specs.Kernel.{Entry, Kernel, process_of}

-- where the pattern stands it refuses, and the address is the second value
abbrev pub pattern_refusal : Option ℕ → Option (CallRefusal × ℕ)
pattern_refusal None = None
pattern_refusal (Some address) = Some (Pattern, address)

-- the refusal of page and mode, or else that of the pattern where the page is to be executable
abbrev pub with_pattern : Option CallRefusal → Bool → Option ℕ → Option (CallRefusal × ℕ)
with_pattern (Some refusal) executable pattern = Some (refusal, 0)
with_pattern None executable pattern = if executable then pattern_refusal pattern else None

-- protect, in a heap of so many pages
abbrev pub page_refusal : ℕ → ℕ → ℕ → Option ℕ → Option (CallRefusal × ℕ)
page_refusal count page mode pattern = with_pattern (protect_refusal count page mode) (mode == EXECUTE_MODE) pattern

-- protect, in the heap of a process, as its tables stand in a memory
abbrev pub heap_page_refusal : Physical → Entry → ℕ → ℕ → Option (CallRefusal × ℕ)
heap_page_refusal memory entry page mode =
    page_refusal entry.process.heap_pages page mode (pattern_at memory entry.set page entry.process.heap_pages)

-- the answer of a call and its second value, by its refusal
abbrev pub answer_by : Option (CallRefusal × ℕ) → ℕ × ℕ
answer_by None = (0, 0)
answer_by (Some refusal) = (refusal_number refusal.0, refusal.1)

-- what is kept of the process of a number, if it is there
abbrev pub process_in : Kernel → ℕ → Option Process
process_in kernel process = option_map process_of (slice_get kernel.processes process)

-- register in a view, of a process by its number, with a handler and so many stacks, where so many frames are free
abbrev pub server_refusal : Kernel → ℕ → ℕ → ℕ → ℕ → ℕ → Option CallRefusal
server_refusal kernel free view process handler stacks =
    register_refusal view (is_registered (registration_of (process_in kernel process)))
    (is_start (process_in kernel process) handler) stacks free

-- the answer of a call that has no second value, by its refusal
abbrev pub number_by : Option CallRefusal → ℕ
number_by None = 0
number_by (Some refusal) = refusal_number refusal
