-- The numbers of pages of one kind, of one process or thread.
use Rattle.std.proofs.Common.{◌≡◌, ℕ, Bool, true, false, List, ◌==◌, ◌&&◌, refl}
use Rattle.std.specs.Prelude.{Option, Some, None, if◌then◌else◌}
use Rattle.std.proofs.lemmas.Bool.Decides.{Decides-eqb}
use Rattle.sb_state.specs.declared.page.PageName.{PageName}
use Rattle.sb_state.specs.declared.page.PageName.TheVariants.{Text, Area, Data, Heap, ServerStack, Stack, Buffer}
use Rattle.sb_state.specs.PageName.{same_name}
use Rattle.sb_state.specs.State.{page_with}
use Rattle.sb_state.specs.Start.{padded_page, heap_page}
use Rattle.sb_state.specs.PageWords.{zeros}
use Rattle.sb_trace.specs.SyscallRegister.{server_stack_page}
use Rattle.sb_trace.specs.SyscallBind.{buffer_page}
use Rattle.sb_state.specs.declared.page.Page.{Page}
use Rattle.sb_trace.proofs.NamedPages.{is_at, AreNumbered}

-- ---- numbers, where the owner is the same

at_if : (test : Bool) (number page : ℕ) → (test && (number == page)) ≡ is_at number (if test then Some page else None)
at_if true number page = refl
at_if false number page = refl

at_both : (test other : Bool) (number page : ℕ)
    → (test && (other && (number == page))) ≡ is_at number (if test && other then Some page else None)
at_both true true number page = refl
at_both true false number page = refl
at_both false other number page = refl

own_number : (owner number : ℕ) → (if owner == owner then Some number else None) ≡ Some number
own_number owner number = let same : (owner == owner) ≡ true = (Decides-eqb owner owner).1 refl in rw same refl

-- ---- by kind

abbrev pub text_place : ℕ → PageName → Option ℕ
text_place process (Text other page) = if process == other then Some page else None
text_place process _ = None

abbrev pub area_place : ℕ → PageName → Option ℕ
area_place process (Area other page) = if process == other then Some page else None
area_place process _ = None

abbrev pub data_place : ℕ → PageName → Option ℕ
data_place process (Data other page) = if process == other then Some page else None
data_place process _ = None

abbrev pub heap_place : ℕ → PageName → Option ℕ
heap_place process (Heap other page) = if process == other then Some page else None
heap_place process _ = None

abbrev pub server_stack_place : ℕ → PageName → Option ℕ
server_stack_place process (ServerStack other page) = if process == other then Some page else None
server_stack_place process _ = None

abbrev pub stack_place : ℕ → PageName → Option ℕ
stack_place thread (Stack other page) = if thread == other then Some page else None
stack_place thread _ = None

abbrev pub buffer_place : ℕ → ℕ → PageName → Option ℕ
buffer_place thread index (Buffer other view page) = if (thread == other) && (index == view) then Some page else None
buffer_place thread index _ = None

text_at : (process number : ℕ) (name : PageName) → same_name (Text process number) name ≡ is_at number (text_place process name)
unfolding same_name
text_at process number (Text other page) = at_if (process == other) number page
text_at process number _ = refl

area_at : (process number : ℕ) (name : PageName) → same_name (Area process number) name ≡ is_at number (area_place process name)
unfolding same_name
area_at process number (Area other page) = at_if (process == other) number page
area_at process number _ = refl

data_at : (process number : ℕ) (name : PageName) → same_name (Data process number) name ≡ is_at number (data_place process name)
unfolding same_name
data_at process number (Data other page) = at_if (process == other) number page
data_at process number _ = refl

heap_at : (process number : ℕ) (name : PageName) → same_name (Heap process number) name ≡ is_at number (heap_place process name)
unfolding same_name
heap_at process number (Heap other page) = at_if (process == other) number page
heap_at process number _ = refl

server_stack_at : (process number : ℕ) (name : PageName)
    → same_name (ServerStack process number) name ≡ is_at number (server_stack_place process name)
unfolding same_name
server_stack_at process number (ServerStack other page) = at_if (process == other) number page
server_stack_at process number _ = refl

stack_at : (thread number : ℕ) (name : PageName) → same_name (Stack thread number) name ≡ is_at number (stack_place thread name)
unfolding same_name
stack_at thread number (Stack other page) = at_if (thread == other) number page
stack_at thread number _ = refl

buffer_at : (thread index number : ℕ) (name : PageName)
    → same_name (Buffer thread index number) name ≡ is_at number (buffer_place thread index name)
unfolding same_name
buffer_at thread index number (Buffer other view page) = at_both (thread == other) (index == view) number page
buffer_at thread index number _ = refl

-- ---- pages of each kind

pub texts_numbered : (process filler : ℕ) (bytes : List ℕ)
    → AreNumbered (padded_page (Text process) filler bytes) (text_place process)
texts_numbered process filler bytes = record { at = text_at process; own = own_number process }

pub areas_numbered : (process filler : ℕ) (bytes : List ℕ)
    → AreNumbered (padded_page (Area process) filler bytes) (area_place process)
areas_numbered process filler bytes = record { at = area_at process; own = own_number process }

pub data_numbered : (process filler : ℕ) (bytes : List ℕ)
    → AreNumbered (padded_page (Data process) filler bytes) (data_place process)
data_numbered process filler bytes = record { at = data_at process; own = own_number process }

pub heaps_numbered : (process : ℕ) → AreNumbered (heap_page process) (heap_place process)
heaps_numbered process = record { at = heap_at process; own = own_number process }

pub server_stacks_numbered : (process : ℕ) → AreNumbered (server_stack_page process) (server_stack_place process)
server_stacks_numbered process = record { at = server_stack_at process; own = own_number process }

-- a page of a thread's stack at the start
abbrev pub stack_page : ℕ → ℕ → Page
stack_page thread page = page_with (Stack thread page) zeros

pub stacks_numbered : (thread : ℕ) → AreNumbered (stack_page thread) (stack_place thread)
stacks_numbered thread = record { at = stack_at thread; own = own_number thread }

own_both : (thread index number : ℕ) → (if (thread == thread) && (index == index) then Some number else None) ≡ Some number
own_both thread index number =
    let first : (thread == thread) ≡ true = (Decides-eqb thread thread).1 refl in
    let second : (index == index) ≡ true = (Decides-eqb index index).1 refl in
    rw (first, second) refl

pub buffers_numbered : (thread index : ℕ) → AreNumbered (buffer_page thread index) (buffer_place thread index)
buffers_numbered thread index = record { at = buffer_at thread index; own = own_both thread index }
