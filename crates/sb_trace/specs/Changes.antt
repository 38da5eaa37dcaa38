-- What a step may change, by its line.
use Rattle.std.specs.Prelude.{◌≡◌, ◌≢◌, ◌⊎◌, ℕ, ◌-◌, ◌*◌, ◌^◌, ◌<◌, ◌≤◌, Bool, true, List, [], ◌∷◌, ◌++◌, length, map, None, Some, slice_get, slice_set}
use Rattle.sb_abi.specs.declared.frames.TheConstants.{BIND_FRAMES}
use Rattle.sb_abi.specs.declared.space.TheConstants.{STACK_PAGES, MAX_STACKS}
use Rattle.std.specs.Option.{option_map}
use Rattle.std.specs.List.{AllByRecursion}
use Rattle.sb_abi.specs.Numbers.{call_number}
use Rattle.sb_abi.specs.declared.call.Call.TheVariants.{Register, Bind, Protect}
use Rattle.sb_memory.specs.declared.address.Access.TheVariants.{Write}
use Rattle.sb_memory.specs.Words.{put_word}
use Rattle.sb_trace.specs.declared.event.Event.{Event}
use Rattle.sb_trace.specs.declared.event.Event.TheVariants.{
  Step as StepLine,
  Extra,
  Stray,
  Printed,
  Sys,
  Exit,
  Fault,
  ServerFault,
  ServerExit,
  Entered,
  WrongKey,
  PoolEmpty,
  Unbound,
  BadLeaf,
  Return,
  Turn,
  Landing,
  Idle,
}
use Rattle.sb_state.specs.declared.page.PageName.{PageName}
use Rattle.sb_state.specs.declared.page.PageName.TheVariants.{Heap, Pool}
use Rattle.sb_state.specs.declared.page.Page.{Page}
use Rattle.sb_state.specs.declared.page.SeenPage.{SeenPage}
use Rattle.sb_state.specs.PageName.{permits}
use Rattle.sb_state.specs.declared.state.Binding.{Binding}
use Rattle.sb_state.specs.declared.state.Registration.{Registration}
use Rattle.sb_state.specs.State.{State, Process, is_listed, find_page, contents, with_page_bytes, thread_at, process_at, registration_at, with_mode}
use Rattle.sb_state.specs.Bindings.{IsFreeIndex}
use Rattle.sb_state.specs.Windows.{page_for, process_now, server_of}
use Rattle.sb_trace.specs.Start.{pages_from}
use Rattle.sb_state.specs.Pattern.{heap_pattern}
use Rattle.sb_trace.specs.KernelCall.{pool_word, lowest_bit}
use Rattle.sb_trace.specs.SyscallRegister.{server_stack_page}
use Rattle.sb_trace.specs.SyscallBind.{binding_pages, server_words}
use Rattle.sb_trace.specs.SyscallProtect.{heap_count}

-- ---- threads

-- Only this thread's registers, view, bindings, state and flight may change: the other threads stay, and its home stays.
pub record OnlyThread (old : State) (core : ℕ) (new : State) : Type 0 where
  pub count : length new.threads ≡ length old.threads
  pub places : length new.flights ≡ length old.flights
  pub threads : (other : ℕ) → other ≢ core → slice_get new.threads other ≡ slice_get old.threads other
  pub flights : (other : ℕ) → other ≢ core → slice_get new.flights other ≡ slice_get old.flights other
  pub home : (thread_at new core).home ≡ (thread_at old core).home

-- ---- all but threads

-- no thread's bindings change
abbrev pub BindingsStay : State → State → Type 0
BindingsStay old new = (number : ℕ) → (thread_at new number).bindings ≡ (thread_at old number).bindings

-- the pages become these, and processes, bindings, free frames and key words stay
pub record OnlyPages (old : State) (pages : List Page) (new : State) : Type 0 where
  pub become : new.pages ≡ pages
  pub bindings : BindingsStay old new
  pub processes : new.processes ≡ old.processes
  pub free : new.free ≡ old.free
  pub keys : new.keys ≡ old.keys

-- no page changes
abbrev pub OnlyThreads : State → State → Type 0
OnlyThreads old new = OnlyPages old old.pages new

-- ---- an instruction

-- no page that the thread may write in the view has this name
abbrev pub IsClosed : State → ℕ → ℕ → PageName → Type 0
IsClosed state thread view name =
    (page : ℕ) (seen : SeenPage) → page_for state thread view page ≡ Some seen → permits seen.mode Write ≡ true → seen.name ≢ name

-- a page but for its bytes, of which it says how many
pub record Shape : Type 0 where
  pub executable : Bool
  pub size : ℕ

abbrev pub shape_of : Page → Shape
shape_of page = record { executable = page.executable; size = length page.bytes }

abbrev pub page_name : Page → PageName
page_name page = page.name

abbrev pub AreBytes : List ℕ → Type 0
AreBytes bytes = AllByRecursion (λ byte. byte < 256) bytes

-- Only bytes of pages change that the thread may write in the view, and bytes they stay. No page comes or goes, and each keeps
-- its mode.
pub record WritesOpen (old : State) (thread view : ℕ) (new : State) : Type 0 where
  pub closed : (name : PageName) → IsClosed old thread view name → find_page new.pages name ≡ find_page old.pages name
  pub shapes : (name : PageName) → option_map shape_of (find_page new.pages name) ≡ option_map shape_of (find_page old.pages name)
  pub names : map page_name new.pages ≡ map page_name old.pages
  pub bytes : (name : PageName) → AreBytes (contents old name) → AreBytes (contents new name)
  pub bindings : BindingsStay old new
  pub processes : new.processes ≡ old.processes
  pub free : new.free ≡ old.free
  pub keys : new.keys ≡ old.keys

-- ---- the kernel

-- the pages with a word put first into this page
abbrev pub with_first_word : State → PageName → ℕ → List Page
with_first_word state name word = with_page_bytes state.pages name (put_word (contents state name) 0 word)

-- The lowest server stack that was free is taken from the pool word, and the thread is in the view of the binding.
pub record EntersServer (old : State) (core index slot : ℕ) (new : State) : Type 0 where
  pub server : ℕ
  pub bound : server_of (thread_at old core).bindings index ≡ Some server
  pub some : pool_word old server ≢ 0
  pub lowest : slot ≡ lowest_bit (pool_word old server)
  pub view : (thread_at new core).view ≡ index
  pub only : OnlyPages old (with_first_word old (Pool server) (pool_word old server - 2 ^ slot)) new

-- A process that was no server becomes one: the pages of its stacks are added, and its pool word says that all are free.
pub record AddsStacks (old : State) (process : ℕ) (new : State) : Type 0 where
  pub found : Process
  pub there : process_at old process ≡ Some found
  pub none : found.registration ≡ None
  pub handler : ℕ
  pub listed : is_listed found.map.starts handler ≡ true
  pub stacks : ℕ
  pub some : 1 ≤ stacks
  pub few : stacks ≤ MAX_STACKS
  pub room : STACK_PAGES * stacks ≤ old.free
  pub pages : new.pages
      ≡ with_first_word old (Pool process) (2 ^ stacks - 1) ++ pages_from (server_stack_page process) 0 (STACK_PAGES * stacks)
  pub processes : new.processes
      ≡ slice_set old.processes process (record found { registration = Some (record { handler = handler; stacks = stacks }) })
  pub bindings : BindingsStay old new
  pub free : new.free ≡ old.free - STACK_PAGES * stacks
  pub keys : new.keys ≡ old.keys

-- The thread gets a binding of the lowest free index, with the next key word, to a server that is not its home: the six pages of
-- its view are added, which are its record and scratch page, and four buffer pages.
pub record AddsView (old : State) (core : ℕ) (new : State) : Type 0 where
  pub there : slice_get old.threads core ≡ Some (thread_at old core)
  pub binding : Binding
  pub index : IsFreeIndex (thread_at old core).bindings binding.index
  pub away : binding.server ≢ (thread_at old core).home
  pub registration : Registration
  pub registered : registration_at old binding.server ≡ Some registration
  pub key : old.keys ≡ binding.key ∷ new.keys
  pub bindings : (thread_at new core).bindings ≡ (thread_at old core).bindings ++ binding ∷ []
  pub room : BIND_FRAMES ≤ old.free
  pub pages : new.pages
      ≡ old.pages
      ++ binding_pages core binding.index (server_words core (thread_at old core) binding registration.handler)
  pub processes : new.processes ≡ old.processes
  pub free : new.free ≡ old.free - BIND_FRAMES

-- the mode of one heap page changes; to executable only where that lets VMFUNC's bytes be fetched nowhere
pub record ChangesMode (old : State) (process : ℕ) (new : State) : Type 0 where
  pub page : ℕ
  pub there : page < heap_count (process_at old process)
  pub executable : Bool
  pub harmless : executable ≡ true → heap_pattern old process page ≡ None
  pub only : OnlyPages old (with_mode old.pages (Heap process page) executable) new

-- A system call that is refused changes no page; of those that are answered 0, three do. Register and bind are answered so at
-- home alone.
abbrev pub CallChanges : State → ℕ → ℕ → ℕ → State → Type 0
CallChanges old core number answer new =
    ((answer ≢ 0) × OnlyThreads old new)
    ⊎ ((answer ≡ 0) × (number ≡ call_number Register) × ((thread_at old core).view ≡ 0)
    × AddsStacks old (thread_at old core).home new)
    ⊎ ((answer ≡ 0) × (number ≡ call_number Bind) × ((thread_at old core).view ≡ 0) × AddsView old core new)
    ⊎ ((answer ≡ 0) × (number ≡ call_number Protect) × ChangesMode old (process_now (thread_at old core)) new)

-- ---- a step

-- By its line: an instruction, an entry, a system call. A landing line changes a flight alone, and an idle step nothing; all
-- else, as faults, prints, exits, refused calls and returns, changes no page.
abbrev pub LineChanges : State → ℕ → Event → State → Type 0
LineChanges old core (StepLine rip) new = WritesOpen old core (thread_at old core).view new
LineChanges old core (Extra rip) new = WritesOpen old core (thread_at old core).view new
LineChanges old core (Stray rip) new = WritesOpen old core (thread_at old core).view new
LineChanges old core (Entered index slot) new = EntersServer old core index slot new
LineChanges old core (Sys number answer) new = CallChanges old core number answer new
LineChanges old core (Landing phase) new = OnlyThreads old new × (new.threads ≡ old.threads)
LineChanges old core Idle new = new ≡ old
LineChanges old core (Printed value) new = OnlyThreads old new
LineChanges old core (Exit status) new = OnlyThreads old new
LineChanges old core (Fault kind at) new = OnlyThreads old new
LineChanges old core (ServerFault kind at) new = OnlyThreads old new
LineChanges old core (ServerExit status) new = OnlyThreads old new
LineChanges old core (WrongKey index) new = OnlyThreads old new
LineChanges old core (PoolEmpty index) new = OnlyThreads old new
LineChanges old core (Unbound index) new = OnlyThreads old new
LineChanges old core (BadLeaf index) new = OnlyThreads old new
LineChanges old core Return new = OnlyThreads old new
LineChanges old core Turn new = OnlyThreads old new

pub record StepChanges (old : State) (core : ℕ) (event : Event) (new : State) : Type 0 where
  pub thread : OnlyThread old core new
  pub rest : LineChanges old core event new
