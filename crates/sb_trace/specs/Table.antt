-- Which pages there are: those of the table of plain memory (docs/FORMATS.md, "The memory of a thread").
use Rattle.std.specs.Prelude.{◌≡◌, ℕ, ◌*◌, ◌≤◌, ◌==◌, ◌&&◌, not, nat_lt, Bool, true, List, [], ◌∷◌, length, Option, Some, None, is_some}
use Rattle.sb_abi.specs.declared.space.TheConstants.{STACK_PAGES, BUFFER_PAGES, WINDOW_PAGES, AREA_PAGES}
use Rattle.sb_state.specs.declared.page.PageName.{PageName}
use Rattle.sb_state.specs.declared.page.PageName.TheVariants.{Text, Area, Data, Heap, Pool, ServerStack, Save, Stack, Buffer, Record, Scratch, HomeTrampoline, ServerTrampoline}
use Rattle.sb_state.specs.declared.page.Page.{Page}
use Rattle.sb_state.specs.declared.state.Registration.{Registration}
use Rattle.sb_state.specs.State.{State, find_page, process_at, registration_at}
use Rattle.sb_state.specs.Windows.{process_shown}
use Rattle.sb_trace.specs.SyscallProtect.{heap_count}

-- ---- images

-- the numbers of pages of a process's text, rewrite area and initial data, which never change
pub record ImagePages : Type 0 where
  pub text : ℕ
  pub area : ℕ
  pub initial : ℕ

-- they are within their windows
pub record FitWindows (image : ImagePages) : Type 0 where
  pub text : image.text ≤ WINDOW_PAGES
  pub area : image.area ≤ AREA_PAGES
  pub initial : image.initial ≤ WINDOW_PAGES

-- ---- what owns a page

-- whether a process has this number
abbrev pub is_process_number : State → ℕ → Bool
is_process_number state process = nat_lt process (length state.processes)

-- whether a thread has this number
abbrev pub is_thread_number : State → ℕ → Bool
is_thread_number state thread = nat_lt thread (length state.threads)

-- whether the thread has this view: its home view, or that of a binding
abbrev pub has_view : State → ℕ → ℕ → Bool
has_view state thread view = is_some (process_shown state.threads thread view)

-- the number of stacks of a process as a server
abbrev pub stacks_in : Option Registration → ℕ
stacks_in None = 0
stacks_in (Some registration) = registration.stacks

-- ---- the table

-- whether a page of this name is there, of processes with these images
unfoldable pub is_in_table : (ℕ → ImagePages) → State → PageName → Bool
is_in_table images state (Text process page) = is_process_number state process && nat_lt page (images process).text
is_in_table images state (Area process page) = is_process_number state process && nat_lt page (images process).area
is_in_table images state (Data process page) = is_process_number state process && nat_lt page (images process).initial
is_in_table images state (Heap process page) = nat_lt page (heap_count (process_at state process))
is_in_table images state (Pool process) = is_process_number state process
is_in_table images state (ServerStack process page) = nat_lt page (STACK_PAGES * stacks_in (registration_at state process))
is_in_table images state (Save thread) = is_thread_number state thread
is_in_table images state (Stack thread page) = is_thread_number state thread && nat_lt page STACK_PAGES
is_in_table images state (Buffer thread view page) = not (view == 0) && (has_view state thread view && nat_lt page BUFFER_PAGES)
is_in_table images state (Record thread view) = has_view state thread view
is_in_table images state (Scratch thread view) = has_view state thread view
is_in_table images state HomeTrampoline = true
is_in_table images state ServerTrampoline = true

-- ---- the pages

-- whether a page of this name is there
abbrev pub is_there : List Page → PageName → Bool
is_there pages name = is_some (find_page pages name)

-- a page of this name is there
abbrev pub IsThere : List Page → PageName → Type 0
IsThere pages name = (page : Page) × (find_page pages name ≡ Some page)

-- no two pages have one name
abbrev pub HaveOwnNames : List Page → Type 0
HaveOwnNames [] = Unit {0}
HaveOwnNames (page ∷ pages) = (find_page pages page.name ≡ None) × HaveOwnNames pages

-- The pages are those of the table, each once, for images that fit their windows.
pub record ArePagesOfTable (state : State) : Type 0 where
  pub images : ℕ → ImagePages
  pub windows : (process : ℕ) → FitWindows (images process)
  pub once : HaveOwnNames state.pages
  pub exactly : (name : PageName) → is_there state.pages name ≡ is_in_table images state name
