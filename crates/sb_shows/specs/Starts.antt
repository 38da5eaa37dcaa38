-- What a start leaves, step by step: memory before there are processes and threads, the tables of a process, and the pages of a
-- thread.
use Rattle.std.specs.Prelude.{ℕ, zero, suc, ◌≡◌, ◌+◌, ◌*◌, ◌<◌, ◌≤◌, ◌==◌, List, [], ◌∷◌, ◌++◌, None, length, if◌then◌else◌}
use Rattle.sb_abi.specs.declared.frames.TheConstants.{KEPT_FRAMES}
use Rattle.sb_abi.specs.declared.layout.TheConstants.{HOME_TRAMPOLINE_FRAME, SERVER_TRAMPOLINE_FRAME, FIRST_ROOT, TRAMPOLINE_GUEST_PAGE, RECORD_GUEST_PAGE, SCRATCH_GUEST_PAGE}
use Rattle.sb_abi.specs.declared.space.TheConstants.{MAX_PROCESSES, STACK_PAGES}
use Rattle.sb_abi.specs.declared.trampoline.TheConstants.{TRAMPOLINE_PAGE, RECORD_PAGE, SCRATCH_PAGE}
use Rattle.sb_memory.specs.declared.page.TheConstants.{PAGE_SIZE}
use Rattle.sb_memory.specs.Physical.{Physical, HoldsBytes}
use Rattle.sb_memory.specs.Changes.{SameOutside}
use Rattle.sb_pagewalk.specs.declared.table_set.TableSet.{TableSet}
use Rattle.sb_pagewalk.specs.TableSet.{set_frames, table_frame, Maps, no_pages}
use Rattle.sb_pagewalk.specs.Standing.{HasTables}
use Rattle.sb_root.specs.declared.entry.TheConstants.{RIGHT_READ}
use Rattle.sb_root.specs.declared.root_kernel.RootKernel.{RootKernel}
use Rattle.sb_root.specs.Root.{no_threads}
use Rattle.sb_root.specs.Standing.{Stands}
use Rattle.sb_root.specs.Tables.{base_frames}
use Rattle.sb_state.specs.declared.page.PageName.TheVariants.{Text, Area, Data, Heap, Pool, ServerStack, Save, Stack, Buffer, Record, Scratch, HomeTrampoline, ServerTrampoline}
use Rattle.sb_state.specs.declared.page.Mode.TheVariants.{Fetch, Read, ReadWrite}
use Rattle.sb_state.specs.declared.page.Page.{Page}
use Rattle.sb_trace.specs.PageName.{same_name}
use Rattle.sb_trace.specs.PageWords.{zeros}
use Rattle.sb_trace.specs.State.{State, Process, find_page, page_with}
use Rattle.sb_trace.specs.Start.{ThreadEntry, pages_from, home_words, start_thread, trampoline_pages}
use Rattle.sb_tramp.specs.Home.{home_page}
use Rattle.sb_tramp.specs.Server.{server_page}
use Rattle.sb_shows.specs.Placement.{Placement, Purpose, Unused, BaseTable, GuestTable, Holds, leaf_for}
use Rattle.sb_shows.specs.Calls.{SetsPage, ExposesFrame}
use Rattle.sb_shows.specs.Views.{purposes_with, with_new_thread}

-- ---- before there are processes and threads

-- what each frame is for then: the two pages of the trampoline, and the tables of the base
abbrev pub first_purpose : ℕ → Purpose
first_purpose frame =
    if frame == HOME_TRAMPOLINE_FRAME then Holds HomeTrampoline
    else if frame == SERVER_TRAMPOLINE_FRAME then Holds ServerTrampoline
    else purposes_with (λ part. BaseTable) (λ one. Unused) base_frames 0 frame

-- the placement then; no process has tables yet
abbrev pub first_placement : (ℕ → TableSet) → Placement
first_placement sets = record {
  root = no_threads;
  sets = sets;
  frame = λ name. if same_name name HomeTrampoline then HOME_TRAMPOLINE_FRAME else SERVER_TRAMPOLINE_FRAME;
  purpose = first_purpose;
}

-- what `RootKernel::new` and the writes of two pages leave
pub record IsFirst (state : State) (memory : Physical) : Type 0 where
  pub pages : state.pages ≡ trampoline_pages
  pub processes : state.processes ≡ []
  pub threads : state.threads ≡ []
  pub stands : Stands no_threads memory
  pub home : HoldsBytes memory HOME_TRAMPOLINE_FRAME home_page
  pub server : HoldsBytes memory SERVER_TRAMPOLINE_FRAME server_page

-- ---- the tables of a process

-- each table of a set from this one on is exposed for reading, so many of them
abbrev pub ExposesTables : RootKernel → TableSet → ℕ → ℕ → Physical → Physical → Type 0
ExposesTables root set table zero old new = new ≡ old
ExposesTables root set table (suc count) old new =
    (mid : Physical) × ExposesFrame root old mid (table_frame set table) RIGHT_READ
    × ExposesTables root set (table + 1) count mid new

-- The tables of a process are built in frames that were not used; the entries of the three pages that each view has of its own
-- are set, the scratch page's first; and the tables below the root are exposed, for walks behind an EPT to read.
pub record AddsTables (placement : Placement) (process : ℕ) (old new : Physical) : Type 0 where
  pub set : TableSet
  pub eleven : length set.tables ≡ 11
  pub root : set.root.0 ≡ FIRST_ROOT + process
  pub few : process < MAX_PROCESSES
  pub unused : (table : ℕ) → table < 12 → placement.purpose (table_frame set table) ≡ Unused
  pub above : (table : ℕ) → 1 ≤ table → table < 12 → KEPT_FRAMES ≤ table_frame set table
  pub built : Physical
  pub same : SameOutside (set_frames set) old built
  pub tables : HasTables set built
  pub maps : Maps built set no_pages
  pub first : Physical
  pub scratch : SetsPage set built first (PAGE_SIZE * SCRATCH_PAGE) (leaf_for SCRATCH_GUEST_PAGE ReadWrite)
  pub second : Physical
  pub words : SetsPage set first second (PAGE_SIZE * RECORD_PAGE) (leaf_for RECORD_GUEST_PAGE Read)
  pub mapped : Physical
  pub trampoline : SetsPage set second mapped (PAGE_SIZE * TRAMPOLINE_PAGE) (leaf_for TRAMPOLINE_GUEST_PAGE Fetch)
  pub exposed : ExposesTables placement.root set 1 11 mapped new

-- the placement with the tables
abbrev pub placed_tables : Placement → ℕ → TableSet → Placement
placed_tables placement process set = record placement {
  sets = λ one. if one == process then set else placement.sets one;
  purpose = purposes_with (GuestTable process) placement.purpose (set_frames set) 0;
}

-- none of a process's own pages is there
pub record HasNoPages (pages : List Page) (process : ℕ) : Type 0 where
  pub area : (page : ℕ) → find_page pages (Area process page) ≡ None
  pub text : (page : ℕ) → find_page pages (Text process page) ≡ None
  pub initial : (page : ℕ) → find_page pages (Data process page) ≡ None
  pub heap : (page : ℕ) → find_page pages (Heap process page) ≡ None
  pub stacks : (page : ℕ) → find_page pages (ServerStack process page) ≡ None
  pub pool : find_page pages (Pool process) ≡ None

-- the state with one process more, and as yet without its pages
abbrev pub with_new_process : State → Process → State
with_new_process state process = record state { processes = state.processes ++ process ∷ [] }

-- ---- the pages of a thread

-- none of the pages of a thread is there: those of its views, its buffers, its save page and its stack
pub record HasNoThreadPages (pages : List Page) (thread : ℕ) : Type 0 where
  pub words : find_page pages (Record thread 0) ≡ None
  pub scratch : find_page pages (Scratch thread 0) ≡ None
  pub buffers : (index page : ℕ) → find_page pages (Buffer thread index page) ≡ None
  pub save : find_page pages (Save thread) ≡ None
  pub stack : (page : ℕ) → find_page pages (Stack thread page) ≡ None

-- the save page and the stack of a thread
abbrev pub stack_page : ℕ → ℕ → Page
stack_page thread page = page_with (Stack thread page) zeros

abbrev pub save_and_stack : ℕ → List Page
save_and_stack thread = page_with (Save thread) zeros ∷ pages_from (stack_page thread) 0 STACK_PAGES

-- the state with one thread more, of this entry, and all its pages
abbrev pub with_whole_thread : State → ThreadEntry → State
with_whole_thread state entry =
    record (with_new_thread state (start_thread (length state.threads) entry) (home_words (length state.threads) entry.home)) {
      pages = (with_new_thread state (start_thread (length state.threads) entry)
          (home_words (length state.threads) entry.home)).pages
          ++ save_and_stack (length state.threads);
    }
