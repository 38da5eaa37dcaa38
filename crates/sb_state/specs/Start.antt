-- The state at the start of images and entries (docs/FORMATS.md, "The start").
use Rattle.std.specs.Prelude.{ℕ, zero, suc, ◌+◌, ◌-◌, ◌*◌, List, [], ◌∷◌, ◌++◌, length, take, drop, map, replicate, slice_set, None}
use Rattle.sb_abi.specs.declared.space.TheConstants.{STACKS_ADDRESS, THREAD_DISTANCE}
pub use Rattle.sb_memory.specs.Pages.{page_count}
use Rattle.sb_memory.specs.declared.page.TheConstants.{PAGE_SIZE}
use Rattle.sb_insn.specs.declared.registers.Regs.{Regs}
use Rattle.sb_state.specs.declared.end_kind.EndKind.TheVariants.{Running}
use Rattle.sb_pages.specs.declared.page.PageName.{PageName}
use Rattle.sb_pages.specs.declared.page.PageName.TheVariants.{Text, Area, Data, Heap, Pool, Save, Stack, Record, Scratch, HomeTrampoline, ServerTrampoline}
use Rattle.sb_pages.specs.declared.page.Page.{Page}
use Rattle.sb_state.specs.declared.state.Thread.{Thread}
use Rattle.sb_tramp.specs.declared.record_words.RecordWords.{RecordWords}
unfoldable pub use Rattle.sb_tramp.specs.Record.{record_bytes}
use Rattle.sb_tramp.specs.Home.{home_page}
use Rattle.sb_tramp.specs.Server.{server_page}
pub use Rattle.sb_pages.specs.PageLists.{page_with}
use Rattle.sb_slots.specs.TextMap.{TextMap}
use Rattle.sb_state.specs.State.{State, Process}
use Rattle.sb_pages.specs.PageWords.{zeros}
use Rattle.sb_state.specs.Registers.{no_flags}

-- what a process is made of: its rewritten text and its rewrite area, where its text's instructions stand, its initial data,
-- and its number of heap pages
pub record ProcessImage : Type 0 where
  pub text : List ℕ
  pub area : List ℕ
  pub map : TextMap
  pub initial : List ℕ
  pub heap_pages : ℕ

-- a thread at its start: its home, and the address of its first instruction
pub record ThreadEntry : Type 0 where
  pub home : ℕ
  pub address : ℕ

-- ---- pages

-- bytes filled up to a page
abbrev pub page_padded : ℕ → List ℕ → List ℕ
page_padded filler bytes = bytes ++ replicate (PAGE_SIZE - length bytes) filler

-- one page of bytes that go over several pages, of which the last is filled up
abbrev pub page_of : ℕ → List ℕ → ℕ → List ℕ
page_of filler bytes page = page_padded filler (take PAGE_SIZE (drop (PAGE_SIZE * page) bytes))

-- the pages from a first number on, so many
abbrev pub pages_from : (ℕ → Page) → ℕ → ℕ → List Page
pages_from page first zero = []
pages_from page first (suc count) = page first ∷ pages_from page (first + 1) count

-- a page of bytes that go over several pages of this name
abbrev pub padded_page : (ℕ → PageName) → ℕ → List ℕ → ℕ → Page
padded_page name filler bytes page = page_with (name page) (page_of filler bytes page)

-- bytes in pages of this name, of which the last is filled up
abbrev pub padded_pages : (ℕ → PageName) → ℕ → List ℕ → List Page
padded_pages name filler bytes = pages_from (padded_page name filler bytes) 0 (page_count (length bytes))

-- a page of the heap, in write mode
abbrev pub heap_page : ℕ → ℕ → Page
heap_page process page = page_with (Heap process page) zeros

abbrev pub heap_pages : ℕ → ℕ → List Page
heap_pages process count = pages_from (heap_page process) 0 count

-- text and rewrite area, filled up with CC; initial data, filled up with 0; heap, and a pool page
unfoldable pub process_pages : ℕ → ProcessImage → List Page
process_pages process image =
    padded_pages (Text process) 0xCC image.text
    ++ (padded_pages (Area process) 0xCC image.area
    ++ (padded_pages (Data process) 0 image.initial ++
    (heap_pages process image.heap_pages ++ page_with (Pool process) zeros ∷ [])))

-- where the save page of a thread is
abbrev pub save_address : ℕ → ℕ
save_address thread = STACKS_ADDRESS + thread * THREAD_DISTANCE

-- what the record page of a home view says
abbrev pub home_words : ℕ → ℕ → RecordWords
home_words thread home = record { key = 0; base = 0; handler = 0; thread = thread; save = save_address thread; home = home }

-- a save page, four stack pages, and the record and the scratch page of the home view
unfoldable pub thread_pages : ℕ → ℕ → List Page
thread_pages thread home =
    page_with (Save thread) zeros ∷ page_with (Stack thread 0) zeros ∷ page_with (Stack thread 1) zeros ∷ page_with
    (Stack thread 2) zeros ∷ page_with (Stack thread 3) zeros
    ∷ page_with (Record thread 0) (record_bytes (home_words thread home)) ∷ page_with (Scratch thread 0) zeros ∷ []

-- the two pages of the trampoline, which all views share
unfoldable pub trampoline_pages : List Page
trampoline_pages = page_with HomeTrampoline home_page ∷ page_with ServerTrampoline server_page ∷ []

-- the pages of processes in order, of which the first has this number
abbrev pub images_pages : ℕ → List ProcessImage → List Page
images_pages process [] = []
images_pages process (image ∷ images) = process_pages process image ++ images_pages (process + 1) images

abbrev pub threads_pages : ℕ → List ThreadEntry → List Page
threads_pages thread [] = []
threads_pages thread (entry ∷ entries) = thread_pages thread entry.home ++ threads_pages (thread + 1) entries

-- ---- threads

-- RSP is the end of the thread's stack, RDI its number, all else is 0
unfoldable pub start_registers : ℕ → ℕ → Regs
start_registers thread address = record {
  general = slice_set (slice_set (replicate 16 0) 4 (STACKS_ADDRESS + (thread + 1) * THREAD_DISTANCE)) 7 thread;
  rip = address;
  flags = no_flags;
}

abbrev pub start_thread : ℕ → ThreadEntry → Thread
start_thread thread entry = record {
  home = entry.home;
  regs = start_registers thread entry.address;
  view = 0;
  bindings = [];
  state = Running;
}

abbrev pub start_threads : ℕ → List ThreadEntry → List Thread
start_threads thread [] = []
start_threads thread (entry ∷ entries) = start_thread thread entry ∷ start_threads (thread + 1) entries

-- ---- the state

-- a process that is no server yet
abbrev pub start_process : ProcessImage → Process
start_process image = record { map = image.map; heap_pages = image.heap_pages; registration = None }

abbrev pub start_state : List ProcessImage → List ThreadEntry → ℕ → List ℕ → State
start_state images entries free keys = record {
  pages = images_pages 0 images ++ (threads_pages 0 entries ++ trampoline_pages);
  processes = map start_process images;
  threads = start_threads 0 entries;
  flights = replicate (length entries) None;
  free = free;
  keys = keys;
}
