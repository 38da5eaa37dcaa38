-- The memory of the plain machine beside that of the machine of the original code.
use Rattle.std.specs.Prelude.{◌≡◌, ◌≢◌, ℕ, ◌+◌, ◌/◌, ◌%◌, ◌^◌, ◌<◌, Bool, true, false, List, length, Some}
use Rattle.sb_abi.specs.declared.trampoline.TheConstants.{SCRATCH_PAGE}
use Rattle.sb_memory.specs.declared.page.TheConstants.{PAGE_SIZE}
use Rattle.sb_bus.specs.declared.stop.BusStop.{BusStop}
use Rattle.sb_pages.specs.declared.page.PageName.{PageName}
use Rattle.sb_pages.specs.declared.page.PageName.TheVariants.{Text, Area, Data, Heap, Pool, ServerStack, Save, Stack, Buffer, Record, Scratch, HomeTrampoline, ServerTrampoline}
use Rattle.sb_pages.specs.declared.page.Page.{Page}
use Rattle.sb_pages.specs.PageWords.{number_at}
use Rattle.sb_state.specs.State.{State, find_page, contents}
use Rattle.sb_state.specs.Windows.{process_shown}
use Rattle.sb_trace.specs.Table.{is_there}
use Rattle.sb_trace.specs.Sound.{is_code_name}
use Rattle.sb_trace.specs.Changes.{AreBytes}
use Rattle.sb_original.specs.Words.{Words}

-- ---- the scratch page

-- the words of a scratch page with these bytes
unfoldable pub words_in : List ℕ → Words
words_in bytes = record { first = number_at bytes 0 8; second = number_at bytes 8 8; third = number_at bytes 16 8 }

-- the words of the scratch page of a thread in a view
abbrev pub scratch_words : State → ℕ → ℕ → Words
scratch_words state thread view = words_in (contents state (Scratch thread view))

-- The view of the thread shows a process, its scratch page is there, and these are its words.
pub record HasScratch (thread view : ℕ) (words : Words) (state : State) : Type 0 where
  pub process : ℕ
  pub shown : process_shown state.threads thread view ≡ Some process
  pub page : Page
  pub there : find_page state.pages (Scratch thread view) ≡ Some page
  pub size : length page.bytes ≡ PAGE_SIZE
  pub bytes : AreBytes page.bytes
  pub held : words_in page.bytes ≡ words

-- ---- beside it

-- whether both machines have the same page of this name: it is one of data, and no scratch page
unfoldable pub is_shared : PageName → Bool
is_shared (Text process page) = false
is_shared (Area process page) = false
is_shared (Scratch thread view) = false
is_shared HomeTrampoline = false
is_shared ServerTrampoline = false
is_shared (Data process page) = true
is_shared (Heap process page) = true
is_shared (Pool process) = true
is_shared (ServerStack process page) = true
is_shared (Save thread) = true
is_shared (Stack thread page) = true
is_shared (Buffer thread index page) = true
is_shared (Record thread view) = true

-- Two machines whose memories are the same but for code and for what stands in scratch pages: the views of their threads show
-- the same processes, they have the same pages of data, and the scratch pages of the one are there in the other.
pub record AreBesideScratch (state other : State) : Type 0 where
  pub shown : (thread view : ℕ) → process_shown other.threads thread view ≡ process_shown state.threads thread view
  pub pages : (name : PageName) → is_shared name ≡ true → find_page other.pages name ≡ find_page state.pages name
  pub scratch : (thread view : ℕ) → is_there other.pages (Scratch thread view) ≡ is_there state.pages (Scratch thread view)

-- the memory of a thread in a view holds these words in its scratch page, and is the other one beside scratch pages
abbrev pub HoldsBeside : ℕ → ℕ → Words → State → State → Type 0
HoldsBeside thread view words state other = HasScratch thread view words state × AreBesideScratch state other

-- ---- several threads

-- each of so many threads, in its view, holds these words in its scratch page
abbrev pub HoldAllBeside : ℕ → (ℕ → ℕ) → (ℕ → Words) → State → State → Type 0
HoldAllBeside count views words state other =
    ((number : ℕ) → number < count → HasScratch number (views number) (words number) state) × AreBesideScratch state other

-- ---- bytes

-- what stands in each page that can be loaded is a byte
abbrev pub HaveBytes : State → Type 0
HaveBytes state =
    (name : PageName) (page : Page) → is_code_name name ≡ false → find_page state.pages name ≡ Some page → AreBytes page.bytes

-- ---- accesses

-- no byte of an access lies in the scratch page
abbrev pub IsOutside : ℕ → ℕ → Type 0
IsOutside address size = (index : ℕ) → index < size → (address + index) % 2 ^ 64 / PAGE_SIZE ≢ SCRATCH_PAGE

-- both machines tell a stop alike
abbrev pub same_stop : BusStop → BusStop
same_stop stop = stop
