-- What stays where pages and views are added: frames, modes, views, and translations.
use Rattle.std.specs.Prelude.{ℕ, ◌≡◌, ◌/◌, Bool, List, Some, Ok}
use Rattle.sb_memory.specs.Physical.{Physical}
use Rattle.sb_memory.specs.declared.page.TheConstants.{PAGE_SIZE}
use Rattle.sb_memory.specs.declared.address.Access.{Access}
use Rattle.sb_memory.specs.declared.address.PhysAddr.{PhysAddr}
use Rattle.sb_walks.specs.Nested.{memory_behind, translation}
use Rattle.sb_root.specs.Root.{eptp_list_frame, list_entry}
use Rattle.sb_state.specs.declared.page.PageName.{PageName}
use Rattle.sb_state.specs.declared.page.Page.{Page}
use Rattle.sb_trace.specs.State.{State, find_page, thread_at}
use Rattle.sb_trace.specs.Windows.{page_for, process_shown}
use Rattle.sb_shows.specs.Placement.{Placement, IsThere}
use Rattle.sb_shows.specs.Keeping.{Keeps}
use Rattle.sb_shows.specs.Related.{cr3_of}
use Rattle.sb_shows.specs.Shows.{IsView}

-- ---- what stays

-- each page that was there has the frame that it had
abbrev pub SameFrames : Placement → Placement → State → Type 0
SameFrames old new state = (name : PageName) → IsThere state.pages name → new.frame name ≡ old.frame name

-- a page of this name is there, executable or not
abbrev pub IsThereAs : List Page → PageName → Bool → Type 0
IsThereAs pages name executable = (page : Page) × (find_page pages name ≡ Some page) × (page.executable ≡ executable)

-- Each view that was there stays: it shows the same process, behind the same entry of its list, and its thread has the same
-- home, and its list in the same frame.
pub record ViewsStay (old new : Placement) (state state' : State) : Type 0 where
  pub shown : (thread index process : ℕ) → process_shown state.threads thread index ≡ Some process
      → process_shown state'.threads thread index ≡ Some process
  pub entries : (thread index : ℕ) → IsView state thread index
      → list_entry new.root thread index ≡ list_entry old.root thread index
  pub homes : (thread index : ℕ) → IsView state thread index → (thread_at state' thread).home ≡ (thread_at state thread).home
  pub lists : (thread index : ℕ) → IsView state thread index
      → eptp_list_frame new.root thread ≡ eptp_list_frame old.root thread

-- All that was there stays in its place: each page in its frame and its mode, and each view.
pub record StaysInPlace (old new : Placement) (state state' : State) : Type 0 where
  pub frames : SameFrames old new state
  pub modes : (name : PageName) (page : Page) → find_page state.pages name ≡ Some page
      → IsThereAs state'.pages name page.executable
  pub views : ViewsStay old new state state'

-- each view that was there shows, at each page number, the page that it showed, or still none
abbrev pub SamePages : State → State → Type 0
SamePages old new =
    (thread index : ℕ) → IsView old thread index → (page : ℕ) → page_for new thread index page ≡ page_for old thread index page

-- ---- translations

-- each translation, of every thread and view, is the same in two memories: the same address, or the same refusal
abbrev pub SameTranslations : Placement → State → Physical → Physical → Type 0
SameTranslations placement state old new =
    (thread index : ℕ) → IsView state thread index → (linear : ℕ) (access : Access)
    → translation (memory_behind new (list_entry placement.root thread index)) (cr3_of state thread) linear access
    ≡ translation (memory_behind old (list_entry placement.root thread index)) (cr3_of state thread) linear access

-- each translation at a page number at which a view shows the page that it showed, or still none, is the same
abbrev pub SameWhereSeen : Placement → State → State → Physical → Physical → Type 0
SameWhereSeen placement state state' old new =
    (thread index : ℕ) → IsView state thread index → (linear : ℕ) (access : Access)
    → page_for state' thread index (linear / PAGE_SIZE) ≡ page_for state thread index (linear / PAGE_SIZE)
    → translation (memory_behind new (list_entry placement.root thread index)) (cr3_of state thread) linear access
    ≡ translation (memory_behind old (list_entry placement.root thread index)) (cr3_of state thread) linear access

-- each translation, of every thread and view, that gives an address in one memory gives it in the other
abbrev pub SameAddresses : Placement → State → Physical → Physical → Type 0
SameAddresses placement state old new =
    (thread index : ℕ) → IsView state thread index → (linear : ℕ) (access : Access) (place : PhysAddr)
    → translation (memory_behind old (list_entry placement.root thread index)) (cr3_of state thread) linear access ≡ Ok place
    → translation (memory_behind new (list_entry placement.root thread index)) (cr3_of state thread) linear access ≡ Ok place

-- ---- what calls leave

-- A call keeps what was there in its place: the state that it leaves is kept, all that was there stays, and each translation that
-- gave an address gives the same.
pub record KeepsInPlace (old new : Placement) (state state' : State) (memory memory' : Physical) : Type 0 where
  pub keeps : Keeps new state' memory'
  pub stays : StaysInPlace old new state state'
  pub addresses : SameAddresses old state memory memory'

-- A call that adds nothing which a view shows keeps all in place too: each view that was there shows the same pages, and each of
-- its translations is the same, a refusal too.
pub record KeepsUnseen (old new : Placement) (state state' : State) (memory memory' : Physical) : Type 0 where
  pub in_place : KeepsInPlace old new state state' memory memory'
  pub pages : SamePages state state'
  pub translations : SameTranslations old state memory memory'

-- A call that changes modes keeps all frames: the state that it leaves is kept by the same placement, and each translation is the
-- same where the page that is seen is, in its mode.
pub record KeepsFrames (placement : Placement) (state state' : State) (memory memory' : Physical) : Type 0 where
  pub keeps : Keeps placement state' memory'
  pub translations : SameWhereSeen placement state state' memory memory'

-- A call that takes pages or views away keeps the rest: the state that it leaves is kept, and all that is left was there, in its
-- place. A translation is what it was where the page that is seen is, and one that gives an address gave the same before.
pub record KeepsRest (old new : Placement) (state state' : State) (memory memory' : Physical) : Type 0 where
  pub keeps : Keeps new state' memory'
  pub stays : StaysInPlace new old state' state
  pub translations : SameWhereSeen new state' state memory' memory
  pub addresses : SameAddresses new state' memory' memory
