-- What memory that shows a state never has: each of these defects, and it shows none.
use Rattle.std.specs.Prelude.{ℕ, ◌≡◌, ◌≢◌, ◌/◌, ◌<◌, ◌==◌, Some, None, length, if◌then◌else◌}
use Rattle.std.specs.List.{Contains}
use Rattle.sb_memory.specs.Physical.{Physical, frame_of}
use Rattle.sb_memory.specs.declared.address.Access.{Access}
use Rattle.sb_memory.specs.declared.address.Access.TheVariants.{Write, Fetch}
use Rattle.sb_memory.specs.declared.address.PhysAddr.{PhysAddr}
use Rattle.sb_walks.specs.Nested.{memory_behind, translation_reads}
use Rattle.sb_state.specs.declared.page.PageName.{PageName}
use Rattle.sb_state.specs.declared.page.PageName.TheVariants.{Data, Pool}
use Rattle.sb_trace.specs.State.{State}
use Rattle.sb_trace.specs.Windows.{process_shown, page_for}
use Rattle.sb_shows.specs.Placement.{Placement, IsThere}
use Rattle.sb_shows.specs.Keeping.{Keeps}
use Rattle.sb_shows.specs.Related.{cr3_of, HasCores}
use Rattle.sb_shows.specs.Shows.{CoreWords, Shows, IsView, LeadsTo, entry_at, name_seen, seen_through}

-- A thread in a view sees the page of this name at an address, which leads to this place.
pub record Reaches (state : State) (memory : Physical) (cores : ℕ → CoreWords) (thread index address : ℕ) (access : Access)
    (name : PageName) (place : PhysAddr) : Type 0 where
  pub shows : IsView state thread index
  pub page : name_seen (page_for state thread index (address / 4096)) ≡ Some name
  pub leads : LeadsTo (seen_through memory (cores thread) index) access address place

-- two pages in one frame: bytes of both are there
abbrev pub NoSecondPageInAFrame : Type 0
NoSecondPageInAFrame =
    (state : State) (memory : Physical) (cores : ℕ → CoreWords) (thread index thread' index' address address' : ℕ)
    (access access' : Access) (name name' : PageName) (place place' : PhysAddr)
    → Reaches state memory cores thread index address access name place
    → Reaches state memory cores thread' index' address' access' name' place'
    → frame_of place.0 ≡ frame_of place'.0 → name ≢ name' → ¬ Shows state memory cores

-- an entry of a list that is set, at an index for which the thread has no view
abbrev pub NoEntryOfAnUnusedIndex : Type 0
NoEntryOfAnUnusedIndex =
    (state : State) (memory : Physical) (cores : ℕ → CoreWords) (thread index : ℕ)
    → thread < length state.threads → index < 512 → process_shown state.threads thread index ≡ None
    → entry_at memory (cores thread) index ≢ 0 → ¬ Shows state memory cores

-- a table in a frame that a page shows: an entry that some walk reads lies in the frame of a byte that is seen
abbrev pub NoTableInSight : Type 0
NoTableInSight =
    (state : State) (memory : Physical) (cores : ℕ → CoreWords) (thread index thread' index' address address' read : ℕ)
    (access access' : Access) (name : PageName) (place : PhysAddr)
    → Reaches state memory cores thread index address access name place
    → IsView state thread' index'
    → Contains
    (translation_reads (memory_behind memory (entry_at memory (cores thread') index')) (cores thread').cr3 address' access') read
    → frame_of place.0 ≡ frame_of read → ¬ Shows state memory cores

-- the client's data in the server's view: an address there leads to a byte of the data of the client
abbrev pub NoDataOfTheClient : Type 0
NoDataOfTheClient =
    (state : State) (memory : Physical) (cores : ℕ → CoreWords) (thread index client server page address address' : ℕ)
    (access access' : Access) (place : PhysAddr)
    → Reaches state memory cores thread 0 address access (Data client page) place
    → process_shown state.threads thread index ≡ Some server → server ≢ client
    → LeadsTo (seen_through memory (cores thread) index) access' address' place → ¬ Shows state memory cores

-- a page, of the heap or another, that may be written in a view and fetched in this or another one: two addresses lead to its
-- frame
abbrev pub NoPageIsWrittenAndFetched : Type 0
NoPageIsWrittenAndFetched =
    (state : State) (memory : Physical) (cores : ℕ → CoreWords) (thread index thread' index' address address' : ℕ)
    (place place' : PhysAddr)
    → IsView state thread index → IsView state thread' index'
    → LeadsTo (seen_through memory (cores thread) index) Write address place
    → LeadsTo (seen_through memory (cores thread') index') Fetch address' place'
    → frame_of place.0 ≡ frame_of place'.0 → ¬ Shows state memory cores

-- the words of the cores, those of one thread with this CR3
abbrev pub with_cr3 : (ℕ → CoreWords) → ℕ → ℕ → ℕ → CoreWords
with_cr3 cores thread cr3 core =
    if core == thread then record { list = (cores core).list; cr3 = cr3; eptp = (cores core).eptp } else cores core

-- The CR3 word of another process: where a machine keeps a state, it is that of a thread with another home, which has a pool
-- page.
abbrev pub NoCr3OfAnother : Type 0
NoCr3OfAnother =
    (placement : Placement) (state : State) (memory : Physical) (cores : ℕ → CoreWords) (thread other home home' : ℕ)
    → Keeps placement state memory → HasCores placement state cores
    → process_shown state.threads thread 0 ≡ Some home → process_shown state.threads other 0 ≡ Some home' → home ≢ home'
    → IsThere state.pages (Pool home') → ¬ Shows state memory (with_cr3 cores thread (cr3_of state other))
