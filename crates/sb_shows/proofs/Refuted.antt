-- Each defect of memory beside a clause of what memory shows.
use Rattle.std.proofs.Common.{◌≡◌, ◌≢◌, ◌∙◌, sym, ap, subst, ℕ, ◌+◌, ◌-◌, ◌*◌, ◌/◌, ◌%◌, Bool, true, false, List, Result, Ok, Err, refl, arith}
use Rattle.std.specs.Prelude.{Option, Some, None, if◌then◌else◌}
use Rattle.std.specs.Option.{option_map, option_and_then}
use Rattle.sb_abi.specs.declared.trampoline.TheConstants.{POOL_ADDRESS}
use Rattle.sb_memory.specs.Physical.{Physical, frame_of}
use Rattle.sb_memory.specs.Reading.{byte_read}
use Rattle.sb_memory.specs.declared.address.Access.{Access}
use Rattle.sb_memory.specs.declared.address.Access.TheVariants.{Write, Fetch}
use Rattle.sb_memory.specs.declared.address.Missing.{Missing}
use Rattle.sb_memory.specs.declared.address.PhysAddr.{PhysAddr}
use Rattle.sb_bus.specs.declared.stop.FaultKind.TheVariants.{Canon, Memory}
use Rattle.sb_walks.specs.Nested.{memory_behind, translation}
use Rattle.sb_walks.proofs.Page.{place_offset, translated-page}
use Rattle.sb_nested.specs.View.{View, place_of, view_byte, byte_behind, byte_answer}
use Rattle.sb_state.specs.declared.page.PageName.{PageName}
use Rattle.sb_state.specs.declared.page.PageName.TheVariants.{Data, Pool}
use Rattle.sb_state.specs.declared.page.Page.{Page}
use Rattle.sb_state.specs.declared.page.SeenPage.{SeenPage}
use Rattle.sb_state.specs.declared.page.Mode.{Mode}
use Rattle.sb_state.specs.declared.page.Mode.TheVariants as mode
use Rattle.sb_trace.specs.PageName.{permits}
use Rattle.sb_trace.specs.State.{State, find_page}
use Rattle.sb_trace.specs.Windows.{name_at, page_by_name, page_and_mode, process_shown, page_for}
use Rattle.sb_trace.specs.PlainMemory.{is_canonical, byte_seen, plain_byte, fault_at}
use Rattle.sb_shows.specs.Windows.{NamesNoOtherProcess}
use Rattle.sb_shows.specs.Shows.{CoreWords, Shows, IsView, IsEntryFor, LeadsTo, entry_at, name_seen, seen_through}
use Rattle.sb_shows.specs.Defects.{Reaches, NoSecondPageInAFrame, NoEntryOfAnUnusedIndex, NoTableInSight, NoDataOfTheClient, NoPageIsWrittenAndFetched}
use Rattle.sb_shows.proofs.Numbers.{name_number}

-- ---- what is seen has its name

found_name : (name one : PageName) (found : Option Page) → name_seen (option_map (page_and_mode name) found) ≡ Some one
    → name ≡ one
found_name name one None is = absurd cc
found_name name one (Some page) is = cc

name_found : (pages : List Page) (name : Option PageName) (one : PageName)
    → name_seen (option_and_then (page_by_name pages) name) ≡ Some one → name ≡ Some one
name_found pages None one is = absurd cc
name_found pages (Some name) one is = ap Some (found_name name one (find_page pages name) is)

-- a page that is seen has the name that stands at its number
seen_name : (state : State) (thread index page process : ℕ) (name : PageName)
    → process_shown state.threads thread index ≡ Some process
    → name_seen (page_for state thread index page) ≡ Some name → name_at state.threads thread index page process ≡ Some name
unfolding page_for
seen_name state thread index page process name shows is =
    name_found state.pages (name_at state.threads thread index page process) name
    (ap (λ found. name_seen (option_and_then (page_by_name state.pages)
    (option_and_then (name_at state.threads thread index page) found))) (sym shows) ∙ is)

-- ---- where a walk leads, a page is seen that may be accessed so

record IsSeenFor (state : State) (thread index address : ℕ) (access : Access) : Type 0 where
  page : SeenPage
  seen : page_for state thread index (address / 4096) ≡ Some page
  may : permits page.mode access ≡ true

is_byte : (may : Bool) (address byte : ℕ) (answer : Result ℕ Missing)
    → byte_answer answer ≡ (if may then Ok byte else Err (fault_at Memory address)) → may ≡ true
is_byte true address byte answer is = refl
is_byte false address byte (Ok other) is = absurd cc
is_byte false address byte (Err gap) is = absurd cc

is_seen : (state : State) (thread index address : ℕ) (access : Access) (page : Option SeenPage) (answer : Result ℕ Missing)
    → page_for state thread index (address / 4096) ≡ page → byte_answer answer ≡ byte_seen state page address access
    → IsSeenFor state thread index address access
is_seen state thread index address access None (Ok byte) seen is = absurd cc
is_seen state thread index address access None (Err gap) seen is = absurd cc
is_seen state thread index address access (Some page) answer seen is =
    record { page = page; seen = seen; may = is_byte (permits page.mode access) address _ answer is }

is_canon : (state : State) (thread index address : ℕ) (access : Access) (canonical : Bool) (answer : Result ℕ Missing)
    → byte_answer answer
    ≡ (if canonical then byte_seen state (page_for state thread index (address / 4096)) address access else Err
    (fault_at Canon address))
    → IsSeenFor state thread index address access
is_canon state thread index address access true answer is =
    is_seen state thread index address access (page_for state thread index (address / 4096)) answer refl is
is_canon state thread index address access false (Ok byte) is = absurd cc
is_canon state thread index address access false (Err gap) is = absurd cc

-- ---- the end of a page

-- the last address of the page of an address
abbrev page_end : ℕ → ℕ
page_end address = 4096 * (address / 4096) + 4095

abbrev place_end : PhysAddr → PhysAddr
place_end place = record { 0 = page_end place.0 }

-- where an address leads, the end of its page leads to the end of the frame
end_leads : (core : View) (access : Access) (address : ℕ) (place : PhysAddr) → LeadsTo core access address place
    → LeadsTo core access (page_end address) (place_end place)
unfolding place_of
end_leads core access address place leads =
    let behind = memory_behind core.physical core.eptp in
    let offset = place_offset behind core.cr3 address access place leads in
    let from : address + (4095 - address % 4096) ≡ page_end address = omega arith in
    let to : place.0 + (4095 - address % 4096) ≡ page_end place.0 = omega arith in
    ap (λ (n : ℕ). translation behind core.cr3 n access) (sym from)
    ∙ (translated-page behind core.cr3 address (4095 - address % 4096) access place (omega arith) leads
    ∙ ap (λ (n : ℕ). Ok (record { 0 = n })) to)

-- and there the same page is seen
end_reached : (state : State) (memory : Physical) (cores : ℕ → CoreWords) (thread index address : ℕ) (access : Access)
    (name : PageName) (place : PhysAddr) → Reaches state memory cores thread index address access name place
    → Reaches state memory cores thread index (page_end address) access name (place_end place)
end_reached state memory cores thread index address access name place one =
    let page : page_end address / 4096 ≡ address / 4096 = omega arith in
    record {
      shows = one.shows;
      page = ap (λ (n : ℕ). name_seen (page_for state thread index n)) page ∙ one.page;
      leads = end_leads (seen_through memory (cores thread) index) access address place one.leads;
    }

-- ---- of memory that shows a state

module _ (state : State) (memory : Physical) (cores : ℕ → CoreWords) (shows : Shows state memory cores) where
  seen_for : (thread index address : ℕ) (access : Access) (place : PhysAddr) → IsView state thread index
      → LeadsTo (seen_through memory (cores thread) index) access address place
      → IsSeenFor state thread index address access
  unfolding view_byte plain_byte
  seen_for thread index address access place view leads =
      is_canon state thread index address access (is_canonical address) (byte_read memory place.0)
      (sym (ap (byte_behind memory address) leads) ∙ shows.bytes thread index address access view)

  -- what leads to one place is one page
  one_name : (thread index thread' index' address address' : ℕ) (access access' : Access) (name name' : PageName)
      (place : PhysAddr)
      → Reaches state memory cores thread index address access name place
      → Reaches state memory cores thread' index' address' access' name' place → name ≡ name'
  one_name thread index thread' index' address address' access access' name name' place one other =
      let same =
      (shows.sharing thread index thread' index' address address' access access' place place one.shows other.shows one.leads
      other.leads).0 refl in
      let first = one.page in
      let second = other.page in
      let left = same.first in
      let right = same.second in
      cc

  -- what leads to one frame is one page: the ends of both pages lead to one place
  frame_name : (thread index thread' index' address address' : ℕ) (access access' : Access) (name name' : PageName)
      (place place' : PhysAddr)
      → Reaches state memory cores thread index address access name place
      → Reaches state memory cores thread' index' address' access' name' place'
      → frame_of place.0 ≡ frame_of place'.0 → name ≡ name'
  frame_name thread index thread' index' address address' access access' name name' place place' one other frame =
      one_name thread index thread' index' (page_end address) (page_end address') access access' name name' (place_end place)
      (end_reached state memory cores thread index address access name place one)
      (subst (Reaches state memory cores thread' index' (page_end address') access' name')
      (ap (λ (n : ℕ). record { 0 = 4096 * n + 4095 }) (sym frame))
      (end_reached state memory cores thread' index' address' access' name' place' other))

-- ---- the defects

pub no_second_page_in_a_frame : NoSecondPageInAFrame
no_second_page_in_a_frame state memory cores thread index thread' index' address address' access access' name name' place place'
    one other frame differ shows =
    differ
    (frame_name state memory cores shows thread index thread' index' address address' access access' name name' place place' one
    other frame)

pub no_entry_of_an_unused_index : NoEntryOfAnUnusedIndex
no_entry_of_an_unused_index state memory cores thread index there few none set shows =
    set
    (subst (λ found. IsEntryFor found (entry_at memory (cores thread) index)) none (shows.entries thread index there few))

pub no_table_in_sight : NoTableInSight
no_table_in_sight state memory cores thread index thread' index' address address' read access access' name place one view among
    same shows =
    shows.tables thread index thread' index' address address' read access access' place one.shows view one.leads among same

-- a page that is seen by a process's own name is that process's
own_process : (state : State) (thread index page process : ℕ) (name : PageName)
    → process_shown state.threads thread index ≡ Some process
    → name_seen (page_for state thread index page) ≡ Some name → NamesNoOtherProcess process name
own_process state thread index page process name shows is =
    (name_number state.threads thread index page process name (seen_name state thread index page process name shows is)).1

pub no_data_of_the_client : NoDataOfTheClient
no_data_of_the_client state memory cores thread index client server page address address' access access' place one shown away
    leads shows =
    let same =
    (shows.sharing thread 0 thread index address address' access access' place place one.shows (server, shown) one.leads leads).0
    refl in
    let name : Some same.name ≡ Some (Data client page) = sym same.first ∙ one.page in
    away
    (sym (own_process state thread index (address' / 4096) server (Data client page) shown (same.second ∙ name)))

not_both : (how : Mode) → permits how Write ≡ true → permits how Fetch ≡ true → ⊥
not_both mode.Fetch write fetch = cc
not_both mode.Read write fetch = cc
not_both mode.ReadWrite write fetch = cc

-- a page that is found by a name is found by its own
by_own_name : (pages : List Page) (name : Option PageName) (page : SeenPage)
    → option_and_then (page_by_name pages) name ≡ Some page → page_by_name pages page.name ≡ Some page
by_own_name pages None page is = absurd cc
by_own_name pages (Some name) page is =
    subst (λ one. page_by_name pages one ≡ Some page) (found_name name page.name (find_page pages name) (ap name_seen is)) is

seen_by_name : (state : State) (thread index at : ℕ) (page : SeenPage) → page_for state thread index at ≡ Some page
    → page_by_name state.pages page.name ≡ Some page
unfolding page_for
seen_by_name state thread index at page is = by_own_name state.pages _ page is

pub no_page_is_written_and_fetched : NoPageIsWrittenAndFetched
no_page_is_written_and_fetched state memory cores thread index thread' index' address address' place place' view view' written
    fetched frame shows =
    let one = seen_for state memory cores shows thread index address Write place view written in
    let other = seen_for state memory cores shows thread' index' address' Fetch place' view' fetched in
    let name : one.page.name ≡ other.page.name =
    frame_name state memory cores shows thread index thread' index' address address' Write Fetch one.page.name other.page.name
    place place' (record { shows = view; page = ap name_seen one.seen; leads = written })
    (record { shows = view'; page = ap name_seen other.seen; leads = fetched }) frame in
    let same : Some one.page ≡ Some other.page =
    sym (seen_by_name state thread index (address / 4096) one.page one.seen)
    ∙ (ap (page_by_name state.pages) name
    ∙ seen_by_name state thread' index' (address' / 4096) other.page other.seen) in
    let page : one.page ≡ other.page = cc in
    not_both one.page.mode one.may (subst (λ (seen : SeenPage). permits seen.mode Fetch ≡ true) (sym page) other.may)

pool_named : (state : State) (thread home : ℕ) → name_at state.threads thread 0 0x70006 home ≡ Some (Pool home)
unfolding name_at
pool_named state thread home = refl

-- what is seen at the address of the pool page is the pool page of the home
pool_seen : (state : State) (memory : Physical) (cores : ℕ → CoreWords) (shows : Shows state memory cores)
    (thread home : ℕ) (access : Access) (place : PhysAddr) → process_shown state.threads thread 0 ≡ Some home
    → LeadsTo (seen_through memory (cores thread) 0) access POOL_ADDRESS place
    → Reaches state memory cores thread 0 POOL_ADDRESS access (Pool home) place
pool_seen state memory cores shows thread home access place shown leads =
    let seen = seen_for state memory cores shows thread 0 POOL_ADDRESS access place (home, shown) leads in
    let named : name_seen (page_for state thread 0 0x70006) ≡ Some seen.page.name = ap name_seen seen.seen in
    record {
      shows = (home, shown);
      page = named ∙ sym (seen_name state thread 0 0x70006 home seen.page.name shown named)
          ∙ pool_named state thread home;
      leads = leads;
    }

-- the home views of threads of different homes do not lead to one place where the pool pages are seen
pub no_pool_of_another : (state : State) (memory : Physical) (cores : ℕ → CoreWords) (thread other home home' : ℕ)
    (access : Access) (place : PhysAddr)
    → process_shown state.threads thread 0 ≡ Some home → process_shown state.threads other 0 ≡ Some home' → home ≢ home'
    → LeadsTo (seen_through memory (cores thread) 0) access POOL_ADDRESS place
    → LeadsTo (seen_through memory (cores other) 0) access POOL_ADDRESS place → ¬ Shows state memory cores
no_pool_of_another state memory cores thread other home home' access place shown shown' away leads leads' shows =
    let one = pool_seen state memory cores shows thread home access place shown leads in
    let two = pool_seen state memory cores shows other home' access place shown' leads' in
    let names : Pool home ≡ Pool home' =
    one_name state memory cores shows thread 0 other 0 POOL_ADDRESS POOL_ADDRESS access access (Pool home) (Pool home') place one
    two in
    away cc
