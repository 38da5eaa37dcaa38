-- The byte at an address by the page that the access reaches.
use Rattle.std.proofs.Common.{◌≡◌, ℕ, ◌/◌, ◌%◌, Bool, true, false, refl, Result, Ok, Err}
use Rattle.std.specs.Prelude.{Option, Some, None, if◌then◌else◌, slice_index}
use Rattle.sb_memory.specs.declared.address.Access.{Access}
use Rattle.sb_memory.specs.Outcome.{and_then}
use Rattle.sb_bus.specs.declared.stop.BusStop.{BusStop}
use Rattle.sb_pages.specs.declared.page.PageName.{PageName}
use Rattle.sb_pages.specs.declared.page.Page.{Page}
use Rattle.sb_pages.specs.declared.page.SeenPage.{SeenPage}
use Rattle.sb_pages.specs.PageName.{permits}
use Rattle.sb_pages.specs.PageLists.{find_page}
use Rattle.sb_state.specs.State.{State, contents}
use Rattle.sb_state.specs.Windows.{page_for}
use Rattle.sb_state.specs.PlainMemory.{plain_byte, byte_seen, byte_in, is_canonical}
use Rattle.sb_state.specs.NameForAccess.{name_for_access, name_if_permitted}

abbrev pub byte_of : State → ℕ → PageName → Result ℕ BusStop
byte_of state address name = Ok (byte_in state name (address % 4096))

permitted_by : (test : Bool) (state : State) (name : PageName) (stop : BusStop) (address : ℕ)
    → (if test then Ok (byte_in state name (address % 4096)) else Err stop)
    ≡ and_then (if test then Ok name else Err stop) (byte_of state address)
permitted_by true state name stop address = refl
permitted_by false state name stop address = refl

seen_by : (state : State) (seen : Option SeenPage) (address : ℕ) (how : Access)
    → byte_seen state seen address how ≡ and_then (name_if_permitted seen address how) (byte_of state address)
seen_by state None address how = refl
seen_by state (Some page) address how = permitted_by (permits page.mode how) state page.name _ address

canonical_by : (test : Bool) (state : State) (seen : Option SeenPage) (stop : BusStop) (address : ℕ) (how : Access)
    → (if test then byte_seen state seen address how else Err stop)
    ≡ and_then (if test then name_if_permitted seen address how else Err stop) (byte_of state address)
canonical_by true state seen stop address how = seen_by state seen address how
canonical_by false state seen stop address how = refl

-- the byte is the one in the page that the access reaches
pub byte_by_reach : (thread view : ℕ) (state : State) (address : ℕ) (how : Access)
    → plain_byte thread view state address how ≡ and_then (name_for_access thread view state address how) (byte_of state address)
unfolding plain_byte name_for_access
byte_by_reach thread view state address how =
    canonical_by (is_canonical address) state (page_for state thread view (address / 4096)) _ address how

pub byte_reached : (thread view : ℕ) (state : State) (address : ℕ) (how : Access) (name : PageName) (page : Page)
    → name_for_access thread view state address how ≡ Ok name → find_page state.pages name ≡ Some page
    → plain_byte thread view state address how ≡ Ok (slice_index page.bytes (address % 4096))
unfolding contents
byte_reached thread view state address how name page is found = rw (byte_by_reach, is, found) refl

pub byte_refused : (thread view : ℕ) (state : State) (address : ℕ) (how : Access) (stop : BusStop)
    → name_for_access thread view state address how ≡ Err stop → plain_byte thread view state address how ≡ Err stop
byte_refused thread view state address how stop is = rw (byte_by_reach, is) refl
