-- What stands in the page that an access reaches.
use Rattle.std.proofs.Common.{◌≡◌, ℕ, zero, suc, ◌+◌, ◌/◌, ◌%◌, ◌^◌, ◌<◌, ◌≤◌, Bool, true, false, Ok, Err, ap, ◌∙◌, sym, arith, refl}
use Rattle.std.specs.Prelude.{Option, Some, None, if◌then◌else◌, slice_index}
use Rattle.sb_memory.specs.declared.address.Access.{Access}
use Rattle.sb_bus.specs.declared.stop.BusStop.{BusStop}
use Rattle.sb_pages.specs.declared.page.PageName.{PageName}
use Rattle.sb_pages.specs.declared.page.Page.{Page}
use Rattle.sb_pages.specs.declared.page.SeenPage.{SeenPage}
use Rattle.sb_pages.specs.PageName.{permits}
use Rattle.sb_pages.specs.PageLists.{find_page}
use Rattle.sb_state.specs.State.{State}
use Rattle.sb_state.specs.Windows.{page_for}
use Rattle.sb_state.specs.PlainMemory.{plain_byte, is_canonical}
use Rattle.sb_pages.specs.PageWords.{number_at}
use Rattle.sb_state.specs.NameForAccess.{name_for_access, name_if_permitted}
use Rattle.sb_state.proofs.NameForAccess.{byte_reached, byte_refused}
use Rattle.sb_bus.specs.Access.{byte_for, loaded_from}
use Rattle.sb_bus.proofs.Loads.{loaded_none, loaded_stop, loaded_more}
use Rattle.byteorder.specs.Endian.{little_from}

-- the address so many bytes further on
abbrev pub further : ℕ → ℕ → ℕ
further address count = (address + count) % 2 ^ 64

permits_by : (test : Bool) (name found : PageName) (stop other : BusStop)
    → (if test then Ok name else Err stop) ≡ Ok found → (if test then Ok name else Err other) ≡ Ok found
permits_by true name found stop other is = is
permits_by false name found stop other is = cc

seen_by : (seen : Option SeenPage) (address other : ℕ) (how : Access) (name : PageName)
    → name_if_permitted seen address how ≡ Ok name → name_if_permitted seen other how ≡ Ok name
seen_by None address other how name is = cc
seen_by (Some page) address other how name is = permits_by (permits page.mode how) page.name name _ _ is

canonical_by : (test : Bool) (seen : Option SeenPage) (address other : ℕ) (how : Access) (name : PageName) (stop again : BusStop)
    → (if test then name_if_permitted seen address how else Err stop) ≡ Ok name
    → (if test then name_if_permitted seen other how else Err again) ≡ Ok name
canonical_by true seen address other how name stop again is = seen_by seen address other how name is
canonical_by false seen address other how name stop again is = cc

same_canonical : (address other : ℕ) → other / 4096 ≡ address / 4096 → is_canonical other ≡ is_canonical address
same_canonical address other page =
    let same : other / 2 ^ 47 ≡ address / 2 ^ 47 = omega (arith, page) in rw same refl

-- an access reaches the same page wherever in the page its address is
pub reached_again : (thread view : ℕ) (state : State) (address other : ℕ) (how : Access) (name : PageName)
    → other / 4096 ≡ address / 4096 → name_for_access thread view state address how ≡ Ok name
    → name_for_access thread view state other how ≡ Ok name
unfolding name_for_access
reached_again thread view state address other how name page is =
    rw (same_canonical address other page, page)
    (canonical_by (is_canonical address) (page_for state thread view (address / 4096)) address other how name _ _ is)

-- a byte further on in the page
pub byte_in_page : (thread view : ℕ) (state : State) (address count : ℕ) (how : Access) (name : PageName) (page : Page)
    → address < 2 ^ 64
    → address % 4096 + count < 4096 → name_for_access thread view state address how ≡ Ok name
    → find_page state.pages name ≡ Some page
    → plain_byte thread view state (further address count) how ≡ Ok (slice_index page.bytes (address % 4096 + count))
byte_in_page thread view state address count how name page fits inside is found =
    let here : further address count ≡ address + count = omega (arith, fits, inside) in
    let same : further address count / 4096 ≡ address / 4096 = omega (arith, here, inside) in
    let place : further address count % 4096 ≡ address % 4096 + count = omega (arith, here, inside) in
    byte_reached thread view state (further address count) how name page
    (reached_again thread view state address _ how name same is) found
    ∙ ap (λ (n : ℕ). Ok (slice_index page.bytes n)) place

-- ---- a number

loaded_on : (size thread view : ℕ) (state : State) (address index : ℕ) (how : Access) (name : PageName) (page : Page)
    → address < 2 ^ 64
    → address % 4096 + index + size ≤ 4096 → name_for_access thread view state address how ≡ Ok name
    → find_page state.pages name ≡ Some page
    → loaded_from (byte_for (plain_byte thread view state) how) (further address index) size
    ≡ Ok (little_from (address % 4096 + index) size page.bytes)
loaded_on zero thread view state address index how name page fits inside is found = loaded_none _ _ 0 refl
loaded_on (suc size) thread view state address index how name page fits inside is found =
    let below : address % 4096 + index < 4096 = omega (arith, inside) in
    let next : (further address index + 1) % 2 ^ 64 ≡ further address (suc index) = omega (arith, fits) in
    let place : address % 4096 + suc index ≡ suc (address % 4096 + index) = omega arith in
    let later : address % 4096 + suc index + size ≤ 4096 = omega (arith, inside) in
    let lowest : byte_for (plain_byte thread view state) how (further address index)
    ≡ Ok (slice_index page.bytes (address % 4096 + index)) =
    byte_in_page thread view state address index how name page fits below is found in
    let others = loaded_on size thread view state address (suc index) how name page fits later is found in
    let more : loaded_from (byte_for (plain_byte thread view state) how) ((further address index + 1) % 2 ^ 64) size
    ≡ Ok (little_from (suc (address % 4096 + index)) size page.bytes) = rw (next, ← place) others in
    loaded_more (byte_for (plain_byte thread view state) how) (further address index) (suc size) size _ _
    (omega arith) lowest more

-- the number of some bytes at an address, if they end in the page
pub number_in_page : (thread view : ℕ) (state : State) (address size : ℕ) (how : Access) (name : PageName) (page : Page)
    → address < 2 ^ 64
    → address % 4096 + size ≤ 4096 → name_for_access thread view state address how ≡ Ok name
    → find_page state.pages name ≡ Some page
    → loaded_from (byte_for (plain_byte thread view state) how) address size ≡ Ok (number_at page.bytes (address % 4096) size)
unfolding number_at
number_in_page thread view state address size how name page fits inside is found =
    let here : further address 0 ≡ address = omega (arith, fits) in
    let place : address % 4096 + 0 ≡ address % 4096 = omega arith in
    let all = loaded_on size thread view state address 0 how name page fits (omega (arith, inside)) is found in
    sym (ap (λ (n : ℕ). loaded_from (byte_for (plain_byte thread view state) how) n size) here) ∙ all
    ∙ ap (λ (n : ℕ). Ok (little_from n size page.bytes)) place

pub number_refused : (thread view : ℕ) (state : State) (address size : ℕ) (how : Access) (stop : BusStop) → 0 < size
    → name_for_access thread view state address how ≡ Err stop
    → loaded_from (byte_for (plain_byte thread view state) how) address size ≡ Err stop
number_refused thread view state address size how stop some is =
    loaded_stop (byte_for (plain_byte thread view state) how) address size stop some
    (byte_refused thread view state address how stop is)
