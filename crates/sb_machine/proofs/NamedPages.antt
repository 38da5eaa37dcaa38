-- A page that a view shows by one name: where it stays as it is from one state to another, so do the bytes that it gives.
use Rattle.std.proofs.Common.{◌≡◌, ◌∙◌, sym, ap, ℕ, ◌%◌, ◌/◌, ◌==◌, List, refl, Result, Ok, Err}
use Rattle.std.specs.Prelude.{Option, Some, None, slice_index, if◌then◌else◌}
use Rattle.std.specs.Option.{option_map, option_and_then}
use Rattle.sb_memory.specs.declared.address.Access.{Access}
use Rattle.sb_bus.specs.declared.stop.BusStop.{BusStop}
use Rattle.sb_bus.specs.declared.stop.FaultKind.TheVariants.{Canon, Memory}
use Rattle.sb_state.specs.PageName.{mode_of, permits}
use Rattle.sb_state.specs.PlainMemory.{byte_seen, fault_at, is_canonical, plain_byte}
use Rattle.sb_state.specs.State.{State, bytes_of, contents, find_page}
use Rattle.sb_state.specs.Windows.{name_at, page_and_mode, page_by_name, page_for, process_shown}
use Rattle.sb_state.specs.declared.page.Mode.{Mode}
use Rattle.sb_state.specs.declared.page.Page.{Page}
use Rattle.sb_state.specs.declared.page.PageName.{PageName}
use Rattle.sb_state.specs.declared.page.PageName.TheVariants.{HomeTrampoline, Pool, Record, ServerTrampoline}
use Rattle.sb_state.specs.declared.state.Thread.{Thread}

-- ---- names

-- a view shows this name at this page number
pub record Names (state : State) (thread index page : ℕ) (name : PageName) : Type 0 where
  pub process : ℕ
  pub shows : process_shown state.threads thread index ≡ Some process
  pub named : name_at state.threads thread index page process ≡ Some name

abbrev pub trampoline_name : ℕ → PageName
trampoline_name index = if index == 0 then HomeTrampoline else ServerTrampoline

pub trampoline_named : (threads : List Thread) (thread index process : ℕ)
    → name_at threads thread index 0x70000 process ≡ Some (trampoline_name index)
unfolding name_at
trampoline_named threads thread index process = refl

pub record_named : (threads : List Thread) (thread index process : ℕ)
    → name_at threads thread index 0x70002 process ≡ Some (Record thread index)
unfolding name_at
record_named threads thread index process = refl

pub pool_named : (threads : List Thread) (thread index process : ℕ)
    → name_at threads thread index 0x70006 process ≡ Some (Pool process)
unfolding name_at
pool_named threads thread index process = refl

-- the page that is seen is the one of this name
pub page_named : (state : State) (thread index page : ℕ) (name : PageName) → Names state thread index page name
    → page_for state thread index page ≡ page_by_name state.pages name
unfolding page_for
page_named state thread index page name names =
    ap (λ shown. option_and_then (page_by_name state.pages)
    (option_and_then (name_at state.threads thread index page) shown)) names.shows
    ∙ ap (option_and_then (page_by_name state.pages)) names.named

-- ---- bytes

-- the byte of a page of this name, if it is there, at an address
abbrev byte_of : PageName → Option Page → ℕ → Access → Result ℕ BusStop
byte_of name None address how = Err (fault_at Memory address)
byte_of name (Some page) address how =
    if permits (mode_of name page.executable) how then Ok (slice_index page.bytes (address % 4096))
    else Err (fault_at Memory address)

found_byte : (state : State) (name : PageName) (found : Option Page) (address : ℕ) (how : Access)
    → find_page state.pages name ≡ found
    → byte_seen state (option_map (page_and_mode name) found) address how ≡ byte_of name found address how
unfolding contents
found_byte state name None address how is = refl
found_byte state name (Some page) address how is =
    ap (λ (list : List ℕ). if permits (mode_of name page.executable) how then Ok (slice_index list (address % 4096))
    else Err (fault_at Memory address)) (ap bytes_of is)

named_byte : (state : State) (name : PageName) (address : ℕ) (how : Access)
    → byte_seen state (page_by_name state.pages name) address how
    ≡ byte_of name (find_page state.pages name) address how
named_byte state name address how = found_byte state name (find_page state.pages name) address how refl

plain_named : (state : State) (thread index page : ℕ) (name : PageName) → Names state thread index page name
    → (address : ℕ) (how : Access) → address / 4096 ≡ page
    → plain_byte thread index state address how
    ≡ (if is_canonical address then byte_of name (find_page state.pages name) address how else Err (fault_at Canon address))
unfolding plain_byte
plain_named state thread index page name names address how within =
    ap (λ (byte : Result ℕ BusStop). if is_canonical address then byte else Err (fault_at Canon address))
    (ap (λ found. byte_seen state found address how)
    (ap (page_for state thread index) within ∙ page_named state thread index page name names)
    ∙ named_byte state name address how)

-- ---- a page that stays

-- a page of this name is in both states, with the same mode
pub record IsInBoth (old new : State) (name : PageName) : Type 0 where
  pub was : Page
  pub is_was : find_page old.pages name ≡ Some was
  pub now : Page
  pub is_now : find_page new.pages name ≡ Some now
  pub mode : mode_of name now.executable ≡ mode_of name was.executable

-- and it is found as it was
abbrev pub in_both : (old new : State) (name : PageName) (page : Page) → find_page old.pages name ≡ Some page
    → find_page new.pages name ≡ find_page old.pages name → IsInBoth old new name
in_both old new name page there same =
    record { was = page; is_was = there; now = page; is_now = same ∙ there; mode = refl }

pub page_stays : (old new : State) (thread index page : ℕ) (name : PageName) → Names old thread index page name
    → Names new thread index page name → IsInBoth old new name
    → page_for new thread index page ≡ page_for old thread index page
page_stays old new thread index page name was now both =
    page_named new thread index page name now
    ∙ (ap (option_map (page_and_mode name)) both.is_now
    ∙ (ap (λ (mode : Mode). Some (record { name = name; mode = mode })) both.mode
    ∙ sym (page_named old thread index page name was ∙ ap (option_map (page_and_mode name)) both.is_was)))

byte_by : (name : PageName) (was now : Page) (address : ℕ) (how : Access)
    → mode_of name now.executable ≡ mode_of name was.executable
    → slice_index now.bytes (address % 4096) ≡ slice_index was.bytes (address % 4096)
    → byte_of name (Some now) address how ≡ byte_of name (Some was) address how
byte_by name was now address how mode byte =
    ap (λ (mode : Mode). if permits mode how then Ok (slice_index now.bytes (address % 4096))
    else Err (fault_at Memory address)) mode
    ∙ ap (λ (byte : ℕ). if permits (mode_of name was.executable) how then Ok byte else Err (fault_at Memory address)) byte

-- where the byte of the page stays, so does what the address gives
pub byte_stays : (old new : State) (thread index page : ℕ) (name : PageName) → Names old thread index page name
    → Names new thread index page name → (both : IsInBoth old new name) → (address : ℕ) (how : Access) → address / 4096 ≡ page
    → slice_index both.now.bytes (address % 4096) ≡ slice_index both.was.bytes (address % 4096)
    → plain_byte thread index new address how ≡ plain_byte thread index old address how
byte_stays old new thread index page name was now both address how within byte =
    plain_named new thread index page name now address how within
    ∙ (ap (λ (one : Result ℕ BusStop). if is_canonical address then one else Err (fault_at Canon address))
    (ap (λ found. byte_of name found address how) both.is_now
    ∙ (byte_by name both.was both.now address how both.mode byte
    ∙ sym (ap (λ found. byte_of name found address how) both.is_was)))
    ∙ sym (plain_named old thread index page name was address how within))
