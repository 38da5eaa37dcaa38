-- A byte that may be written may be read.
use Rattle.std.proofs.Common.{◌≡◌, ap, ℕ, ◌/◌, Bool, true, false, refl, Result, Err}
use Rattle.std.specs.Prelude.{Option, Some, None, if◌then◌else◌}
use Rattle.sb_memory.specs.declared.address.Access.TheVariants.{Read, Write}
use Rattle.sb_memory.specs.Outcome.{and_then}
use Rattle.sb_bus.specs.declared.stop.BusStop.{BusStop}
use Rattle.sb_bus.specs.Access.{byte_for, byte_for_write, loaded_from}
use Rattle.sb_pages.specs.declared.page.PageName.{PageName}
use Rattle.sb_pages.specs.declared.page.SeenPage.{SeenPage}
use Rattle.sb_pages.specs.declared.page.Mode.{Mode}
use Rattle.sb_pages.specs.declared.page.Mode.TheVariants as mode
use Rattle.sb_state.specs.State.{State}
use Rattle.sb_state.specs.Windows.{page_for}
use Rattle.sb_state.specs.PlainMemory.{plain_byte, byte_seen, is_canonical}

-- the page with this name in this mode
abbrev seen_in : PageName → Mode → Option SeenPage
seen_in name how = Some (record { name = name; mode = how })

mode_by : (state : State) (name : PageName) (how : Mode) (address : ℕ)
    → and_then (byte_seen state (seen_in name how) address Write) (λ _. byte_seen state (seen_in name how) address Read)
    ≡ byte_seen state (seen_in name how) address Write
mode_by state name mode.Fetch address = refl
mode_by state name mode.Read address = refl
mode_by state name mode.ReadWrite address = refl

seen_by : (state : State) (seen : Option SeenPage) (address : ℕ)
    → and_then (byte_seen state seen address Write) (λ _. byte_seen state seen address Read) ≡ byte_seen state seen address Write
seen_by state None address = refl
seen_by state (Some page) address = mode_by state page.name page.mode address

canonical_by : (test : Bool) (state : State) (seen : Option SeenPage) (stop : BusStop) (address : ℕ)
    → and_then (if test then byte_seen state seen address Write else Err stop)
    (λ _. if test then byte_seen state seen address Read else Err stop)
    ≡ (if test then byte_seen state seen address Write else Err stop)
canonical_by true state seen stop address = seen_by state seen address
canonical_by false state seen stop address = refl

same_byte : (thread view : ℕ) (state : State) (address : ℕ)
    → byte_for_write (plain_byte thread view state) address ≡ byte_for (plain_byte thread view state) Write address
unfolding plain_byte
same_byte thread view state address =
    canonical_by (is_canonical address) state (page_for state thread view (address / 4096)) _ address

-- a number that is to be written is the one that is read
pub loaded_for_write : (thread view : ℕ) (state : State) (address size : ℕ)
    → loaded_from (byte_for_write (plain_byte thread view state)) address size
    ≡ loaded_from (byte_for (plain_byte thread view state) Write) address size
loaded_for_write thread view state address size =
    let same : byte_for_write (plain_byte thread view state) ≡ byte_for (plain_byte thread view state) Write =
    λ i at. same_byte thread view state at i in
    ap (λ (byte : ℕ → Result ℕ BusStop). loaded_from byte address size) same
