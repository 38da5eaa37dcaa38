-- Which page an access reaches.
use Rattle.std.specs.Prelude.{ℕ, ◌/◌, Option, Some, None, Result, Ok, Err, if◌then◌else◌}
use Rattle.sb_memory.specs.declared.address.Access.{Access}
use Rattle.sb_bus.specs.declared.stop.BusStop.{BusStop}
use Rattle.sb_bus.specs.declared.stop.FaultKind.TheVariants.{Canon, Memory}
use Rattle.sb_pages.specs.declared.page.PageName.{PageName}
use Rattle.std.specs.Borrow.{Bor}
use Rattle.sb_pages.specs.declared.page.Page.{Page}
use Rattle.sb_pages.specs.declared.pages.Known.{Known}
use Rattle.sb_pages.specs.declared.page.SeenPage.{SeenPage}
use Rattle.sb_pages.specs.PageName.{permits}
use Rattle.sb_state.specs.State.{State}
use Rattle.sb_state.specs.Windows.{page_for}
use Rattle.sb_state.specs.PlainMemory.{is_canonical, fault_at}

abbrev pub name_if_permitted : Option SeenPage → ℕ → Access → Result PageName BusStop
name_if_permitted None address how = Err (fault_at Memory address)
name_if_permitted (Some page) address how = if permits page.mode how then Ok page.name else Err (fault_at Memory address)

-- the page that an access in a view of a thread reaches, or why it reaches none
unfoldable pub name_for_access : ℕ → ℕ → State → ℕ → Access → Result PageName BusStop
name_for_access thread view state address how =
    if is_canonical address then name_if_permitted (page_for state thread view (address / 4096)) address how
    else Err (fault_at Canon address)

-- the name of a page that is reached by its place
abbrev pub known_name : Result (Known × Bor Page) BusStop → Result PageName BusStop
known_name (Ok found) = Ok found.0.name
known_name (Err stop) = Err stop

-- the name of a page that is reached
abbrev pub name_only : Result (PageName × Bor Page) BusStop → Result PageName BusStop
name_only (Ok found) = Ok found.0
name_only (Err stop) = Err stop
