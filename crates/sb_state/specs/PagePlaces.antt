-- Where the bytes of a store go.
use Rattle.std.specs.Prelude.{ℕ, ◌/◌, ◌%◌, List, [], ◌∷◌, Result, Ok}
use Rattle.sb_memory.specs.declared.address.Access.TheVariants.{Write}
use Rattle.sb_memory.specs.Outcome.{and_then}
use Rattle.sb_bus.specs.declared.stop.BusStop.{BusStop}
use Rattle.sb_pages.specs.declared.page.PageName.{PageName}
use Rattle.sb_state.specs.State.{State}
use Rattle.sb_state.specs.PlainMemory.{ByteToPut}
use Rattle.sb_state.specs.declared.write.PagePlace.{PagePlace}
use Rattle.sb_state.specs.NameForAccess.{name_for_access}

-- the place in a page at an address
abbrev pub page_place : ℕ → PageName → Result PagePlace BusStop
page_place address name = Ok (record { name = name; offset = address % 4096 })

-- where a byte that is written at an address goes, or why it may not be written
unfoldable pub page_place_at : ℕ → ℕ → State → ℕ → Result PagePlace BusStop
page_place_at thread view state address = and_then (name_for_access thread view state address Write) (page_place address)

-- the bytes of a number at these places, the lowest first
abbrev pub bytes_to_put_in : List PagePlace → ℕ → List ByteToPut
bytes_to_put_in [] value = []
bytes_to_put_in (page_place ∷ places) value =
    record { name = page_place.name; offset = page_place.offset; value = value % 256 } ∷ bytes_to_put_in places (value / 256)
