-- What an instruction meets where a nested walk is refused.
use Rattle.std.specs.Prelude.{ℕ}
use Rattle.sb_memory.specs.declared.address.EptStop.{EptStop}
use Rattle.sb_memory.specs.declared.address.EptStop.TheVariants as ept
use Rattle.sb_walks.specs.declared.stop.TableStop.{TableStop}
use Rattle.sb_walks.specs.declared.stop.TableStop.TheVariants as table
use Rattle.sb_walks.specs.declared.stop.WalkStop.{WalkStop}
use Rattle.sb_walks.specs.declared.stop.WalkStop.TheVariants as guest
use Rattle.sb_walks.specs.declared.stop.NestedStop.{NestedStop}
use Rattle.sb_walks.specs.declared.stop.NestedStop.TheVariants as nested
use Rattle.sb_bus.specs.declared.stop.BusStop.{BusStop}
use Rattle.sb_bus.specs.declared.stop.BusStop.TheVariants as bus
use Rattle.sb_bus.specs.declared.stop.FaultKind.TheVariants.{Canon, Memory}

-- a memory fault at an address
abbrev pub memory_fault : ℕ → BusStop
memory_fault address = bus.Fault Memory (record { 0 = address })

-- a refusal of the EPT: the missing frame of a table, or a fault
abbrev pub ept_stop : ℕ → EptStop → BusStop
ept_stop address (ept.Missing frame) = bus.Missing frame
ept_stop address ept.TooWide = memory_fault address
ept_stop address (ept.NotPresent level) = memory_fault address
ept_stop address (ept.Misconfigured level) = memory_fault address
ept_stop address (ept.Large level) = memory_fault address
ept_stop address (ept.Outside level) = memory_fault address
ept_stop address (ept.Denied level) = memory_fault address

-- an entry that cannot be read
abbrev pub table_stop : ℕ → TableStop → BusStop
table_stop address (table.Missing frame) = bus.Missing frame
table_stop address (table.Ept stop) = ept_stop address stop

-- a refusal of the guest's walk
abbrev pub walk_stop : ℕ → WalkStop → BusStop
walk_stop address guest.NonCanonical = bus.Fault Canon (record { 0 = address })
walk_stop address (guest.Table stop) = table_stop address stop
walk_stop address (guest.NotPresent level) = memory_fault address
walk_stop address (guest.Large level) = memory_fault address
walk_stop address (guest.Denied level) = memory_fault address

-- a refusal at an address
abbrev pub stop_at : ℕ → NestedStop → BusStop
stop_at address (nested.Walk stop) = walk_stop address stop
stop_at address (nested.Page stop) = ept_stop address stop
