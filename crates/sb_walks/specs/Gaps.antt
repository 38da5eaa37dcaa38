-- Stops that are frames which a memory does not have.
use Rattle.std.specs.Prelude.{◌≡◌, Bool, true, false, Result, Ok, Err}
use Rattle.sb_memory.specs.declared.address.EptStop.{EptStop}
use Rattle.sb_memory.specs.declared.address.EptStop.TheVariants as stop
use Rattle.sb_walks.specs.declared.stop.TableStop.{TableStop}
use Rattle.sb_walks.specs.declared.stop.TableStop.TheVariants as table
use Rattle.sb_walks.specs.declared.stop.WalkStop.{WalkStop}
use Rattle.sb_walks.specs.declared.stop.WalkStop.TheVariants as walk
use Rattle.sb_walks.specs.declared.stop.NestedStop.{NestedStop}
use Rattle.sb_walks.specs.declared.stop.NestedStop.TheVariants as nested

-- a table of the EPT stands in a missing frame
abbrev pub ept_gap : EptStop → Bool
ept_gap (stop.Missing frame) = true
ept_gap stop.TooWide = false
ept_gap (stop.NotPresent level) = false
ept_gap (stop.Misconfigured level) = false
ept_gap (stop.Large level) = false
ept_gap (stop.Outside level) = false
ept_gap (stop.Denied level) = false

-- the entry of a table of the guest, or a table of the EPT on the way to it, stands in a missing frame
abbrev pub table_gap : TableStop → Bool
table_gap (table.Missing frame) = true
table_gap (table.Ept e) = ept_gap e

-- the guest's walk stops so
abbrev pub walk_gap : WalkStop → Bool
walk_gap (walk.Table unread) = table_gap unread
walk_gap walk.NonCanonical = false
walk_gap (walk.NotPresent level) = false
walk_gap (walk.Large level) = false
walk_gap (walk.Denied level) = false

-- the nested walk stops so
abbrev pub nested_gap : NestedStop → Bool
nested_gap (nested.Walk e) = walk_gap e
nested_gap (nested.Page e) = ept_gap e

-- an answer that is no missing frame, by the test of stops
abbrev pub NoGap : {A E : Type 0} → (E → Bool) → Result A E → Type 0
NoGap gap (Ok value) = Unit {0}
NoGap gap (Err e) = gap e ≡ false
