-- Values for places that no list has.
use Rattle.std.proofs.Common.{false}
use Rattle.sb_slots.specs.declared.slot.Slot.{Slot}
use Rattle.sb_slots.specs.declared.slot.Pass.{Pass}

abbrev pub no_slot : Slot
no_slot = record { start = 0; at = 0; main = 0; end = 0; loads_constant = false }

abbrev pub no_pass : Pass
no_pass = record { from = 0; to = 0 }
