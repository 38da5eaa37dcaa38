-- What stops an instruction of the plain machine.
use Rattle.sb_bus.specs.declared.stop.BusStop.{BusStop}
use Rattle.sb_bus.specs.declared.stop.BusStop.TheVariants.{Fault, Missing}

-- a fault; no page is missing
abbrev pub IsFault : BusStop → Type 0
IsFault (Fault kind address) = Unit {0}
IsFault (Missing frame) = ⊥
