-- Which lines belong to a landing.
use Rattle.sb_trace.specs.declared.event.Event.{Event}
use Rattle.sb_trace.specs.declared.event.Event.TheVariants.{Landing}

-- An event of a landing other than its deciding one. No sound state gives a phase beyond that of the VMFUNC that begins it.
abbrev pub IsLanding : Event → Type 0
IsLanding (Landing phase) = Unit {0}
IsLanding _ = ⊥
