-- The kinds of fault by name.
use Rattle.std.specs.Prelude.{ℕ, List, codes}
use Rattle.sb_bus.specs.declared.stop.FaultKind.{FaultKind}
use Rattle.sb_bus.specs.declared.stop.FaultKind.TheVariants.{Canon, Memory, Undefined, Switch}

-- as lines and reports name it
abbrev pub fault_kind_text : FaultKind → List ℕ
fault_kind_text Canon = codes "canon"
fault_kind_text Memory = codes "memory"
fault_kind_text Undefined = codes "undefined"
fault_kind_text Switch = codes "switch"
