-- Where the instructions of a rewritten text and its slots stand.
use Rattle.std.specs.Prelude.{ℕ, List, []}
use Rattle.sb_slots.specs.declared.slot.Slot.{Slot}
use Rattle.sb_slots.specs.declared.slot.Pass.{Pass}

-- the starts of the text's instructions, the number of the text's bytes, the number of bytes of all slots, the slots, which
-- of their instructions follow one another, and where three NOPs stand in place of VMFUNC
pub record TextMap : Type 0 where
  pub starts : List ℕ
  pub size : ℕ
  pub area_size : ℕ
  pub slots : List Slot
  pub passes : List Pass
  pub vmfuncs : List ℕ

-- the map of no text
abbrev pub no_map : TextMap
no_map = record { starts = []; size = 0; area_size = 0; slots = []; passes = []; vmfuncs = [] }

abbrev pub map_from_parts : List ℕ → ℕ → ℕ → List Slot → List Pass → List ℕ → TextMap
map_from_parts starts size area_size slots passes vmfuncs = record {
  starts = starts;
  size = size;
  area_size = area_size;
  slots = slots;
  passes = passes;
  vmfuncs = vmfuncs;
}
