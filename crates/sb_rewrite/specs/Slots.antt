-- The slots of moved instructions, which of their instructions follow one another, and the NOPs in place of VMFUNC.
use Rattle.std.specs.Prelude.{◌≡◌, ℕ, ◌+◌, Bool, true, false, if◌then◌else◌, List, [], ◌∷◌, ◌++◌, length}
use Rattle.sb_insn.specs.declared.insn.Insn.{Insn}
use Rattle.sb_insn.specs.declared.insn.Imm.{Imm}
use Rattle.sb_insn.specs.declared.insn.Imm.TheVariants as imm
use Rattle.sb_insn.specs.Spelling.{spelling}
use Rattle.sb_forms.specs.declared.answer.Form.{Form}
use Rattle.sb_forms.specs.declared.answer.Form.TheVariants as form
use Rattle.sb_forms.specs.Table.{Replacement, Keep, InPlace, Moved, Unmovable, is_vmfunc, held_form, site_of}
use Rattle.sb_slots.specs.declared.slot.Slot.{Slot}
use Rattle.sb_slots.specs.declared.slot.Pass.{Pass}
use Rattle.sb_rewrite.specs.Listing.{spelled_bytes, AllValid}
use Rattle.sb_rewrite.specs.Placing.{Placement}

-- ---- slots

-- The constant has eight bytes: the instruction that does the work in the slot loads it from the scratch page.
abbrev pub loads_constant : Imm → Bool
loads_constant imm.None = false
loads_constant (imm.I8 value) = false
loads_constant (imm.I32 value) = false
loads_constant (imm.I64 value) = true

-- the slot of an instruction that is moved to an address, with so many bytes, and so many before main
abbrev pub moved_slot : Insn → ℕ → ℕ → ℕ → ℕ → Slot
moved_slot insn start at before size = record {
  start = start;
  at = at;
  main = at + before;
  end = at + size;
  loads_constant = loads_constant insn.imm;
}

abbrev pub slots_by : Form → Placement → List Slot
slots_by (form.Moved pre main post) place =
    moved_slot place.insn place.at place.slot (length pre) (length (pre ++ (main ++ post))) ∷ []
slots_by form.Keep place = []
slots_by (form.InPlace bytes) place = []
slots_by form.Unmovable place = []

abbrev pub slots_of : Placement → List Slot
slots_of place = slots_by place.form place

-- ---- the instructions of a slot

abbrev pub slot_insns : Replacement → List Insn
slot_insns (Moved pre main post) = pre ++ main ∷ post
slot_insns Keep = []
slot_insns (InPlace mains) = []
slot_insns Unmovable = []

-- those of the slot that the table of forms gives an instruction at an address; only one that holds the bytes of VMFUNC is moved
unfoldable pub moved_insns : Insn → ℕ → ℕ → List Insn
moved_insns insn at slot = slot_insns (held_form insn (site_of insn at slot))

-- the bytes of a slot are those of these instructions, which are valid
pub record IsSlotOf (insn : Insn) (at slot : ℕ) (bytes : List ℕ) : Type 0 where
  pub valid : AllValid (moved_insns insn at slot)
  pub spelled : bytes ≡ spelled_bytes (moved_insns insn at slot)

-- and so it is with what stands in place of an instruction, if it has a slot
abbrev pub HasSlot : Insn → ℕ → ℕ → Form → Type 0
HasSlot insn at slot form.Keep = Unit {0}
HasSlot insn at slot (form.InPlace bytes) = Unit {0}
HasSlot insn at slot (form.Moved pre main post) = IsSlotOf insn at slot (pre ++ (main ++ post))
HasSlot insn at slot form.Unmovable = Unit {0}

-- ---- which instructions of a slot follow one another

-- Instructions stand one after another from an address on: each but the last has the next one behind it.
unfoldable pub passes_from : ℕ → List Insn → List Pass
passes_from at [] = []
passes_from at (insn ∷ []) = []
passes_from at (insn ∷ next ∷ left) =
    record { from = at; to = at + length (spelling insn) } ∷ passes_from (at + length (spelling insn)) (next ∷ left)

abbrev pub passes_by : Form → Placement → List Pass
passes_by (form.Moved pre main post) place = passes_from place.slot (moved_insns place.insn place.at place.slot)
passes_by form.Keep place = []
passes_by (form.InPlace bytes) place = []
passes_by form.Unmovable place = []

abbrev pub passes_of : Placement → List Pass
passes_of place = passes_by place.form place

-- the bytes are spelled by valid instructions
abbrev pub IsSpelled : List ℕ → Type 0
IsSpelled bytes = (insns : List Insn) × AllValid insns × (bytes ≡ spelled_bytes insns)

-- those of the instructions that spell the bytes are put behind others
unfoldable pub AddsPasses : ℕ → List ℕ → List Pass → List Pass → Type 0
AddsPasses at bytes old new =
    (insns : List Insn) → AllValid insns → bytes ≡ spelled_bytes insns → new ≡ old ++ passes_from at insns

-- ---- VMFUNC

-- where three NOPs stand in place of VMFUNC
abbrev pub vmfunc_at : Insn → ℕ → List ℕ
vmfunc_at insn at = if is_vmfunc insn.op then at ∷ [] else []

abbrev pub vmfuncs_by : Form → Placement → List ℕ
vmfuncs_by (form.InPlace bytes) place = vmfunc_at place.insn place.at
vmfuncs_by form.Keep place = []
vmfuncs_by (form.Moved pre main post) place = []
vmfuncs_by form.Unmovable place = []

abbrev pub vmfuncs_of : Placement → List ℕ
vmfuncs_of place = vmfuncs_by place.form place
