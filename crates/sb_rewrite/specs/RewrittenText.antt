-- What rewriting gives: the bytes of the text and of the rewrite area, and which instruction is where.
use Rattle.std.specs.Prelude.{◌≡◌, ◌⊎◌, ℕ, ◌+◌, ◌-◌, ◌<◌, ◌≤◌, List, [], ◌∷◌, ◌++◌, length, map, flat_map, replicate, Contains, Option, Some, None}
use Rattle.std.specs.List.Sorted.{IsStrictlyIncreasing}
use Rattle.sb_insn.specs.declared.insn.Insn.{Insn}
use Rattle.sb_insn.specs.Spelling.{spelling}
use Rattle.sb_forms.specs.declared.answer.Form.{Form}
use Rattle.sb_forms.specs.declared.answer.Form.TheVariants as form
use Rattle.sb_forms.specs.Pieces.{jump_insn}
use Rattle.sb_rewrite.specs.declared.edit.Edit.{Edit}
use Rattle.sb_rewrite.specs.declared.edit.Move.{Move}
use Rattle.sb_slots.specs.declared.slot.Slot.{Slot}
use Rattle.sb_slots.specs.declared.slot.Pass.{Pass}
use Rattle.sb_slots.specs.TextMap.{TextMap, map_from_parts}
use Rattle.sb_rewrite.specs.Placing.{Placement, slot_bytes}
use Rattle.sb_rewrite.specs.Slots.{slots_of, passes_of, vmfuncs_of}

-- a jump to the slot, and NOPs for the further bytes of the instruction
abbrev pub jump_bytes : Placement → List ℕ
jump_bytes place = spelling (jump_insn place.at place.slot) ++ replicate (length (spelling place.insn) - 5) 0x90

-- what stands in the text where the instruction stood
abbrev pub text_bytes_by : Form → Placement → List ℕ
text_bytes_by form.Keep place = spelling place.insn
text_bytes_by (form.InPlace bytes) place = bytes
text_bytes_by (form.Moved pre main post) place = jump_bytes place
text_bytes_by form.Unmovable place = spelling place.insn

abbrev pub text_bytes : Placement → List ℕ
text_bytes place = text_bytes_by place.form place

-- what stands in the area
abbrev pub area_bytes : Placement → List ℕ
area_bytes place = slot_bytes place.form

-- the edit of an instruction that is moved to a slot with so many bytes
abbrev pub moved_edit : Insn → ℕ → ℕ → ℕ → Edit
moved_edit insn at slot size = record { at = at; old_len = length (spelling insn); slot = Some (slot, size) }

-- the start's edit, if its bytes were not kept
abbrev pub edits_by : Form → Placement → List Edit
edits_by (form.InPlace bytes) place = record { at = place.at; old_len = length (spelling place.insn); slot = None } ∷ []
edits_by (form.Moved pre main post) place =
    moved_edit place.insn place.at place.slot (length (pre ++ (main ++ post))) ∷ []
edits_by form.Keep place = []
edits_by form.Unmovable place = []

abbrev pub edits_of : Placement → List Edit
edits_of place = edits_by place.form place

-- where the main of a moved instruction stands
abbrev pub moves_by : Form → Placement → List Move
moves_by (form.Moved pre main post) place = record { start = place.at; main = place.slot + length pre } ∷ []
moves_by form.Keep place = []
moves_by (form.InPlace bytes) place = []
moves_by form.Unmovable place = []

abbrev pub moves_of : Placement → List Move
moves_of place = moves_by place.form place

pub record RewrittenText : Type 0 where
  pub text : List ℕ
  pub area : List ℕ
  pub starts : List ℕ
  pub edits : List Edit
  pub moves : List Move
  pub slots : List Slot
  pub passes : List Pass
  pub vmfuncs : List ℕ

abbrev pub starts_of : List Placement → List ℕ
starts_of places = map (λ place. place.at) places

-- what instructions in their places give
abbrev pub rewritten_text : List Placement → RewrittenText
rewritten_text places = record {
  text = flat_map text_bytes places;
  area = flat_map area_bytes places;
  starts = starts_of places;
  edits = flat_map edits_of places;
  moves = flat_map moves_of places;
  slots = flat_map slots_of places;
  passes = flat_map passes_of places;
  vmfuncs = flat_map vmfuncs_of places;
}

-- these bytes and lists
abbrev pub text_from_parts : List ℕ → List ℕ → List ℕ → List Edit → List Move → List Slot → List Pass → List ℕ → RewrittenText
text_from_parts text area starts edits moves slots passes vmfuncs = record {
  text = text;
  area = area;
  starts = starts;
  edits = edits;
  moves = moves;
  slots = slots;
  passes = passes;
  vmfuncs = vmfuncs;
}

-- where its instructions stand
abbrev pub map_of : RewrittenText → TextMap
map_of made = map_from_parts made.starts (length made.text) (length made.area) made.slots made.passes made.vmfuncs

-- the address is one of those from the least to before the end
abbrev pub IsBetween : ℕ → ℕ → ℕ → Type 0
IsBetween least end at = (least ≤ at) × (at < end)

-- Starts come in order, and so do moves and slots, by their starts and by their mains, and the addresses of instructions that
-- have a next one in their slot, and those of the NOPs in place of VMFUNC.
pub record IsOrdered (made : RewrittenText) : Type 0 where
  pub starts : IsStrictlyIncreasing made.starts
  pub moved : IsStrictlyIncreasing (map (λ one. one.start) made.moves)
  pub mains : IsStrictlyIncreasing (map (λ one. one.main) made.moves)
  pub slots : IsStrictlyIncreasing (map (λ slot. slot.start) made.slots)
  pub slot_mains : IsStrictlyIncreasing (map (λ slot. slot.main) made.slots)
  pub passes : IsStrictlyIncreasing (map (λ pass. pass.from) made.passes)
  pub vmfuncs : IsStrictlyIncreasing made.vmfuncs

-- ---- which original instruction runs at an address

-- the instruction at the start was moved, and its main stands at the address
abbrev pub IsMain : RewrittenText → ℕ → ℕ → Type 0
IsMain made at start = Contains made.moves (record { start = start; main = at })

-- the instruction at the start was moved
abbrev pub IsMoved : RewrittenText → ℕ → Type 0
IsMoved made start = (main : ℕ) × IsMain made main start

-- at the address an instruction starts that was kept or rewritten in place
abbrev pub IsInPlace : RewrittenText → ℕ → Type 0
IsInPlace made at = Contains made.starts at × ¬ IsMoved made at

-- the instruction that starts there is what runs at the address
abbrev pub RunsAt : RewrittenText → ℕ → ℕ → Type 0
RunsAt made at start = ((start ≡ at) × IsInPlace made at) ⊎ IsMain made at start

-- the start of the moved instruction whose main stands at the address, None where none does
abbrev pub IsMovedTo : RewrittenText → ℕ → Option ℕ → Type 0
IsMovedTo made at (Some start) = IsMain made at start
IsMovedTo made at None = (start : ℕ) → ¬ IsMain made at start

-- the start whose instruction runs at the address, None where none does
abbrev pub IsOriginal : RewrittenText → ℕ → Option ℕ → Type 0
IsOriginal made at (Some start) = RunsAt made at start
IsOriginal made at None = (start : ℕ) → ¬ RunsAt made at start
