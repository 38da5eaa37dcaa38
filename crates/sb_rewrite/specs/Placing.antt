-- What stands in place of each instruction of a text, and where its slot in the rewrite area begins.
use Rattle.std.specs.Prelude.{ℕ, ◌+◌, ◌-◌, Bool, ◌&&◌, ◌==◌, nat_lt, List, [], ◌∷◌, ◌++◌, length, slice_index}
use Rattle.sb_abi.specs.declared.space.TheConstants.{AREA_ADDRESS}
use Rattle.sb_insn.specs.declared.insn.Insn.{Insn}
use Rattle.sb_insn.specs.Spelling.{spelling}
use Rattle.sb_forms.specs.declared.answer.Form.{Form}
use Rattle.sb_forms.specs.declared.answer.Form.TheVariants as form
use Rattle.sb_forms.specs.Table.{form_of}
use Rattle.sb_rewrite.specs.Listing.{text_address}

-- where the rewrite area begins
abbrev pub area_address : ℕ
area_address = AREA_ADDRESS

-- an instruction of a text, its address, where the next slot begins, and what stands in its place
pub record Placement : Type 0 where
  pub insn : Insn
  pub at : ℕ
  pub slot : ℕ
  pub form : Form

-- the bytes of a slot; only an instruction that is moved has one
abbrev pub slot_bytes : Form → List ℕ
slot_bytes (form.Moved pre main post) = pre ++ (main ++ post)
slot_bytes form.Keep = []
slot_bytes (form.InPlace bytes) = []
slot_bytes form.Unmovable = []

-- the byte before the address is 0F in the text; before the first one is none
abbrev pub is_after_0f : List ℕ → ℕ → Bool
is_after_0f text at = nat_lt text_address at && (slice_index text (at - text_address - 1) == 0x0F)

-- an instruction of the text at an address, with the next slot
abbrev pub place : List ℕ → ℕ → ℕ → Insn → Placement
place text at slot insn = record { insn = insn; at = at; slot = slot; form = form_of insn at slot (is_after_0f text at) }

-- Instructions of the text stand one after another from an address on, and so do their slots.
unfoldable pub places_from : List ℕ → ℕ → ℕ → List Insn → List Placement
places_from text at slot [] = []
places_from text at slot (insn ∷ insns) =
    place text at slot insn ∷ places_from text (at + length (spelling insn))
    (slot + length (slot_bytes (place text at slot insn).form)) insns

-- all instructions of the text
abbrev pub places : List ℕ → List Insn → List Placement
places text insns = places_from text text_address area_address insns
