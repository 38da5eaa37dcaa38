-- Where each address lies in a rewritten text and its rewrite area.
use Rattle.std.specs.Prelude.{ℕ, ◌+◌, Bool, ◌&&◌, ◌==◌, nat_le, nat_lt, if◌then◌else◌, List, [], ◌∷◌, ◌++◌, length}
use Rattle.sb_insn.specs.declared.insn.Insn.{Insn}
use Rattle.sb_insn.specs.Spelling.{spelling}
use Rattle.sb_forms.specs.Answers.{area_end}
use Rattle.sb_forms.specs.Table.{Replacement, Keep, InPlace, Moved, Unmovable, replacement, bytes_of, site_of}
use Rattle.sb_rewrite.specs.Listing.{text_address}
use Rattle.sb_rewrite.specs.Placing.{area_address, slot_bytes, is_after_0f}
use Rattle.sb_original.specs.Going.{original_row}
use Rattle.sb_origin_run.specs.Position.{Slot, Position, Same, Changed, Entry, AtOnce, InPre, AtMain, InPost, Nowhere}

-- ---- slots

-- the slot at an address, for an instruction at another
abbrev pub slot_of : Insn → ℕ → ℕ → List Insn → Insn → List Insn → Slot
slot_of insn start at pre main post =
    record { start = start; row = λ regs. original_row insn regs; at = at; pre = pre; main = main; post = post }

-- an address among instructions of post that stand from `at` on
abbrev pub post_position : Slot → ℕ → List Insn → ℕ → Position
post_position slot at [] address = Nowhere
post_position slot at (insn ∷ left) address =
    if address == at then InPost slot insn left else post_position slot (at + length (spelling insn)) left address

-- an address among instructions of pre that stand from `at` on, behind those that are done, and what stands behind them
abbrev pub pre_position : Slot → List Insn → ℕ → List Insn → ℕ → Position
pre_position slot done at [] address =
    if address == at then AtMain slot else post_position slot (at + length (spelling slot.main)) slot.post address
pre_position slot done at (insn ∷ left) address =
    if address == at then InPre slot done insn left
    else pre_position slot (done ++ insn ∷ []) (at + length (spelling insn)) left address

-- ---- one instruction

-- an address where an instruction of the text stood
abbrev pub in_place : Replacement → Insn → ℕ → ℕ → ℕ → Position
in_place Keep insn at slot address = if address == at then Same else Nowhere
in_place (InPlace []) insn at slot address = Nowhere
in_place (InPlace (main ∷ [])) insn at slot address = if address == at then Changed else Nowhere
in_place (InPlace (main ∷ next ∷ left)) insn at slot address =
    if address == at then AtOnce (slot_of insn at at [] main (next ∷ left))
    else post_position (slot_of insn at at [] main (next ∷ left)) (at + length (spelling main)) (next ∷ left) address
in_place (Moved pre main post) insn at slot address =
    if address == at then Entry (slot_of insn at slot pre main post) else Nowhere
in_place Unmovable insn at slot address = Nowhere

-- an address in its slot
abbrev pub in_slot : Replacement → Insn → ℕ → ℕ → ℕ → Position
in_slot (Moved pre main post) insn at slot address = pre_position (slot_of insn at slot pre main post) [] slot pre address
in_slot Keep insn at slot address = Nowhere
in_slot (InPlace mains) insn at slot address = Nowhere
in_slot Unmovable insn at slot address = Nowhere

-- ---- all instructions of a text, from one on

-- what stands in place of one that is at an address, with the next slot
abbrev pub replacement_at : List ℕ → ℕ → ℕ → Insn → Replacement
replacement_at text at slot insn = replacement insn (site_of insn at slot) (is_after_0f text at)

-- the number of bytes of its slot
abbrev pub slot_size : Replacement → ℕ
slot_size form = length (slot_bytes (bytes_of form))

-- an address in the text
unfoldable pub text_position : List ℕ → ℕ → ℕ → List Insn → ℕ → Position
text_position text at slot [] address = Nowhere
text_position text at slot (insn ∷ insns) address =
    if nat_lt address (at + length (spelling insn)) then in_place (replacement_at text at slot insn) insn at slot address
    else text_position text (at + length (spelling insn)) (slot + slot_size (replacement_at text at slot insn)) insns address

-- an address in the area
unfoldable pub area_position : List ℕ → ℕ → ℕ → List Insn → ℕ → Position
area_position text at slot [] address = Nowhere
area_position text at slot (insn ∷ insns) address =
    if nat_lt address (slot + slot_size (replacement_at text at slot insn))
    then in_slot (replacement_at text at slot insn) insn at slot address
    else area_position text (at + length (spelling insn)) (slot + slot_size (replacement_at text at slot insn)) insns address

-- ---- all addresses

-- the address is one of the text's bytes
abbrev pub is_in_text : List ℕ → ℕ → Bool
is_in_text text address = nat_le text_address address && nat_lt address (text_address + length text)

-- the address is in the rewrite area
abbrev pub is_in_area : ℕ → Bool
is_in_area address = nat_le area_address address && nat_lt address area_end

-- where an address lies; outside of text and area both codes have the same
unfoldable pub position : List ℕ → List Insn → ℕ → Position
position text insns address =
    if is_in_text text address then text_position text text_address area_address insns address
    else if is_in_area address then area_position text text_address area_address insns address
    else Same
