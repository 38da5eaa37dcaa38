-- A code that the table of forms has made of another.
use Rattle.std.specs.Prelude.{◌≡◌, ℕ, ◌+◌, Bool, [], ◌∷◌, ◌++◌, Option, Some, length}
use Rattle.sb_insn.specs.declared.insn.Insn.{Insn}
use Rattle.sb_insn.specs.declared.registers.Regs.{Regs}
use Rattle.sb_insn.specs.Spelling.{spelling}
use Rattle.sb_insn.specs.Grammar.{IsValid}
use Rattle.sb_exec.specs.Row.{Row}
use Rattle.sb_exec.specs.Rows.{row_of}
use Rattle.sb_forms.specs.declared.slots.Site.{Site}
use Rattle.sb_forms.specs.Pieces.{jump_insn}
use Rattle.sb_forms.specs.Places.{HasForm}
use Rattle.sb_forms.specs.Table.{Replacement, InPlace, Moved, replacement}
use Rattle.sb_forms.specs.Answers.{IsSite}
use Rattle.sb_original.specs.Going.{original_row}
use Rattle.sb_origin_run.specs.Machine.{Code}
use Rattle.sb_origin_run.specs.Position.{Position, Same, Changed, Entry, AtOnce, InPre, AtMain, InPost, Nowhere, in_pre, IsNext, HasNext, behind}

abbrev pub has_row : Insn → Option (Regs → Row)
has_row insn = Some (λ regs. row_of insn regs)

-- the table puts this in place of an instruction at an address
pub record IsReplaced (address : ℕ) (row : Regs → Row) (form : Replacement) : Type 0 where
  pub insn : Insn
  pub site : Site
  pub after_0f : Bool
  pub row_is : row ≡ original_row insn
  pub valid : IsValid insn
  pub has_form : HasForm insn
  pub place : IsSite site
  pub next : site.next ≡ address + length (spelling insn)
  pub made : replacement insn site after_0f ≡ form

-- what the two codes have at an address, by its position
abbrev pub IsPlaced : Code → Code → (ℕ → Position) → ℕ → Position → Type 0
IsPlaced target source place address Same = source address ≡ target address
IsPlaced target source place address Changed =
    (row : Regs → Row) × (main : Insn) × (source address ≡ Some row) × (target address ≡ has_row main)
    × IsReplaced address row (InPlace (main ∷ []))
IsPlaced target source place address (Entry slot) =
    (replaced : IsReplaced address slot.row (Moved slot.pre slot.main slot.post)) × (slot.start ≡ address)
    × (slot.at ≡ (replaced.site).slot)
    × (target address ≡ has_row (jump_insn address slot.at)) × (place slot.at ≡ in_pre slot [] slot.pre)
IsPlaced target source place address (AtOnce slot) =
    (source address ≡ Some slot.row) × (target address ≡ has_row slot.main)
    × HasNext place slot slot.post (behind address slot.main) × IsReplaced address slot.row (InPlace (slot.main ∷ slot.post))
IsPlaced target source place address (InPre slot done insn left) =
    (target address ≡ has_row insn) × (done ++ insn ∷ left ≡ slot.pre)
    × (place (behind address insn) ≡ in_pre slot (done ++ insn ∷ []) left)
IsPlaced target source place address (AtMain slot) =
    (source slot.start ≡ Some slot.row) × (target address ≡ has_row slot.main)
    × HasNext place slot slot.post (behind address slot.main)
IsPlaced target source place address (InPost slot insn left) =
    (target address ≡ has_row insn) × IsNext place slot left (behind address insn)
IsPlaced target source place address Nowhere = Unit {0}

-- at every address
abbrev pub IsMadeOf : Code → Code → (ℕ → Position) → Type 0
IsMadeOf target source place = (address : ℕ) → IsPlaced target source place address (place address)
