-- Laws of the table of forms: what it is asked for, which helpers are free, and how long the forms are.
use Rattle.std.specs.Prelude.{◌≡◌, ℕ, ◌==◌, Bool, true, false, Some, Option}
use Rattle.sb_insn.specs.declared.insn.Insn.{Insn}
use Rattle.sb_insn.specs.declared.insn.Imm.{Imm}
use Rattle.sb_insn.specs.declared.insn.Imm.TheVariants as imm
use Rattle.sb_insn.specs.declared.insn.Op.TheVariants.{Vmfunc}
use Rattle.sb_insn.specs.declared.opcode_map.Instruction.{Instruction}
use Rattle.sb_insn.specs.declared.opcode_map.OperandForm.{OperandForm}
use Rattle.sb_insn.specs.Spelling.{spelling}
use Rattle.sb_insn.specs.Branch.{is_distance}
use Rattle.sb_insn.specs.Lookup.{instruction_of}
use Rattle.sb_insn.specs.Grammar.{IsValid}
use Rattle.sb_forms.specs.Registers.{number_of, is_named, first_helper, second_helper}
use Rattle.sb_scan.specs.Pattern.{HasPatternAt}
use Rattle.sb_forms.specs.Places.{HasForm}
use Rattle.sb_forms.specs.Immediates.{has_table_row, is_move_to_opcode}
use Rattle.sb_insn.specs.Fields.{has_memory}
use Rattle.sb_forms.specs.Table.{form_of}
use Rattle.sb_forms.specs.Answers.{IsSmall}

-- ---- what the table is asked for

-- By the immediate. With none or one of a byte there is a memory operand. One of four bytes stands in a row of the last
-- form's table, or is a distance. One of eight bytes is that of MOV to the register in the opcode.
abbrev pub HasTableRow : Option ℕ → Instruction → Imm → Type 0
HasTableRow modrm instruction imm.None = has_memory modrm ≡ true
HasTableRow modrm instruction (imm.I8 value) = has_memory modrm ≡ true
HasTableRow modrm instruction (imm.I32 value) = has_table_row instruction.mnemonic instruction.form ≡ true
HasTableRow modrm instruction (imm.I64 value) =
    (has_memory modrm ≡ false) × (is_move_to_opcode instruction.mnemonic instruction.form ≡ true)

-- the opcode maps list the instruction, and the table has a row for it; one with a form has no distance
pub record IsForeseen (insn : Insn) : Type 0 where
  pub instruction : Instruction
  pub listed : instruction_of insn ≡ Some instruction
  pub row : HasTableRow insn.modrm instruction insn.imm
  pub no_distance : HasForm insn → is_distance instruction.form ≡ false

-- The table is asked for no instruction but those: none of its cases for others comes.
abbrev pub HeldForeseen : Type 0
HeldForeseen = (insn : Insn) (place : ℕ) → IsValid insn → ¬ (insn.op ≡ Vmfunc) → HasPatternAt (spelling insn) place
    → IsForeseen insn

-- ---- helpers

-- both helpers of a valid instruction are registers that it does not name, and they differ
pub record HelpersFree (form : OperandForm) (insn : Insn) : Type 0 where
  pub first : is_named form insn (number_of (first_helper form insn)) ≡ false
  pub second : is_named form insn (number_of (second_helper form insn)) ≡ false
  pub differ : (number_of (first_helper form insn) == number_of (second_helper form insn)) ≡ false

abbrev pub Helpers : Type 0
Helpers = (form : OperandForm) (insn : Insn) → IsValid insn → HelpersFree form insn

-- ---- sizes

-- each form of a valid instruction has a slot of 74 bytes at most
abbrev pub FormsSmall : Type 0
FormsSmall = (insn : Insn) (at slot : ℕ) (after_0f : Bool) → IsValid insn → IsSmall (form_of insn at slot after_0f)
