-- Opcodes that the reg field of ModRM extends (SDM volume 2, table A-6), and what ModRM means behind any opcode.
use Rattle.std.specs.Prelude.{ℕ, ◌==◌, if◌then◌else◌, List, [], ◌∷◌, Option, Some, None}
use Rattle.sb_insn.specs.declared.opcode_map.Mnemonic.TheVariants.{Add, Or, And, Sub, Xor, Cmp, Test, Mov, Not, Neg, Shl, Shr, Sar, Inc, Dec, Push, Jmp, Call, Nop}
use Rattle.sb_insn.specs.declared.opcode_map.OperandForm.{OperandForm}
use Rattle.sb_insn.specs.declared.opcode_map.OperandForm.TheVariants.{RmImm}
use Rattle.sb_insn.specs.declared.opcode_map.ImmRule.{ImmRule}
use Rattle.sb_insn.specs.declared.opcode_map.ImmRule.TheVariants as imm_rule
use Rattle.sb_insn.specs.declared.opcode_map.ModRmOpcode.{ModRmOpcode}
use Rattle.sb_insn.specs.declared.opcode_map.Group.{Group}
use Rattle.sb_insn.specs.declared.opcode_map.Group.TheVariants.{Group1, Group2, Group3, Group5, Group11, Group16}
use Rattle.sb_insn.specs.declared.opcode_map.Cell.{Cell}
use Rattle.sb_insn.specs.declared.opcode_map.Cell.TheVariants.{Absent, NoModRm, ModRm, Extended}
use Rattle.sb_insn.specs.OpcodeMap.{lockable, not_lockable}

-- a row of a group: what this reg field makes of the opcode
pub record Extension : Type 0 where
  pub digit : ℕ
  pub operand : ModRmOpcode

abbrev pub extension : ℕ → ModRmOpcode → Extension
extension digit operand = record { digit = digit; operand = operand }

-- the first row of the reg field
abbrev pub extended_by : ℕ → List Extension → Option ModRmOpcode
extended_by reg [] = None
extended_by reg (row ∷ rows) = if reg == row.digit then Some row.operand else extended_by reg rows

-- the rows of a group; its operands and its immediate are those of the opcode, but for TEST
abbrev pub extensions : Group → OperandForm → ImmRule → List Extension
extensions Group1 form imm =
    extension 0 (lockable Add form imm)
    ∷ extension 1 (lockable Or form imm)
    ∷ extension 4 (lockable And form imm)
    ∷ extension 5 (lockable Sub form imm)
    ∷ extension 6 (lockable Xor form imm)
    ∷ extension 7 (not_lockable Cmp form imm)
    ∷ []
extensions Group2 form imm =
    extension 4 (not_lockable Shl form imm)
    ∷ extension 5 (not_lockable Shr form imm)
    ∷ extension 7 (not_lockable Sar form imm)
    ∷ []
extensions Group3 form imm =
    extension 0 (not_lockable Test RmImm imm_rule.I32)
    ∷ extension 2 (lockable Not form imm)
    ∷ extension 3 (lockable Neg form imm)
    ∷ []
extensions Group5 form imm =
    extension 0 (lockable Inc form imm)
    ∷ extension 1 (lockable Dec form imm)
    ∷ extension 2 (not_lockable Call form imm)
    ∷ extension 4 (not_lockable Jmp form imm)
    ∷ extension 6 (not_lockable Push form imm)
    ∷ []
extensions Group11 form imm = extension 0 (not_lockable Mov form imm) ∷ []
extensions Group16 form imm = extension 0 (not_lockable Nop form imm) ∷ []

unfoldable pub group_operand : Group → OperandForm → ImmRule → ℕ → Option ModRmOpcode
group_operand group form imm reg = extended_by reg (extensions group form imm)

-- what a ModRM byte with this reg field means behind an opcode
abbrev pub modrm_opcode : Cell → ℕ → Option ModRmOpcode
modrm_opcode Absent reg = None
modrm_opcode (NoModRm opcode) reg = None
modrm_opcode (ModRm opcode) reg = Some opcode
modrm_opcode (Extended group form imm) reg = group_operand group form imm reg
