-- Which instruction of the opcode maps an `Insn` is: its opcode says so, and in a group the reg field of ModRM too.
use Rattle.std.specs.Prelude.{◌≡◌, ℕ, Option, Some, None}
use Rattle.sb_insn.specs.declared.insn.Insn.{Insn}
use Rattle.sb_insn.specs.declared.opcode_map.Instruction.{Instruction}
use Rattle.sb_insn.specs.declared.opcode_map.OperandForm.{OperandForm}
use Rattle.sb_insn.specs.declared.opcode_map.ImmRule.{ImmRule}
use Rattle.sb_insn.specs.declared.opcode_map.ModRmOpcode.{ModRmOpcode}
use Rattle.sb_insn.specs.declared.opcode_map.Group.{Group}
use Rattle.sb_insn.specs.declared.opcode_map.Cell.{Cell}
use Rattle.sb_insn.specs.declared.opcode_map.Cell.TheVariants.{Absent, NoModRm, ModRm, Extended}
use Rattle.sb_insn.specs.OpcodeMap.{cell_of}
use Rattle.sb_insn.specs.Groups.{group_operand, modrm_opcode}
use Rattle.sb_insn.specs.Fields.{reg_field}
use Rattle.sb_insn.specs.Grammar.{IsValid}

-- the instruction of an opcode, if there is one
abbrev pub named_instruction : Option ModRmOpcode → Option Instruction
named_instruction None = None
named_instruction (Some opcode) = Some opcode.instruction

-- the instruction of a group: the reg field decides
abbrev pub extended_instruction : Group → OperandForm → ImmRule → Option ℕ → Option Instruction
extended_instruction group form imm None = None
extended_instruction group form imm (Some modrm) = named_instruction (group_operand group form imm (reg_field modrm))

abbrev pub instruction_in : Cell → Option ℕ → Option Instruction
instruction_in Absent modrm = None
instruction_in (NoModRm opcode) modrm = Some opcode.instruction
instruction_in (ModRm opcode) modrm = Some opcode.instruction
instruction_in (Extended group form imm) modrm = extended_instruction group form imm modrm

-- which instruction of the maps it is, if it is one
unfoldable pub instruction_of : Insn → Option Instruction
instruction_of insn = instruction_in (cell_of insn.op) insn.modrm

abbrev pub modrm_opcode_in : Cell → Option ℕ → Option ModRmOpcode
modrm_opcode_in cell None = None
modrm_opcode_in cell (Some modrm) = modrm_opcode cell (reg_field modrm)

-- what the maps say of its ModRM byte, if one stands that they know
unfoldable pub modrm_opcode_of : Insn → Option ModRmOpcode
modrm_opcode_of insn = modrm_opcode_in (cell_of insn.op) insn.modrm

-- the instruction is one of the maps
abbrev pub IsInMaps : Insn → Type 0
IsInMaps insn = (instruction : Instruction) × (instruction_of insn ≡ Some instruction)

-- a valid instruction is one of the maps
abbrev pub ValidInMaps : Type 0
ValidInMaps = (insn : Insn) → IsValid insn → IsInMaps insn
