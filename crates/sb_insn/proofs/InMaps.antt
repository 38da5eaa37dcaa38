-- A valid instruction is one that the opcode maps list.
use Rattle.std.proofs.Common.{◌≡◌, ℕ, Bool, true, Option, Some, None, refl}
use Rattle.sb_insn.specs.declared.opcode_map.Instruction.{Instruction}
use Rattle.sb_insn.specs.declared.opcode_map.ModRmOpcode.{ModRmOpcode}
use Rattle.sb_insn.specs.declared.opcode_map.Cell.{Cell}
use Rattle.sb_insn.specs.declared.opcode_map.Cell.TheVariants.{Absent, NoModRm, ModRm, Extended}
use Rattle.sb_insn.specs.OpcodeMap.{cell_of}
use Rattle.sb_insn.specs.Groups.{group_operand}
use Rattle.sb_insn.specs.Fields.{is_modrm_field, some_permits, reg_field}
use Rattle.sb_insn.specs.Lookup.{named_instruction, instruction_in, instruction_of, ValidInMaps}

-- an opcode that permits a ModRM byte is there
operand_named : (opcode : Option ModRmOpcode) (lock : Bool) (rex : Option ℕ) (modrm : ℕ)
    → some_permits opcode lock rex modrm ≡ true
    → (instruction : Instruction) × (named_instruction opcode ≡ Some instruction)
operand_named None lock rex modrm e = absurd cc
operand_named (Some opcode) lock rex modrm e = (opcode.instruction, refl)

cell_in_maps : (cell : Cell) (lock : Bool) (rex modrm : Option ℕ) → is_modrm_field cell lock rex modrm ≡ true
    → (instruction : Instruction) × (instruction_in cell modrm ≡ Some instruction)
cell_in_maps Absent lock rex None e = absurd cc
cell_in_maps Absent lock rex (Some modrm) e = absurd cc
cell_in_maps (NoModRm opcode) lock rex modrm e = (opcode.instruction, refl)
cell_in_maps (ModRm opcode) lock rex modrm e = (opcode.instruction, refl)
cell_in_maps (Extended group form imm) lock rex None e = absurd cc
cell_in_maps (Extended group form imm) lock rex (Some modrm) e =
    operand_named (group_operand group form imm (reg_field modrm)) lock rex modrm e

pub valid_in_maps : ValidInMaps
unfolding instruction_of
valid_in_maps insn valid = cell_in_maps (cell_of insn.op) insn.lock insn.rex insn.modrm valid.modrm
