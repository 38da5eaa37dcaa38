-- No opcode with a ModRM byte has a distance, so the opcode alone tells whether it is a direct jump or call.
use Rattle.std.proofs.Common.{◌≡◌, ℕ, Bool, true, false, Option, Some, None, refl}
use Rattle.std.specs.Prelude.{not}
use Rattle.std.proofs.lemmas.Bool.{not-true}
use Rattle.sb_insn.specs.declared.insn.Insn.{Insn}
use Rattle.sb_insn.specs.declared.insn.Op.{Op}
use Rattle.sb_insn.specs.declared.insn.Op.TheVariants.{One, Two, Endbr, Vmfunc}
use Rattle.sb_insn.specs.declared.opcode_map.OperandForm.{OperandForm}
use Rattle.sb_insn.specs.declared.opcode_map.ImmRule.{ImmRule}
use Rattle.sb_insn.specs.declared.opcode_map.ModRmOpcode.{ModRmOpcode}
use Rattle.sb_insn.specs.declared.opcode_map.Group.{Group}
use Rattle.sb_insn.specs.declared.opcode_map.Group.TheVariants.{Group1, Group2, Group3, Group5, Group11, Group16}
use Rattle.sb_insn.specs.declared.opcode_map.Cell.{Cell}
use Rattle.sb_insn.specs.declared.opcode_map.Cell.TheVariants.{Absent, NoModRm, ModRm, Extended}
use Rattle.sb_insn.specs.OpcodeMap.{one_byte_rows, two_byte_rows, one_byte, two_byte, cell_of}
use Rattle.sb_insn.specs.Groups.{extended_by, extensions, group_operand}
use Rattle.sb_insn.specs.Fields.{reg_field}
use Rattle.sb_insn.specs.Lookup.{named_instruction, instruction_in, instruction_of}
use Rattle.sb_insn.specs.Branch.{is_distance, is_relative, is_direct}
use Rattle.sb_insn.proofs.Rows.{looked_up, every_extension, some_holds, extended}

-- it has operands, and no distance
abbrev has_operands : ModRmOpcode → Bool
has_operands opcode = not (is_distance opcode.instruction.form)

-- an opcode with a ModRM byte has operands
abbrev tells_alone : Cell → Bool
tells_alone Absent = true
tells_alone (NoModRm opcode) = true
tells_alone (ModRm opcode) = has_operands opcode
tells_alone (Extended group form imm) = not (is_distance form)

cells_tell : (op : Op) → tells_alone (cell_of op) ≡ true
unfolding one_byte two_byte
cells_tell (One opcode) = looked_up tells_alone opcode one_byte_rows refl refl
cells_tell (Two opcode) = looked_up tells_alone opcode two_byte_rows refl refl
cells_tell Endbr = refl
cells_tell Vmfunc = refl

-- the opcode has a distance
abbrev pub is_direct_cell : Cell → Bool
is_direct_cell Absent = false
is_direct_cell (NoModRm opcode) = is_distance opcode.instruction.form
is_direct_cell (ModRm opcode) = false
is_direct_cell (Extended group form imm) = false

rows_tell : (group : Group) (form : OperandForm) (imm : ImmRule) → not (is_distance form) ≡ true
    → every_extension has_operands (extensions group form imm) ≡ true
rows_tell Group1 form imm e = rw e refl
rows_tell Group2 form imm e = rw e refl
rows_tell Group3 form imm e = rw e refl
rows_tell Group5 form imm e = rw e refl
rows_tell Group11 form imm e = rw e refl
rows_tell Group16 form imm e = rw e refl

none_relative : (opcode : Option ModRmOpcode) → some_holds has_operands opcode ≡ true
    → is_relative (named_instruction opcode) ≡ false
none_relative None e = refl
none_relative (Some opcode) e = not-true (is_distance opcode.instruction.form) e

by_cell : (cell : Cell) (modrm : Option ℕ) → tells_alone cell ≡ true → is_relative (instruction_in cell modrm) ≡ is_direct_cell cell
unfolding group_operand
by_cell Absent modrm e = refl
by_cell (NoModRm opcode) modrm e = refl
by_cell (ModRm opcode) modrm e = not-true (is_distance opcode.instruction.form) e
by_cell (Extended group form imm) None e = refl
by_cell (Extended group form imm) (Some modrm) e =
    none_relative (extended_by (reg_field modrm) (extensions group form imm))
    (extended has_operands (reg_field modrm) (extensions group form imm) (rows_tell group form imm e))

pub direct_by_cell : (insn : Insn) → is_direct insn ≡ is_direct_cell (cell_of insn.op)
unfolding instruction_of
direct_by_cell insn = by_cell (cell_of insn.op) insn.modrm (cells_tell insn.op)
