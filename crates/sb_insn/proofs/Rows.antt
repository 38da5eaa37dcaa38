-- What holds of each row of a map, or of a group, holds of what is looked up there.
use Rattle.std.proofs.Common.{◌≡◌, ℕ, Bool, true, false, cond, ◌&&◌, List, [], ◌∷◌, Option, Some, None, refl}
use Rattle.std.proofs.lemmas.Bool.{and_parts}
use Rattle.std.specs.Prelude.{◌==◌}
use Rattle.sb_insn.specs.declared.opcode_map.ModRmOpcode.{ModRmOpcode}
use Rattle.sb_insn.specs.declared.opcode_map.Cell.{Cell}
use Rattle.sb_insn.specs.declared.opcode_map.Cell.TheVariants.{Absent}
use Rattle.sb_insn.specs.OpcodeMap.{OpcodeRow, is_of, look_up}
use Rattle.sb_insn.specs.Groups.{Extension, extended_by}

-- ---- maps

abbrev pub every : (Cell → Bool) → List OpcodeRow → Bool
every holds [] = true
every holds (row ∷ rows) = holds row.cell && every holds rows

pub looked_up : (holds : Cell → Bool) (opcode : ℕ) (rows : List OpcodeRow) → holds Absent ≡ true → every holds rows ≡ true
    → holds (look_up opcode rows) ≡ true
looked_up holds opcode [] absent e = absent
looked_up holds opcode (row ∷ rows) absent e =
    let parts = and_parts (holds row.cell) (every holds rows) e in
    let rest = looked_up holds opcode rows absent parts.1 in
    elim (is_of opcode row.opcodes) as (λ t. holds (cond t row.cell (look_up opcode rows))
    ≡ true) [ true ↦ parts.0 | false ↦ rest ]

-- ---- groups

abbrev pub every_extension : (ModRmOpcode → Bool) → List Extension → Bool
every_extension holds [] = true
every_extension holds (row ∷ rows) = holds row.operand && every_extension holds rows

-- it holds of the opcode, if there is one
abbrev pub some_holds : (ModRmOpcode → Bool) → Option ModRmOpcode → Bool
some_holds holds None = true
some_holds holds (Some opcode) = holds opcode

pub extended : (holds : ModRmOpcode → Bool) (reg : ℕ) (rows : List Extension) → every_extension holds rows ≡ true
    → some_holds holds (extended_by reg rows) ≡ true
extended holds reg [] e = refl
extended holds reg (row ∷ rows) e =
    let parts = and_parts (holds row.operand) (every_extension holds rows) e in
    let rest = extended holds reg rows parts.1 in
    elim (reg == row.digit) as (λ t. some_holds holds (cond t (Some row.operand) (extended_by reg rows))
    ≡ true) [ true ↦ parts.0 | false ↦ rest ]
