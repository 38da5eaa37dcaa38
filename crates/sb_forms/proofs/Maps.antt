-- What the opcode maps say of every valid instruction.
use Rattle.std.proofs.Common.{◌≡◌, ℕ, ◌+◌, ◌≤◌, Bool, true, false, ◌&&◌, length, Option, Some, None, refl, ap, arith, ℤ}
use Rattle.std.specs.Prelude.{not}
use Rattle.std.proofs.lemmas.Bool.{and_parts, and_from, not-true, both_ways}
use Rattle.sb_insn.specs.declared.insn.Insn.{Insn}
use Rattle.sb_insn.specs.declared.insn.Op.{Op}
use Rattle.sb_insn.specs.declared.insn.Op.TheVariants.{One, Two, Endbr, Vmfunc}
use Rattle.sb_insn.specs.declared.insn.Imm.{Imm}
use Rattle.sb_insn.specs.declared.insn.Imm.TheVariants as imm
use Rattle.sb_insn.specs.declared.opcode_map.Mnemonic.{Mnemonic}
use Rattle.sb_insn.specs.declared.opcode_map.Mnemonic.TheVariants as mnemonic
use Rattle.sb_insn.specs.declared.opcode_map.ImmRule.{ImmRule}
use Rattle.sb_insn.specs.declared.opcode_map.ImmRule.TheVariants as rules
use Rattle.sb_insn.specs.declared.opcode_map.Instruction.{Instruction}
use Rattle.sb_insn.specs.declared.opcode_map.ModRmOpcode.{ModRmOpcode}
use Rattle.sb_insn.specs.declared.opcode_map.Cell.{Cell}
use Rattle.sb_insn.specs.declared.opcode_map.Cell.TheVariants.{Absent, NoModRm, ModRm, Extended}
use Rattle.sb_insn.specs.OpcodeMap.{one_byte, one_byte_rows, two_byte, two_byte_rows, cell_of}
use Rattle.sb_insn.specs.Groups.{extensions, group_operand, modrm_opcode}
use Rattle.sb_insn.specs.Spelling.{op_bytes, imm_bytes}
use Rattle.sb_insn.specs.Fields.{is_none, is_register, permits_rm, needs_rex, modrm_opcode_permits, some_permits, is_modrm_field, reg_field, operand_rule, rule_of, imm_kind_of, kind_of_imm, has_memory}
use Rattle.sb_insn.specs.Lookup.{named_instruction, instruction_in, instruction_of}
use Rattle.sb_insn.specs.Grammar.{IsValid}
use Rattle.sb_insn.proofs.Rows.{looked_up, every_extension, some_holds, extended}

-- ---- what holds of each operand in the maps

abbrev pub of_cell : (ModRmOpcode → Bool) → Cell → Bool
of_cell holds Absent = true
of_cell holds (NoModRm plain) = true
of_cell holds (ModRm operand) = holds operand
of_cell holds (Extended group form imm) = every_extension holds (extensions group form imm)

pub of_operand : (holds : ModRmOpcode → Bool) (cell : Cell) (reg : ℕ) → of_cell holds cell ≡ true
    → some_holds holds (modrm_opcode cell reg) ≡ true
unfolding group_operand
of_operand holds Absent reg e = refl
of_operand holds (NoModRm plain) reg e = refl
of_operand holds (ModRm operand) reg e = e
of_operand holds (Extended group form imm) reg e = extended holds reg (extensions group form imm) e

-- no eight bytes
abbrev pub narrow : ImmRule → Bool
narrow rules.Wide = false
narrow _ = true

abbrev pub is_narrow : ModRmOpcode → Bool
is_narrow operand = narrow operand.imm

-- no immediate
abbrev pub bare : ImmRule → Bool
bare rules.None = true
bare _ = false

abbrev pub is_bare : ModRmOpcode → Bool
is_bare operand = bare operand.imm

abbrev is_imul : Mnemonic → Bool
is_imul mnemonic.Imul = true
is_imul _ = false

-- no IMUL that LOCK may stand before
abbrev is_lockable : ModRmOpcode → Bool
is_lockable operand = not (operand.lock && is_imul operand.instruction.mnemonic)

pub one_narrow : (opcode : ℕ) → of_cell is_narrow (one_byte opcode) ≡ true
unfolding one_byte
one_narrow opcode = looked_up (λ cell. of_cell is_narrow cell) opcode one_byte_rows refl refl

pub two_bare : (opcode : ℕ) → of_cell is_bare (two_byte opcode) ≡ true
unfolding two_byte
two_bare opcode = looked_up (λ cell. of_cell is_bare cell) opcode two_byte_rows refl refl

one_lockable : (opcode : ℕ) → of_cell is_lockable (one_byte opcode) ≡ true
unfolding one_byte
one_lockable opcode = looked_up (λ cell. of_cell is_lockable cell) opcode one_byte_rows refl refl

two_lockable : (opcode : ℕ) → of_cell is_lockable (two_byte opcode) ≡ true
unfolding two_byte
two_lockable opcode = looked_up (λ cell. of_cell is_lockable cell) opcode two_byte_rows refl refl

lockable : (op : Op) → of_cell is_lockable (cell_of op) ≡ true
lockable (One opcode) = one_lockable opcode
lockable (Two opcode) = two_lockable opcode
lockable Endbr = refl
lockable Vmfunc = refl

-- ---- LOCK never stands before IMUL

locked_row : (operand : ModRmOpcode) (rex : Option ℕ) (modrm : ℕ) → is_lockable operand ≡ true
    → modrm_opcode_permits operand true rex modrm ≡ true → operand.instruction.mnemonic ≡ mnemonic.Imul → ⊥
unfolding modrm_opcode_permits
locked_row operand rex modrm lockable e name =
    let parts =
    and_parts (operand.lock && not (is_register modrm))
    (permits_rm operand.rm modrm && not (is_none rex && needs_rex operand modrm)) e in
    let lock = (and_parts operand.lock (not (is_register modrm)) parts.0).0 in
    both_ways (operand.lock && is_imul operand.instruction.mnemonic)
    (not-true (operand.lock && is_imul operand.instruction.mnemonic) lockable)
    (and_from operand.lock (is_imul operand.instruction.mnemonic) lock (ap (λ m. is_imul m) name))

locked : (operand : Option ModRmOpcode) (rex : Option ℕ) (modrm : ℕ) (instruction : Instruction)
    → some_holds (λ row. is_lockable row) operand ≡ true → some_permits operand true rex modrm ≡ true
    → named_instruction operand ≡ Some instruction → instruction.mnemonic ≡ mnemonic.Imul → ⊥
locked None rex modrm instruction lockable e is name = cc
locked (Some operand) rex modrm instruction lockable e is name = locked_row operand rex modrm lockable e (cc)

unlocked_in : (cell : Cell) (lock : Bool) (rex modrm : Option ℕ) (instruction : Instruction) → of_cell is_lockable cell ≡ true
    → is_modrm_field cell lock rex modrm ≡ true
    → instruction_in cell modrm ≡ Some instruction → instruction.mnemonic ≡ mnemonic.Imul → lock ≡ false
unlocked_in cell false rex modrm instruction lockable e is name = refl
unlocked_in Absent true rex None instruction lockable e is name = absurd cc
unlocked_in Absent true rex (Some modrm) instruction lockable e is name = absurd cc
unlocked_in (NoModRm plain) true rex None instruction lockable e is name = absurd cc
unlocked_in (NoModRm plain) true rex (Some modrm) instruction lockable e is name = absurd cc
unlocked_in (ModRm operand) true rex None instruction lockable e is name = absurd cc
unlocked_in (ModRm operand) true rex (Some modrm) instruction lockable e is name =
    absurd (locked (Some operand) rex modrm instruction lockable e is name)
unlocked_in (Extended group form imm) true rex None instruction lockable e is name = absurd cc
unlocked_in (Extended group form imm) true rex (Some modrm) instruction lockable e is name =
    absurd (locked (group_operand group form imm (reg_field modrm)) rex modrm instruction
    (of_operand (λ row. is_lockable row) (Extended group form imm) (reg_field modrm) lockable) e is name)

pub imul_unlocked : (insn : Insn) (instruction : Instruction) → IsValid insn → instruction_of insn ≡ Some instruction
    → instruction.mnemonic ≡ mnemonic.Imul → insn.lock ≡ false
unfolding instruction_of
imul_unlocked insn instruction valid is name =
    unlocked_in (cell_of insn.op) insn.lock insn.rex insn.modrm instruction (lockable insn.op) valid.modrm is name

-- ---- behind a ModRM byte an immediate has four bytes at most, and none behind a two-byte opcode

wide : (rule : ImmRule) (value : ℤ) (rex : Option ℕ) → narrow rule ≡ true → kind_of_imm (imm.I64 value) ≡ imm_kind_of rule rex → ⊥
wide rules.None value rex e k = cc
wide rules.I8 value rex e k = cc
wide rules.I32 value rex e k = cc
wide rules.Wide value rex e k = cc

narrow_imm : (operand : Option ModRmOpcode) (immediate : Imm) (rex : Option ℕ) → some_holds (λ row. is_narrow row) operand ≡ true
    → kind_of_imm immediate ≡ imm_kind_of (operand_rule operand) rex → length (imm_bytes immediate) ≤ 4
narrow_imm operand imm.None rex e k = omega arith
narrow_imm operand (imm.I8 value) rex e k = omega arith
narrow_imm operand (imm.I32 value) rex e k = omega arith
narrow_imm None (imm.I64 value) rex e k = absurd cc
narrow_imm (Some operand) (imm.I64 value) rex e k = absurd (wide operand.imm value rex e k)

bare_rule : (rule : ImmRule) (immediate : Imm) (rex : Option ℕ) → bare rule ≡ true
    → kind_of_imm immediate ≡ imm_kind_of rule rex → length (imm_bytes immediate) ≡ 0
bare_rule rules.None imm.None rex e k = refl
bare_rule rules.None (imm.I8 value) rex e k = absurd cc
bare_rule rules.None (imm.I32 value) rex e k = absurd cc
bare_rule rules.None (imm.I64 value) rex e k = absurd cc
bare_rule rules.I8 immediate rex e k = absurd cc
bare_rule rules.I32 immediate rex e k = absurd cc
bare_rule rules.Wide immediate rex e k = absurd cc

pub bare_imm : (operand : Option ModRmOpcode) (immediate : Imm) (rex : Option ℕ) → some_holds (λ row. is_bare row) operand ≡ true
    → kind_of_imm immediate ≡ imm_kind_of (operand_rule operand) rex → length (imm_bytes immediate) ≡ 0
bare_imm None immediate rex e k = bare_rule rules.None immediate rex refl k
bare_imm (Some operand) immediate rex e k = bare_rule operand.imm immediate rex e k

short_in : (op : Op) (lock : Bool) (rex : Option ℕ) (modrm : ℕ) (immediate : Imm)
    → is_modrm_field (cell_of op) lock rex (Some modrm) ≡ true
    → kind_of_imm immediate ≡ imm_kind_of (operand_rule (modrm_opcode (cell_of op) (reg_field modrm))) rex
    → length (op_bytes op) + length (imm_bytes immediate) ≤ 5
short_in (One opcode) lock rex modrm immediate e k =
    omega (
      arith,
      narrow_imm (modrm_opcode (one_byte opcode) (reg_field modrm)) immediate rex
          (of_operand (λ row. is_narrow row) (one_byte opcode) (reg_field modrm) (one_narrow opcode)) k,
    )
short_in (Two opcode) lock rex modrm immediate e k =
    omega (
      arith,
      bare_imm (modrm_opcode (two_byte opcode) (reg_field modrm)) immediate rex
          (of_operand (λ row. is_bare row) (two_byte opcode) (reg_field modrm) (two_bare opcode)) k,
    )
short_in Endbr lock rex modrm immediate e k = absurd cc
short_in Vmfunc lock rex modrm immediate e k = absurd cc

short_by : (op : Op) (lock : Bool) (rex modrm : Option ℕ) (immediate : Imm) → has_memory modrm ≡ true
    → is_modrm_field (cell_of op) lock rex modrm ≡ true
    → kind_of_imm immediate ≡ imm_kind_of (rule_of (cell_of op) modrm) rex
    → length (op_bytes op) + length (imm_bytes immediate) ≤ 5
short_by op lock rex None immediate memory e k = absurd cc
short_by op lock rex (Some modrm) immediate memory e k = short_in op lock rex modrm immediate e k

-- an opcode and an immediate around a memory operand have five bytes at most
pub short_5 : (insn : Insn) → IsValid insn → has_memory insn.modrm ≡ true
    → length (op_bytes insn.op) + length (imm_bytes insn.imm) ≤ 5
short_5 insn valid memory = short_by insn.op insn.lock insn.rex insn.modrm insn.imm memory valid.modrm valid.imm
