-- The registers that the fields of an instruction name, by their numbers, 0 to 15.
use Rattle.std.specs.Prelude.{ℕ, ◌+◌, ◌*◌, ◌%◌, Option, Some, None, unwrap_or}
use Rattle.sb_insn.specs.declared.insn.Insn.{Insn}
use Rattle.sb_insn.specs.declared.insn.Op.{Op}
use Rattle.sb_insn.specs.declared.insn.Op.TheVariants.{One, Two, Endbr, Vmfunc}
use Rattle.sb_insn.specs.Fields.{reg_field, rm_field, index, base, rex_r, rex_x, rex_b}

-- a field of three bits and the bit of REX that extends it
abbrev pub register_number : ℕ → ℕ → ℕ
register_number field extension = field + 8 * extension

-- the ModRM byte, 0 where none stands
abbrev pub modrm_of : Insn → ℕ
modrm_of insn = unwrap_or insn.modrm 0

-- the last byte of the opcode
abbrev pub last_opcode_byte : Op → ℕ
last_opcode_byte (One opcode) = opcode
last_opcode_byte (Two opcode) = opcode
last_opcode_byte Endbr = 0xFA
last_opcode_byte Vmfunc = 0xD4

-- the register that reg names
abbrev pub reg_number : Insn → ℕ
reg_number insn = register_number (reg_field (modrm_of insn)) (rex_r insn.rex)

-- the register in the opcode
abbrev pub opcode_number : Insn → ℕ
opcode_number insn = register_number (last_opcode_byte insn.op % 8) (rex_b insn.rex)

-- the register that rm names, if a ModRM byte stands
abbrev pub rm_number : Option ℕ → Option ℕ → Option ℕ
rm_number None rex = None
rm_number (Some modrm) rex = Some (register_number (rm_field modrm) (rex_b rex))

-- the register that the base of SIB names, if an SIB byte stands
abbrev pub base_number : Option ℕ → Option ℕ → Option ℕ
base_number None rex = None
base_number (Some sib) rex = Some (register_number (base sib) (rex_b rex))

-- the register that the index of SIB names, if an SIB byte stands
abbrev pub index_number : Option ℕ → Option ℕ → Option ℕ
index_number None rex = None
index_number (Some sib) rex = Some (register_number (index sib) (rex_x rex))
