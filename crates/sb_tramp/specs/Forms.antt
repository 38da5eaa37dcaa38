-- The forms of the trampoline's instructions: their fields from left to right, as they are encoded.
use Rattle.std.specs.Prelude.{ℕ, ◌-◌, true, false, Option, Some, None, ℤ, pos, negsuc}
use Rattle.sb_insn.specs.declared.insn.Insn.{Insn}
use Rattle.sb_insn.specs.declared.insn.Op.{Op}
use Rattle.sb_insn.specs.declared.insn.Op.TheVariants.{One}
use Rattle.sb_insn.specs.declared.insn.Disp.TheVariants as disp
use Rattle.sb_insn.specs.declared.insn.Imm.TheVariants as imm

-- the number -count, for a count of 1 and more
abbrev pub minus : ℕ → ℤ
minus count = negsuc (count - 1)

-- ---- no ModRM byte

abbrev pub opcode_alone : Op → Insn
opcode_alone op = record { lock = false; rex = None; op = op; modrm = None; sib = None; disp = disp.None; imm = imm.None }

-- an opcode and one byte behind it: the distance of a jump
abbrev pub jump : ℕ → ℤ → Insn
jump opcode distance = record (opcode_alone (One opcode)) { imm = imm.I8 distance }

-- an opcode and a number of four bytes
abbrev pub number_into : Option ℕ → ℕ → ℤ → Insn
number_into rex opcode value = record (opcode_alone (One opcode)) { rex = rex; imm = imm.I32 value }

-- ---- ModRM, and no memory operand or one at a register

abbrev pub with_modrm : Option ℕ → Op → ℕ → Insn
with_modrm rex op modrm = record (opcode_alone op) { rex = rex; modrm = Some modrm }

-- a count or a small number behind ModRM
abbrev pub with_byte : Option ℕ → Op → ℕ → ℤ → Insn
with_byte rex op modrm value = record (with_modrm rex op modrm) { imm = imm.I8 value }

-- a displacement of one byte
abbrev pub with_disp : Option ℕ → Op → ℕ → ℤ → Insn
with_disp rex op modrm distance = record (with_modrm rex op modrm) { disp = disp.D8 distance }

-- a displacement of one byte behind SIB
abbrev pub with_sib : Option ℕ → Op → ℕ → ℕ → ℤ → Insn
with_sib rex op modrm sib distance = record (with_disp rex op modrm distance) { sib = Some sib }

-- ---- memory at an address: SIB 25 is no base and no index

abbrev pub at_address : Option ℕ → Op → ℕ → ℕ → Insn
at_address rex op modrm address = record (with_modrm rex op modrm) { sib = Some 0x25; disp = disp.D32 (pos address) }

-- the same with LOCK
abbrev pub locked_at_address : Option ℕ → Op → ℕ → ℕ → Insn
locked_at_address rex op modrm address = record (at_address rex op modrm address) { lock = true }
