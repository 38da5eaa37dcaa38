-- The fields of an instruction as numbers, and registers at a size (SDM volume 2, sections 2.1 and 2.2.1).
use Rattle.std.specs.Prelude.{ℕ, ◌+◌, ◌*◌, ◌/◌, ◌%◌, ◌^◌, ◌==◌, ◌<◌, if◌then◌else◌, length, slice_index, slice_set}
use Rattle.sb_insn.specs.declared.insn.Insn.{Insn}
use Rattle.sb_insn.specs.declared.registers.Regs.{Regs}
use Rattle.sb_insn.specs.Spelling.{spelling}
use Rattle.sb_insn.specs.Fields.{rm_field, rex_w, rex_b}
use Rattle.sb_insn.specs.RegisterNumbers.{register_number, modrm_of}
use Rattle.sb_alu.specs.declared.size.Size.{Size}
use Rattle.sb_alu.specs.declared.size.Size.TheVariants.{Byte, Doubleword, Quadword}
use Rattle.sb_exec.specs.declared.action.Location.{Location}
use Rattle.sb_exec.specs.declared.action.Location.TheVariants.{Register, Memory}
use Rattle.sb_alu.specs.Size.{low}

-- ---- fields

-- the register that rm names
abbrev pub rm_number : Insn → ℕ
rm_number insn = register_number (rm_field (modrm_of insn)) (rex_b insn.rex)

-- 64 bits with REX.W, else 32
abbrev pub operand_size : Insn → Size
operand_size insn = if rex_w insn.rex == 1 then Quadword else Doubleword

-- ---- the next instruction

-- the address of the next instruction
abbrev pub next_rip : Insn → Regs → ℕ
next_rip insn regs = (regs.rip + length (spelling insn)) % 2 ^ 64

-- ---- registers at a size

-- what a register holds
abbrev pub general : Regs → ℕ → ℕ
general regs number = slice_index regs.general number

-- the lowest bits of what a register holds
abbrev pub register_value : Size → ℕ → Regs → ℕ
register_value size number regs = low size (general regs number)

-- What a register holds after a value is written to it: 32 bits clear its upper half, a byte leaves the bits above it.
unfoldable pub register_after_write : Size → ℕ → ℕ → ℕ
register_after_write Byte old value = old / 256 * 256 + value % 256
register_after_write Doubleword old value = value % 2 ^ 32
register_after_write Quadword old value = value

-- the registers after a value of this size is written to one of them
abbrev pub with_register : Size → ℕ → ℕ → Regs → Regs
with_register size number value regs =
    record regs { general = slice_set regs.general number (register_after_write size (general regs number) value) }

-- ---- places

-- there are sixteen registers
abbrev pub IsPlace : Location → Type 0
IsPlace (Register number) = number < 16
IsPlace (Memory address) = Unit {0}

-- the value of an operand, whose bytes were loaded if it is in memory
abbrev pub operand_value : Size → Location → Regs → ℕ → ℕ
operand_value size (Register number) regs loaded = register_value size number regs
operand_value size (Memory address) regs loaded = low size loaded
