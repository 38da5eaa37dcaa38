-- Where the operand is that ModRM names: a register, or memory at an address (SDM volume 2, tables 2-2 and 2-3).
use Rattle.std.specs.Prelude.{ℕ, ◌+◌, ◌*◌, ◌%◌, ◌^◌, ◌==◌, ◌&&◌, if◌then◌else◌, unwrap_or}
use Rattle.std.specs.Int.{w64, cast_unsigned}
use Rattle.sb_memory.specs.declared.address.Linear.{Linear}
use Rattle.sb_insn.specs.declared.insn.Insn.{Insn}
use Rattle.sb_insn.specs.declared.insn.Disp.{Disp}
use Rattle.sb_insn.specs.declared.insn.Disp.TheVariants as disp
use Rattle.sb_insn.specs.declared.registers.Regs.{Regs}
use Rattle.sb_insn.specs.Fields.{mod_field, rm_field, scale, index, base, rex_x, rex_b}
use Rattle.sb_insn.specs.RegisterNumbers.{register_number, modrm_of}
use Rattle.sb_exec.specs.declared.action.Location.{Location}
use Rattle.sb_exec.specs.declared.action.Location.TheVariants.{Register, Memory}
use Rattle.sb_exec.specs.Operand.{rm_number, general, next_rip}

-- ---- the SIB byte: scale, index and base

-- the SIB byte, 0 where there is none
abbrev pub sib_of : Insn → ℕ
sib_of insn = unwrap_or insn.sib 0

-- the register that index names; 4 is no index
abbrev pub index_number : Insn → ℕ
index_number insn = register_number (index (sib_of insn)) (rex_x insn.rex)

-- the register that base names
abbrev pub base_number : Insn → ℕ
base_number insn = register_number (base (sib_of insn)) (rex_b insn.rex)

-- the index times 1, 2, 4 or 8
abbrev pub scaled_index : Insn → Regs → ℕ
scaled_index insn regs =
    if index_number insn == 4 then 0
    else general regs (index_number insn) * 2 ^ scale (sib_of insn) % 2 ^ 64

-- the base; with mod 0 a base field of 5 is no base, whatever REX.B is
abbrev pub sib_base : Insn → Regs → ℕ
sib_base insn regs =
    if (mod_field (modrm_of insn) == 0) && (base (sib_of insn) == 5) then 0 else general regs (base_number insn)

-- ---- the address

-- the displacement, sign-extended to 64 bits
abbrev pub disp_value : Disp → ℕ
disp_value disp.None = 0
disp_value (disp.D8 value) = cast_unsigned w64 value
disp_value (disp.D32 value) = cast_unsigned w64 value

-- What the displacement is added to: the next instruction's address where mod is 0 and rm 5, base and index of an SIB
-- byte where rm is 4, else the register that rm names.
abbrev pub base_value : Insn → Regs → ℕ
base_value insn regs =
    if (mod_field (modrm_of insn) == 0) && (rm_field (modrm_of insn) == 5) then next_rip insn regs
    else if rm_field (modrm_of insn) == 4 then (sib_base insn regs + scaled_index insn regs) % 2 ^ 64
    else general regs (rm_number insn)

-- the address of the memory operand
unfoldable pub operand_address : Insn → Regs → ℕ
operand_address insn regs = (base_value insn regs + disp_value insn.disp) % 2 ^ 64

-- ---- the operand

-- the number as a linear address
abbrev pub linear : ℕ → Linear
linear address = record { 0 = address }

-- mod 3 names a register, any other memory
unfoldable pub rm_location : Insn → Regs → Location
rm_location insn regs =
    if mod_field (modrm_of insn) == 3 then Register (rm_number insn) else Memory (linear (operand_address insn regs))
