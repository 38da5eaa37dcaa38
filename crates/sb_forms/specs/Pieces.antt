-- The instructions that stand around a moved one. A helper register is saved in the scratch page, and loaded again.
use Rattle.std.specs.Prelude.{ℕ, ◌+◌, ◌*◌, ◌/◌, ◌%◌, ◌^◌, Bool, false, ◌==◌, if◌then◌else◌, List, [], ◌∷◌, Option, Some}
use Rattle.std.specs.Prelude.{None, ℤ, pos, ◌-ℤ◌}
use Rattle.std.specs.Int.{w32, w64, cast_signed, cast_unsigned}
use Rattle.sb_abi.specs.declared.trampoline.TheConstants.{SCRATCH_ADDRESS}
use Rattle.sb_insn.specs.declared.insn.Insn.{Insn}
use Rattle.sb_insn.specs.declared.insn.Op.TheVariants.{One}
use Rattle.sb_insn.specs.declared.insn.Disp.{Disp}
use Rattle.sb_insn.specs.declared.insn.Disp.TheVariants as disp
use Rattle.sb_insn.specs.declared.insn.Imm.TheVariants as imm
use Rattle.sb_insn.specs.Spelling.{number}
use Rattle.sb_insn.specs.Fields.{mod_field, rm_field, rex_x, rex_b, is_from_next}
use Rattle.sb_forms.specs.declared.helper.Helper.{Helper}
use Rattle.sb_forms.specs.Holding.{holds_pattern}
use Rattle.sb_insn.specs.Rex.{with_x_b_exchanged}
use Rattle.sb_insn.specs.RegisterNumbers.{modrm_of}
use Rattle.sb_forms.specs.Registers.{number_of}

-- ---- words of the scratch page

-- where the first helper is saved
abbrev pub first_saved : ℤ
first_saved = pos SCRATCH_ADDRESS

-- where the second helper is saved
abbrev pub second_saved : ℤ
second_saved = pos (SCRATCH_ADDRESS + 8)

-- a constant of eight bytes by halves, or where a jump leads
abbrev pub scratch_word : ℤ
scratch_word = pos (SCRATCH_ADDRESS + 16)

abbrev pub upper_half : ℤ
upper_half = pos (SCRATCH_ADDRESS + 20)

-- ---- shapes

abbrev pub opcode_alone : ℕ → Insn
opcode_alone opcode =
    record { lock = false; rex = None; op = One opcode; modrm = None; sib = None; disp = disp.None; imm = imm.None }

-- 64 bits: REX.W
abbrev pub wide : ℕ → ℕ → Insn
wide opcode modrm = record (opcode_alone opcode) { rex = Some 0x48; modrm = Some modrm }

-- register reg, and memory at an address: SIB 25 is no base and no index
abbrev pub at_address : ℕ → ℕ → ℤ → Insn
at_address opcode reg address =
    record (opcode_alone opcode) { modrm = Some (8 * reg + 4); sib = Some 0x25; disp = disp.D32 address }

abbrev pub wide_at_address : ℕ → ℕ → ℤ → Insn
wide_at_address opcode reg address = record (at_address opcode reg address) { rex = Some 0x48 }

-- ---- helper registers

-- mov [address], helper
unfoldable pub save : Helper → ℤ → Insn
save helper address = wide_at_address 0x89 (number_of helper) address

-- mov helper, [address]
unfoldable pub restore : Helper → ℤ → Insn
restore helper address = wide_at_address 0x8B (number_of helper) address

-- mov [address], the helper's lower half
unfoldable pub save_half : Helper → ℤ → Insn
save_half helper address = at_address 0x89 (number_of helper) address

-- mov helper, value: extended by its sign
unfoldable pub load_number : Helper → ℤ → Insn
load_number helper value = record (wide 0xC7 (0xC0 + number_of helper)) { imm = imm.I32 value }

-- lea helper, [helper + amount]: no flag changes
unfoldable pub add_number : Helper → ℤ → Insn
add_number helper amount = record (wide 0x8D (0x80 + 9 * number_of helper)) { disp = disp.D32 amount }

-- ---- numbers that hold the pattern: 100 less, and 100 is added

abbrev pub is_lowered : ℤ → Bool
is_lowered value = holds_pattern (number w32 value)

unfoldable pub lowered_displacement : ℤ → ℤ
lowered_displacement value = if is_lowered value then value -ℤ pos 0x100 else value

-- what a lowered number lacks
unfoldable pub lacking : ℤ → ℕ
lacking value = if is_lowered value then 0x100 else 0

unfoldable pub add_step_back : Helper → ℤ → List Insn
add_step_back helper value = if is_lowered value then add_number helper (pos 0x100) ∷ [] else []

-- a number to a helper
unfoldable pub load_constant : Helper → ℤ → List Insn
load_constant helper value = load_number helper (lowered_displacement value) ∷ add_step_back helper value

-- ---- a constant of eight bytes

unfoldable pub low_half : ℤ → ℤ
low_half value = cast_signed w32 (cast_unsigned w64 value % 2 ^ 32)

unfoldable pub high_half : ℤ → ℤ
high_half value = cast_signed w32 (cast_unsigned w64 value / 2 ^ 32)

-- ---- SIB 0F

-- scale 1, index RCX, base RDI
abbrev pub is_sib_0f : Option ℕ → Bool
is_sib_0f None = false
is_sib_0f (Some sib) = sib == 0x0F

-- base and index exchanged: the same address, since the scale is 1
unfoldable pub sib_exchanged : Insn → Insn
sib_exchanged insn = record insn { rex = with_x_b_exchanged insn.rex; sib = Some 0x39 }

unfoldable pub without_sib_0f : Insn → Insn
without_sib_0f insn = if is_sib_0f insn.sib then sib_exchanged insn else insn

-- ---- the address of a memory operand to a helper

-- lea helper, [operand], with this displacement
unfoldable pub load_address : Helper → Insn → Disp → Insn
load_address helper insn displacement =
    record (wide 0x8D (64 * mod_field (modrm_of insn) + 8 * number_of helper + rm_field (modrm_of insn))) {
      rex = Some (0x48 + 2 * rex_x insn.rex + rex_b insn.rex);
      sib = insn.sib;
      disp = displacement;
    }

-- from the next instruction's address on
unfoldable pub address_from : Helper → ℕ → ℤ → List Insn
address_from helper next distance =
    load_number helper (lowered_displacement distance) ∷ add_number helper (pos (next + lacking distance)) ∷ []

-- a displacement of four bytes
unfoldable pub address_at : Helper → Insn → ℕ → ℤ → List Insn
address_at helper insn next distance =
    if is_from_next (modrm_of insn) then address_from helper next distance
    else load_address helper insn (disp.D32 (lowered_displacement distance)) ∷ add_step_back helper distance

abbrev pub address_by : Helper → Insn → ℕ → Disp → List Insn
address_by helper insn next (disp.D32 distance) = address_at helper insn next distance
address_by helper insn next (disp.D8 distance) = load_address helper insn (disp.D8 distance) ∷ []
address_by helper insn next disp.None = load_address helper insn disp.None ∷ []

-- the address of the instruction's memory operand; `next` is the address of the next instruction
unfoldable pub load_address_of_operand : Helper → Insn → ℕ → List Insn
load_address_of_operand helper insn next = address_by helper (without_sib_0f insn) next insn.disp

-- ---- jumps

-- jmp by a distance; `from` is where the jump itself stands, and it has five bytes
unfoldable pub jump_insn : ℕ → ℕ → Insn
jump_insn from to = record (opcode_alone 0xE9) { imm = imm.I32 (pos to -ℤ pos (from + 5)) }

-- jmp [address]
unfoldable pub jump_through : ℤ → Insn
jump_through address = at_address 0xFF 4 address
