-- Reading the fields behind the opcode.
use Rattle.std.specs.Prelude.{ℕ, ℤ, Bool, true, false, nat_lt, if◌then◌else◌, List, [], ◌∷◌, length, take, drop, Option, Some, None, Ok, Err}
use Rattle.std.specs.Int.{Width, w8, w32, w64, byte_len, from_le_bytes, cast_signed}
use Rattle.sb_insn.specs.declared.insn.Disp.{Disp}
use Rattle.sb_insn.specs.declared.insn.Disp.TheVariants as disp
use Rattle.sb_insn.specs.declared.insn.Imm.{Imm}
use Rattle.sb_insn.specs.declared.insn.Imm.TheVariants as imm
use Rattle.sb_insn.specs.declared.insn.DispKind.{DispKind}
use Rattle.sb_insn.specs.declared.insn.DispKind.TheVariants as disp_kind
use Rattle.sb_insn.specs.declared.insn.ImmKind.{ImmKind}
use Rattle.sb_insn.specs.declared.insn.ImmKind.TheVariants as imm_kind
use Rattle.sb_insn.specs.declared.opcode_map.Cell.{Cell}
use Rattle.sb_insn.specs.declared.opcode_map.Cell.TheVariants.{Absent, NoModRm, ModRm, Extended}
use Rattle.sb_insn.specs.Fields.{is_modrm_field, wants_sib}
use Rattle.sb_decode.specs.declared.fault.DecodeFault.TheVariants.{Short, Undecoded}
use Rattle.sb_decode.specs.Reading.{Read}

-- ---- ModRM and SIB

-- the opcode has no ModRM byte
abbrev pub is_alone : Cell → Bool
is_alone Absent = false
is_alone (NoModRm plain) = true
is_alone (ModRm operand) = false
is_alone (Extended group form imm) = false

-- a byte that the opcode permits behind these prefixes
abbrev pub modrm_byte : Cell → Bool → Option ℕ → List ℕ → Read (Option ℕ)
modrm_byte cell lock rex [] = Err Short
modrm_byte cell lock rex (modrm ∷ rest) =
    if is_modrm_field cell lock rex (Some modrm) then Ok (Some modrm, rest) else Err Undecoded

unfoldable pub modrm_at : Cell → Bool → Option ℕ → List ℕ → Read (Option ℕ)
modrm_at cell lock rex bytes = if is_alone cell then Ok (None, bytes) else modrm_byte cell lock rex bytes

abbrev pub any_byte : List ℕ → Read (Option ℕ)
any_byte [] = Err Short
any_byte (byte ∷ rest) = Ok (Some byte, rest)

unfoldable pub sib_at : Option ℕ → List ℕ → Read (Option ℕ)
sib_at modrm bytes = if wants_sib modrm then any_byte bytes else Ok (None, bytes)

-- ---- the displacement and the immediate

-- a signed number, its lowest byte first
unfoldable pub number_at : Width → List ℕ → Read ℤ
number_at width bytes =
    if nat_lt (length bytes) (byte_len width) then Err Short
    else Ok (cast_signed width (from_le_bytes width (take (byte_len width) bytes)), drop (byte_len width) bytes)

-- a field that is made of a number
abbrev pub made : {Field : Type 0} → (ℤ → Field) → Read ℤ → Read Field
made make (Ok read) = Ok (make read.0, read.1)
made make (Err fault) = Err fault

abbrev pub disp_at : DispKind → List ℕ → Read Disp
disp_at disp_kind.None bytes = Ok (disp.None, bytes)
disp_at disp_kind.D8 bytes = made (λ value. disp.D8 value) (number_at w8 bytes)
disp_at disp_kind.D32 bytes = made (λ value. disp.D32 value) (number_at w32 bytes)

abbrev pub imm_at : ImmKind → List ℕ → Read Imm
imm_at imm_kind.None bytes = Ok (imm.None, bytes)
imm_at imm_kind.I8 bytes = made (λ value. imm.I8 value) (number_at w8 bytes)
imm_at imm_kind.I32 bytes = made (λ value. imm.I32 value) (number_at w32 bytes)
imm_at imm_kind.I64 bytes = made (λ value. imm.I64 value) (number_at w64 bytes)
