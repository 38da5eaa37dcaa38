-- How an instruction is spelled: its fields from left to right (SDM volume 2, chapter 2).
use Rattle.std.specs.Prelude.{ℕ, Bool, true, false, List, [], ◌∷◌, ◌++◌, Option, ℤ}
use Rattle.std.specs.Option.{option_to_list}
use Rattle.std.specs.Int.{Width, w8, w32, w64, to_le_bytes, cast_unsigned}
use Rattle.sb_insn.specs.declared.insn.Insn.{Insn}
use Rattle.sb_insn.specs.declared.insn.Op.{Op}
use Rattle.sb_insn.specs.declared.insn.Op.TheVariants.{One, Two, Endbr, Vmfunc}
use Rattle.sb_insn.specs.declared.insn.Disp.{Disp}
use Rattle.sb_insn.specs.declared.insn.Disp.TheVariants as disp
use Rattle.sb_insn.specs.declared.insn.Imm.{Imm}
use Rattle.sb_insn.specs.declared.insn.Imm.TheVariants as imm

abbrev pub lock_bytes : Bool → List ℕ
lock_bytes true = 0xF0 ∷ []
lock_bytes false = []

abbrev pub op_bytes : Op → List ℕ
op_bytes (One opcode) = opcode ∷ []
op_bytes (Two opcode) = 0x0F ∷ opcode ∷ []
op_bytes Endbr = 0xF3 ∷ 0x0F ∷ 0x1E ∷ 0xFA ∷ []
op_bytes Vmfunc = 0x0F ∷ 0x01 ∷ 0xD4 ∷ []

-- a signed number, its lowest byte first
abbrev pub number : Width → ℤ → List ℕ
number width value = to_le_bytes width (cast_unsigned width value)

abbrev pub disp_bytes : Disp → List ℕ
disp_bytes disp.None = []
disp_bytes (disp.D8 value) = number w8 value
disp_bytes (disp.D32 value) = number w32 value

abbrev pub imm_bytes : Imm → List ℕ
imm_bytes imm.None = []
imm_bytes (imm.I8 value) = number w8 value
imm_bytes (imm.I32 value) = number w32 value
imm_bytes (imm.I64 value) = number w64 value

-- the prefixes and the opcode
abbrev pub lead_bytes : Bool → Option ℕ → Op → List ℕ
lead_bytes lock rex op = lock_bytes lock ++ (option_to_list rex ++ op_bytes op)

-- the one spelling of an instruction: LOCK, REX, opcode, ModRM, SIB, displacement, immediate
abbrev pub spelling : Insn → List ℕ
spelling insn =
    lead_bytes insn.lock insn.rex insn.op
    ++ (option_to_list insn.modrm ++ (option_to_list insn.sib ++ (disp_bytes insn.disp ++ imm_bytes insn.imm)))
