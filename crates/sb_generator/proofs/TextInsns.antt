-- The instructions of the generated texts: they are valid, and they spell the texts.
use Rattle.std.specs.Prelude.{◌≡◌, ℕ, ◌<◌, ◌-◌, ◌^◌, List, [], ◌∷◌, Option, Some, None, true, FitsSigned, ℤ, pos, negsuc}
use Rattle.std.specs.Int.{w32}
use Rattle.std.proofs.Common.{refl, arith}
use Rattle.std.proofs.lemmas.Bool.{ltb-true}
use Rattle.std.proofs.Math.Facts.{sfits_lit}
use Rattle.sb_insn.specs.declared.insn.Insn.{Insn}
use Rattle.sb_insn.specs.declared.insn.Op.TheVariants.{Two}
use Rattle.sb_insn.specs.declared.insn.Disp.TheVariants as disp
use Rattle.sb_insn.specs.declared.insn.Imm.TheVariants as imm
use Rattle.sb_insn.specs.OpcodeMap.{one_byte, two_byte}
use Rattle.sb_insn.specs.Groups.{group_operand}
use Rattle.sb_insn.specs.Fields.{modrm_opcode_permits, has_sib, modrm_disp}
use Rattle.sb_forms.specs.Pieces.{opcode_alone}
use Rattle.sb_bundle.specs.Spelling.{number_bytes}
use Rattle.sb_rewrite.specs.Listing.{spelled_bytes, AllValid}
use Rattle.sb_generator.specs.Generator.{server_text, client_text}

-- ---- forms of instructions

-- a number of four bytes
abbrev pub with_number : Option ℕ → ℕ → ℤ → Insn
with_number rex opcode value = record (opcode_alone opcode) { rex = rex; imm = imm.I32 value }

-- ModRM names registers
abbrev pub on_registers : Option ℕ → ℕ → ℕ → Insn
on_registers rex opcode modrm = record (opcode_alone opcode) { rex = rex; modrm = Some modrm }

-- jne, so many bytes back from the next instruction
abbrev pub jump_back : ℕ → Insn
jump_back distance = record (opcode_alone 0x75) { imm = imm.I8 (negsuc (distance - 1)) }

abbrev pub syscall : Insn
syscall = record (opcode_alone 0) { op = Two 0x05 }

-- lock xadd [800000], rdx
abbrev pub count_call : Insn
count_call =
    record (opcode_alone 0) {
      lock = true;
      rex = Some 0x48;
      op = Two 0xC1;
      modrm = Some 0x14;
      sib = Some 0x25;
      disp = disp.D32 (pos 0x800000);
    }

-- ---- the texts

abbrev pub server_insns : List Insn
server_insns =
    with_number None 0xBF (pos 0x400017)
    ∷ with_number None 0xBE (pos 2)
    ∷ with_number None 0xB8 (pos 2)
    ∷ syscall
    ∷ on_registers None 0x31 0xFF
    ∷ on_registers None 0x31 0xC0
    ∷ syscall
    ∷ with_number None 0xBA (pos 1)
    ∷ count_call
    ∷ opcode_alone 0xC3
    ∷ []

abbrev pub client_insns : ℕ → ℕ → List Insn
client_insns server calls =
    with_number None 0xBF (pos server)
    ∷ with_number None 0xB8 (pos 3)
    ∷ syscall
    ∷ on_registers None 0x85 0xC0
    ∷ jump_back 16
    ∷ on_registers (Some 0x49) 0x89 0xD4
    ∷ on_registers (Some 0x4D) 0x89 0xC5
    ∷ with_number (Some 0x41) 0xBE (pos calls)
    ∷ on_registers (Some 0x4C) 0x89 0xE7
    ∷ on_registers (Some 0x4C) 0x89 0xEE
    ∷ with_number None 0xE8 (pos 0x6FBFFFD9)
    ∷ on_registers (Some 0x48) 0x89 0xD7
    ∷ with_number None 0xB8 (pos 1)
    ∷ syscall
    ∷ on_registers (Some 0x41) 0xFF 0xCE
    ∷ jump_back 26
    ∷ on_registers None 0x31 0xFF
    ∷ on_registers None 0x31 0xC0
    ∷ syscall
    ∷ []

-- ---- they spell the texts

pub server_spelled : server_text ≡ spelled_bytes server_insns
server_spelled = refl

pub client_spelled : (server calls : ℕ) → client_text server calls ≡ spelled_bytes (client_insns server calls)
unfolding number_bytes
client_spelled server calls = refl

-- ---- each is valid

-- a number below 2^31 is an immediate of four bytes
fits : (n : ℕ) → n < 2 ^ 31 → FitsSigned w32 (pos n)
fits n below = record { sfits = omega (arith, below) }

pub server_valid : AllValid server_insns
unfolding one_byte two_byte group_operand modrm_opcode_permits has_sib modrm_disp
server_valid = search (ltb-true, sfits_lit)

pub client_valid : (server calls : ℕ) → server < 2 ^ 31 → calls < 2 ^ 31 → AllValid (client_insns server calls)
unfolding one_byte two_byte group_operand modrm_opcode_permits has_sib modrm_disp
client_valid server calls below few = let a = fits server below in let b = fits calls few in search (ltb-true, sfits_lit, a, b)
