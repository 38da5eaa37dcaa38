-- Where the bytes of VMFUNC can stand in an instruction.
use Rattle.std.specs.Prelude.{◌≡◌, ℕ, ◌+◌, ◌*◌, ◌%◌, ◌^◌, ◌<◌, ◌≤◌, ◌⊎◌, IsTrue, false, Some}
use Rattle.std.specs.Prelude.{length, ◌∷◌, List}
use Rattle.sb_abi.specs.declared.space.TheConstants.{WINDOW_PAGES, TEXT_ADDRESS}
use Rattle.sb_memory.specs.declared.page.TheConstants.{PAGE_SIZE}
use Rattle.sb_abi.specs.declared.trampoline.TheConstants.{TRAMPOLINE_ADDRESS}
use Rattle.sb_insn.specs.declared.insn.Insn.{Insn}
use Rattle.sb_insn.specs.declared.insn.Op.TheVariants.{One, Vmfunc}
use Rattle.sb_insn.specs.Spelling.{lead_bytes, imm_bytes, spelling}
use Rattle.sb_insn.specs.Grammar.{IsValid}
use Rattle.sb_insn.specs.Branch.{imm_value, is_direct}
use Rattle.sb_scan.specs.Pattern.{HasPatternAt, HasNoPattern}
use Rattle.sb_insn.specs.Fields.{has_memory}

-- the bytes before ModRM: LOCK, REX and the opcode
abbrev pub lead : Insn → List ℕ
lead insn = lead_bytes insn.lock insn.rex insn.op

-- In an instruction other than VMFUNC they begin behind the opcode.
abbrev pub BehindOpcode : Type 0
BehindOpcode = (insn : Insn) (place : ℕ) → IsValid insn → ¬ (insn.op ≡ Vmfunc) → HasPatternAt (spelling insn) place
    → length (lead insn) ≤ place

-- 81 /1 or 69
abbrev pub IsOrImul : Insn → Type 0
IsOrImul insn = (insn.op ≡ One 0x81) ⊎ (insn.op ≡ One 0x69)

-- They begin at ModRM only where it is 0F and an immediate of four bytes begins with 01 D4: in 81 /1 and in 69.
abbrev pub AtModrm : Type 0
AtModrm =
    (insn : Insn) (modrm : ℕ) → IsValid insn → insn.modrm ≡ Some modrm → HasPatternAt (spelling insn) (length (lead insn))
    → (modrm ≡ 0x0F) × IsOrImul insn × ((behind : List ℕ) × (imm_bytes insn.imm ≡ 0x01 ∷ 0xD4 ∷ behind))

-- an instruction other than VMFUNC that holds them has at least five bytes
abbrev pub AtLeastFive : Type 0
AtLeastFive = (insn : Insn) (place : ℕ) → IsValid insn → ¬ (insn.op ≡ Vmfunc) → HasPatternAt (spelling insn) place
    → 5 ≤ length (spelling insn)

-- In one without a memory operand they lie in the immediate, which stands last.
abbrev pub InImmediate : Type 0
InImmediate =
    (insn : Insn) (place : ℕ) → IsValid insn → ¬ (insn.op ≡ Vmfunc) → has_memory insn.modrm ≡ false
    → HasPatternAt (spelling insn) place → length (spelling insn) ≤ place + length (imm_bytes insn.imm)

-- JMP, Jcc or CALL with a distance
abbrev pub IsDirect : Insn → Type 0
IsDirect insn = IsTrue (is_direct insn)

-- it is no direct jump or call that holds the bytes of VMFUNC
abbrev pub HasForm : Insn → Type 0
HasForm insn = IsDirect insn → HasNoPattern (spelling insn)

-- where a direct jump at an address leads
abbrev pub target : Insn → ℕ → ℕ
target insn at = (at + length (spelling insn) + imm_value insn.imm) % 2 ^ 64

-- the address after the last that a text can have
abbrev pub text_end : ℕ
text_end = TEXT_ADDRESS + WINDOW_PAGES * PAGE_SIZE

-- an address that a text can have
abbrev pub IsInText : ℕ → Type 0
IsInText address = (TEXT_ADDRESS ≤ address) × (address < text_end)

-- an address in the trampoline page
abbrev pub IsInTrampoline : ℕ → Type 0
IsInTrampoline address = (TRAMPOLINE_ADDRESS ≤ address) × (address < TRAMPOLINE_ADDRESS + PAGE_SIZE)

-- a text, or the trampoline page
abbrev pub IsPermitted : ℕ → Type 0
IsPermitted address = IsInText address ⊎ IsInTrampoline address

-- A direct jump or call from a text into a text or the trampoline page holds them nowhere.
abbrev pub NotInJumps : Type 0
NotInJumps =
    (insn : Insn) (at : ℕ) → IsValid insn → IsDirect insn → TEXT_ADDRESS ≤ at → at < text_end
    → IsPermitted (target insn at) → HasNoPattern (spelling insn)
