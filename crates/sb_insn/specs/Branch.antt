-- Where a direct jump or call leads (SDM volume 2: JMP, Jcc, CALL).
use Rattle.std.specs.Prelude.{ℕ, ◌+◌, ◌%◌, ◌^◌, Bool, true, false, if◌then◌else◌, length, Option, None, Some}
use Rattle.std.specs.Int.{w64, cast_unsigned}
use Rattle.sb_insn.specs.declared.insn.Insn.{Insn}
use Rattle.sb_insn.specs.declared.insn.Imm.{Imm}
use Rattle.sb_insn.specs.declared.insn.Imm.TheVariants as imm
use Rattle.sb_insn.specs.declared.opcode_map.Instruction.{Instruction}
use Rattle.sb_insn.specs.declared.opcode_map.OperandForm.{OperandForm}
use Rattle.sb_insn.specs.declared.opcode_map.OperandForm.TheVariants.{RmReg, RegRm, RmImm, AccImm, OpcodeImm, RegRmImm}
use Rattle.sb_insn.specs.declared.opcode_map.OperandForm.TheVariants.{RmCount, RmCl, Rm, Opcode, Imm as ImmForm, Relative}
use Rattle.sb_insn.specs.declared.opcode_map.OperandForm.TheVariants.{Nothing}
use Rattle.sb_insn.specs.Spelling.{spelling}
use Rattle.sb_insn.specs.Lookup.{instruction_of}

-- the immediate, sign-extended to 64 bits; 0 where there is none
abbrev pub imm_value : Imm → ℕ
imm_value imm.None = 0
imm_value (imm.I8 value) = cast_unsigned w64 value
imm_value (imm.I32 value) = cast_unsigned w64 value
imm_value (imm.I64 value) = cast_unsigned w64 value

-- the operand is a distance from the next instruction
abbrev pub is_distance : OperandForm → Bool
is_distance RmReg = false
is_distance RegRm = false
is_distance RmImm = false
is_distance AccImm = false
is_distance OpcodeImm = false
is_distance RegRmImm = false
is_distance RmCount = false
is_distance RmCl = false
is_distance Rm = false
is_distance Opcode = false
is_distance ImmForm = false
is_distance Relative = true
is_distance Nothing = false

abbrev pub is_relative : Option Instruction → Bool
is_relative None = false
is_relative (Some instruction) = is_distance instruction.form

-- JMP, Jcc or CALL with a distance
abbrev pub is_direct : Insn → Bool
is_direct insn = is_relative (instruction_of insn)

-- where a direct jump or call that is at an address leads: its distance from the next instruction, modulo 2^64
unfoldable pub direct_target : Insn → ℕ → Option ℕ
direct_target insn at =
    if is_direct insn then Some ((at + length (spelling insn) + imm_value insn.imm) % 2 ^ 64) else None
