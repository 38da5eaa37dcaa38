-- The table of instructions: which action each has (SDM volume 2, chapters 3 to 5).
use Rattle.std.specs.Prelude.{ℕ, ◌%◌, Option, Some, None, if◌then◌else◌}
use Rattle.sb_insn.specs.declared.insn.Insn.{Insn}
use Rattle.sb_insn.specs.declared.opcode_map.Instruction.{Instruction}
use Rattle.sb_insn.specs.declared.opcode_map.Mnemonic.{Mnemonic}
use Rattle.sb_insn.specs.declared.opcode_map.Mnemonic.TheVariants as mnemonic
use Rattle.sb_insn.specs.declared.opcode_map.OperandForm.{OperandForm}
use Rattle.sb_insn.specs.declared.opcode_map.ModRmOpcode.{ModRmOpcode}
use Rattle.sb_insn.specs.Lookup.{instruction_of, modrm_opcode_of}
use Rattle.sb_alu.specs.declared.size.Size.{Size}
use Rattle.sb_alu.specs.declared.size.Size.TheVariants.{Byte}
use Rattle.sb_exec.specs.declared.action.Effect.TheVariants as effect
use Rattle.sb_alu.specs.declared.operation.Operation.TheVariants as operation
use Rattle.sb_exec.specs.declared.action.Exchange.TheVariants as exchange
use Rattle.sb_exec.specs.declared.action.Action.{Action}
use Rattle.sb_exec.specs.declared.action.Action.TheVariants.{Compute, ZeroExtend, LoadAddress, Exchange, Push, Pop, Return, Jump, JumpIf, Call, Pass, Stop}
use Rattle.sb_exec.specs.Operand.{operand_size}
use Rattle.sb_insn.specs.RegisterNumbers.{last_opcode_byte}

-- ---- what the table looks at beside the instruction

abbrev pub byte_or : Option ModRmOpcode → Size → Size
byte_or None size = size
byte_or (Some operand) size = if operand.byte_rm then Byte else size

-- the size of what MOV moves: a byte where the opcode says so
abbrev pub moved_size : Insn → Size
moved_size insn = byte_or (modrm_opcode_of insn) (operand_size insn)

-- the condition of a jump: the lowest four bits of the opcode
abbrev pub condition_number : Insn → ℕ
condition_number insn = last_opcode_byte insn.op % 16

-- ---- the table

unfoldable pub action_by : Mnemonic → OperandForm → Insn → Action
action_by mnemonic.Add form insn = Compute operation.Add form (operand_size insn)
action_by mnemonic.Or form insn = Compute operation.Or form (operand_size insn)
action_by mnemonic.And form insn = Compute operation.And form (operand_size insn)
action_by mnemonic.Sub form insn = Compute operation.Sub form (operand_size insn)
action_by mnemonic.Xor form insn = Compute operation.Xor form (operand_size insn)
action_by mnemonic.Cmp form insn = Compute operation.Compare form (operand_size insn)
action_by mnemonic.Test form insn = Compute operation.Test form (operand_size insn)
action_by mnemonic.Mov form insn = Compute operation.Move form (moved_size insn)
action_by mnemonic.Movzx form insn = ZeroExtend (operand_size insn)
action_by mnemonic.Lea form insn = LoadAddress (operand_size insn)
action_by mnemonic.Not form insn = Compute operation.Not form (operand_size insn)
action_by mnemonic.Neg form insn = Compute operation.Negate form (operand_size insn)
action_by mnemonic.Imul form insn = Compute operation.Multiply form (operand_size insn)
action_by mnemonic.Shl form insn = Compute operation.ShiftLeft form (operand_size insn)
action_by mnemonic.Shr form insn = Compute operation.ShiftRight form (operand_size insn)
action_by mnemonic.Sar form insn = Compute operation.ShiftArithmetic form (operand_size insn)
action_by mnemonic.Inc form insn = Compute operation.Increment form (operand_size insn)
action_by mnemonic.Dec form insn = Compute operation.Decrement form (operand_size insn)
action_by mnemonic.Bsf form insn = Compute operation.ScanForward form (operand_size insn)
action_by mnemonic.Xchg form insn = Exchange exchange.Xchg (operand_size insn)
action_by mnemonic.Xadd form insn = Exchange exchange.Xadd (operand_size insn)
action_by mnemonic.Cmpxchg form insn = Exchange exchange.Cmpxchg (operand_size insn)
action_by mnemonic.Push form insn = Push form
action_by mnemonic.Pop form insn = Pop
action_by mnemonic.Jmp form insn = Jump form
action_by mnemonic.Jcc form insn = JumpIf (condition_number insn)
action_by mnemonic.Call form insn = Call form
action_by mnemonic.Ret form insn = Return
action_by mnemonic.Nop form insn = Pass
action_by mnemonic.Endbr64 form insn = Pass
action_by mnemonic.Syscall form insn = Stop effect.Syscall
action_by mnemonic.Ud2 form insn = Stop effect.Undefined
action_by mnemonic.Vmfunc form insn = Stop effect.Switch

-- what is not in the opcode maps is undefined
abbrev pub action_for : Option Instruction → Insn → Action
action_for None insn = Stop effect.Undefined
action_for (Some instruction) insn = action_by instruction.mnemonic instruction.form insn

-- what an instruction does
unfoldable pub action_of : Insn → Action
action_of insn = action_for (instruction_of insn) insn
