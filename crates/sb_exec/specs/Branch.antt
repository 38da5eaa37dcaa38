-- The stack, jumps, and the conditions of jumps.
use Rattle.std.specs.Prelude.{ℕ, ◌+◌, ◌-◌, ◌/◌, ◌%◌, ◌^◌, ◌==◌, ◌||◌, Bool, if◌then◌else◌}
use Rattle.sb_insn.specs.declared.insn.Insn.{Insn}
use Rattle.sb_insn.specs.declared.registers.Regs.{Regs}
use Rattle.sb_insn.specs.declared.registers.Flags.{Flags}
use Rattle.sb_insn.specs.declared.opcode_map.OperandForm.{OperandForm}
use Rattle.sb_insn.specs.declared.opcode_map.OperandForm.TheVariants.{Relative}
use Rattle.sb_insn.specs.declared.registers.TheConstants.{RSP}
use Rattle.sb_alu.specs.declared.size.Size.TheVariants.{Quadword}
use Rattle.sb_exec.specs.Operand.{general, with_register, next_rip}
use Rattle.sb_alu.specs.Shift.{differ}
use Rattle.sb_exec.specs.WriteBack.{last_operand}

-- ---- the stack, whose top is at the address in RSP

-- the top after 8 bytes are pushed
abbrev pub rsp_after_push : Regs → ℕ
rsp_after_push regs = (general regs RSP + (2 ^ 64 - 8)) % 2 ^ 64

abbrev pub regs_after_push : Regs → Regs
regs_after_push regs = with_register Quadword RSP (rsp_after_push regs) regs

-- the registers after 8 bytes are popped
abbrev pub regs_after_pop : Regs → Regs
regs_after_pop regs = with_register Quadword RSP ((general regs RSP + 8) % 2 ^ 64) regs

-- the popped value is written last, so POP RSP leaves it
abbrev pub regs_after_pop_into : ℕ → ℕ → Regs → Regs
regs_after_pop_into number value regs = with_register Quadword number value (regs_after_pop regs)

-- ---- jumps

abbrev pub at_rip : ℕ → Regs → Regs
at_rip rip regs = record regs { rip = rip }

-- where a jump or call leads
abbrev pub target_of : OperandForm → Insn → Regs → ℕ → ℕ
target_of form insn regs loaded = last_operand form Quadword insn regs loaded

-- ---- conditions (SDM volume 2, appendix B.1.4.7)

-- the condition of an even number, by its half
abbrev pub even_condition : ℕ → Flags → Bool
even_condition half flags =
    if half == 0 then flags.of
    else if half == 1 then flags.cf
    else if half == 2 then flags.zf
    else if half == 3 then flags.cf || flags.zf
    else if half == 4 then flags.sf
    else if half == 5 then flags.pf
    else if half == 6 then differ flags.sf flags.of
    else flags.zf || differ flags.sf flags.of

-- the odd numbers are the negations
abbrev pub condition : ℕ → Flags → Bool
condition number flags = differ (even_condition (number / 2) flags) (number % 2 == 1)

-- a jump where the condition holds
abbrev pub regs_after_jcc : ℕ → Insn → Regs → Regs
regs_after_jcc number insn regs =
    at_rip (if condition number regs.flags then target_of Relative insn regs 0 else next_rip insn regs) regs
