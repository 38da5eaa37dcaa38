use Rattle.std.proofs.Common.{rules}
use Rattle.sb_exec.specs.Rows.{row_of}
use Rattle.sb_plain.proofs.ByThread.{performed}
use Rattle.sb_trace.proofs.Faults.{execution_faults}
use Rattle.sb_plain.proofs.instruction.perform.Goals as goal

pub returns-clause-answer : goal.returns-clause-answer
returns-clause-answer c =
    (performed c.args.thread c.args.view
    (row_of c.args.insn.now c.args.regs.now) c.args.regs.now c.execute.new.regs c.args.state.now
    _ _ _ _ c.execute.result (search rules) c.execute.ensures.row).answer

pub returns-clause-registers : goal.returns-clause-registers
returns-clause-registers c =
    (performed c.args.thread c.args.view
    (row_of c.args.insn.now c.args.regs.now) c.args.regs.now c.execute.new.regs c.args.state.now
    _ _ _ _ c.execute.result (search rules) c.execute.ensures.row).registers

pub returns-clause-memory : goal.returns-clause-memory
returns-clause-memory c =
    let left =
    performed c.args.thread c.args.view
    (row_of c.args.insn.now c.args.regs.now) c.args.regs.now c.execute.new.regs c.args.state.now
    _ _ _ _ c.execute.result (search rules) c.execute.ensures.row in
    rw (← left.memory) (search rules)

pub returns-clause-fault : goal.returns-clause-fault
returns-clause-fault c =
    let left =
    performed c.args.thread c.args.view
    (row_of c.args.insn.now c.args.regs.now) c.args.regs.now c.execute.new.regs c.args.state.now
    _ _ _ _ c.execute.result (search rules) c.execute.ensures.row in
    rw left.answer
    (execution_faults c.args.thread c.args.view (row_of c.args.insn.now c.args.regs.now) c.args.regs.now c.args.state.now)
