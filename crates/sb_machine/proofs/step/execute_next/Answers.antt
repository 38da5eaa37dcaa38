use Rattle.std.proofs.Common.{◌≡◌, ◌∙◌, sym, ap, subst, Result, Ok}
use Rattle.sb_insn.specs.declared.registers.Regs.{Regs}
use Rattle.sb_bus.specs.declared.stop.BusStop.{BusStop}
use Rattle.sb_exec.specs.declared.action.Effect.{Effect}
use Rattle.sb_exec.specs.declared.action.Effect.TheVariants.{Next}
use Rattle.sb_machine.specs.Machine.{Machine}
use Rattle.sb_machine.specs.Outcomes.{next_outcome}
use Rattle.sb_machine.specs.Written.{PerformsBy, execution_on}
use Rattle.sb_machine.proofs.Behind.{next_same}
use Rattle.sb_machine.proofs.step.execute_next.Goals as goal

pub returns-in-Ok-Next : goal.returns-in-Ok-Next
returns-in-Ok-Next c =
    let executed = execution_on c.args.parts.now c.args.number c.args.insn.now in
    let at : executed.answer ≡ Ok Next = sym c.perform.ensures.answer ∙ (c.in-Ok-Next.is ∙ ap Ok c.in-Ok-Next.field-0-is) in
    let is : (c.go_on.result, c.go_on.new.parts)
    ≡ next_outcome c.args.parts.now c.args.number executed.registers executed.meaning.physical =
    c.go_on.ensures
    ∙ (ap (λ (machine : Machine). next_outcome machine c.args.number c.perform.new.regs machine.memory) c.perform.ensures.memory
    ∙ (next_same c.args.parts.now c.args.number c.perform.new.regs executed.meaning.physical
    ∙ ap (λ (regs : Regs). next_outcome c.args.parts.now c.args.number regs executed.meaning.physical)
    c.perform.ensures.registers)) in
    subst (λ (answer : Result Effect BusStop). PerformsBy c.args.parts.now c.args.number c.args.insn.now answer executed.registers
    executed.meaning.physical (c.go_on.result, c.go_on.new.parts)) (sym at) is
