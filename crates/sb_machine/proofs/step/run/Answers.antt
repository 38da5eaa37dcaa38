use Rattle.std.proofs.Common.{◌∙◌, ap}
use Rattle.sb_trace.specs.Marks.{touches_scratch}
use Rattle.sb_machine.specs.declared.processor.Core.{Core}
use Rattle.sb_machine.specs.Machine.{Machine, core_at}
use Rattle.sb_machine.proofs.Marks.{fetched, not_fetched}
use Rattle.sb_machine.proofs.step.run.Goals as goal

pub returns-in-Ok-clause-scratch : goal.returns-in-Ok-clause-scratch
returns-in-Ok-clause-scratch c =
    let core = c.core.ensures ∙ ap (λ (machine : Machine). core_at machine c.args.number) c.in-Ok.ensures.same in
    fetched c.args.parts.now c.args.number c.in-Ok.insn c.touches_scratch-scratch.result c.in-Ok.ensures.fetched
    (c.touches_scratch-scratch.ensures ∙ ap (λ (one : Core). touches_scratch c.in-Ok.insn one.state.regs) core)

pub returns-in-Err-clause-scratch : goal.returns-in-Err-clause-scratch
returns-in-Err-clause-scratch c =
    not_fetched c.args.parts.now c.args.number c.in-Err.stop c.of.result.scratch c.in-Err.ensures.fetched
