use Rattle.std.proofs.Common.{List, ◌+◌, rules, sym, subst, take}
use Rattle.sb_machine.specs.Ran.{HasRun}
use Rattle.sb_trace.specs.declared.event.Line.{Line}
use Rattle.skybridge.proofs.Stepping.{entry_is_core, one_more}
use Rattle.skybridge.proofs.machine_run.run.Goals as goal

pub step-requires : goal.step-requires
step-requires c =
    let (end, ran) = c.loop-core.invariant in
    entry_is_core c.loop-core.machine c.args.loaded.now c.args.schedule.now c.loop-core.core-index c.loop-core.lines.items end
    c.requires.loadable c.requires.schedule ran (search rules)

pub loop-core-preserved : goal.loop-core-preserved
loop-core-preserved c =
    let (end, ran) = c.loop-core.invariant in
    let follows = c.step.ensures.plain end ran.stands in (
      follows.next,
      subst (λ (lines : List Line).
          HasRun c.step.new.self c.args.loaded.now (take (c.loop-core.core-index + 1) c.args.schedule.now) lines follows.next)
          (sym c.in_ok-push.ensures.items)
          (one_more c.loop-core.machine c.step.new.self c.args.loaded.now c.args.schedule.now c.loop-core.core-index
          c.loop-core.lines.items end c.step.result c.requires.loadable c.requires.schedule (search rules) c.step.ensures.core ran
          follows c.step.ensures.counts c.step.ensures.frames),
    )
