use Rattle.std.proofs.Common.{[], ◌∷◌, ◌++◌, rules}
use Rattle.skybridge.proofs.LineTexts.{text_more}
use Rattle.skybridge.proofs.Stepping.{entry_is_core, one_more}
use Rattle.skybridge.proofs.machine_run.push_run.Goals as goal

pub step-requires : goal.step-requires
step-requires c =
    let (lines, end, ran, text) = c.loop-core.invariant in
    entry_is_core c.loop-core.machine c.args.loaded.now c.args.schedule.now c.loop-core.core-index lines end c.requires.loadable
    c.requires.schedule ran (search rules)

pub loop-core-preserved : goal.loop-core-preserved
loop-core-preserved c =
    let (lines, end, ran, text) = c.loop-core.invariant in
    let follows = c.step.ensures.plain end ran.stands in (
      lines ++ c.step.result ∷ [],
      follows.next,
      one_more c.loop-core.machine c.step.new.self c.args.loaded.now c.args.schedule.now c.loop-core.core-index lines end
          c.step.result c.requires.loadable c.requires.schedule (search rules) c.step.ensures.core ran follows
          c.step.ensures.counts c.step.ensures.frames,
      text_more _ _ _ lines c.step.result text c.in_ok-push_line.ensures,
    )
