use Rattle.std.proofs.Common.{◌∙◌, arith}
use Rattle.sb_book.proofs.Through.{steps_less, steps_none}
use Rattle.sb_book.proofs.steps.step_through.Goals as goal

pub loop-preserved : goal.loop-preserved
loop-preserved c = record {
  cores = c.step.ensures.cores ∙ c.loop.invariant.cores;
  left = λ events new steps count.
      steps_less c.own_steps_are_one.ensures.step c.loop.machine c.step.new.self c.args.core c.step.ensures.step.0 events
      c.loop.counter new (omega arith) c.step.ensures.step.1 (c.loop.invariant.left events new steps count);
}

pub returns : goal.returns
returns c = λ events new steps count.
    steps_none c.loop.machine c.args.core events c.loop.counter new (omega arith) (c.loop.invariant.left events new steps count)
