use Rattle.std.proofs.Common.{◌∙◌, arith}
use Rattle.sb_agree.specs.Noted.{nothing, noted_rule}
use Rattle.sb_block.specs.Run.{at}
use Rattle.sb_block.proofs.Pushing.{run_pushed, pushed_length}
use Rattle.sb_block.proofs.run.make_steps.Goals as goal

pub loop-preserved : goal.loop-preserved
loop-preserved c =
    let now = c.loop.invariant in
    let made = c.in_ok-next.ensures in
    let had = now.room in
    let has = c.next.ensures.room in
    record {
      runs = run_pushed noted_rule (at c.args.core.now c.args.part.now.given nothing)
          (at c.loop.core c.loop.part.memory c.loop.part.noted) (at c.next.new.core c.next.new.part.memory c.next.new.part.noted)
          c.loop.steps.items c.next.new.steps.items _ now.runs made.step made.added;
      given = c.next.ensures.given ∙ now.given;
      walks = c.next.ensures.walks;
      frames = c.next.ensures.frames ∙ now.frames;
      count = pushed_length c.loop.steps.items c.next.new.steps.items _ c.loop.counter made.added now.count;
      room = omega arith;
    }
