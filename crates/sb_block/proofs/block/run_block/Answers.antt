use Rattle.std.proofs.Common.{ap, sym, subst, ◌∙◌, rules}
use Rattle.sb_memory.specs.Physical.{frame_count}
use Rattle.sb_machine.specs.declared.processor.CoreState.{CoreState}
use Rattle.sb_machine.specs.OwnSteps.{HasWalks}
use Rattle.sb_partial.specs.Copies.{untouched}
use Rattle.sb_block.specs.Run.{at}
use Rattle.sb_block.proofs.Ended.{refused_by, run_by, reads_by, writes_by}
use Rattle.sb_block.proofs.Lawful.{given_sound, block_by, holds_by}
use Rattle.sb_block.proofs.block.run_block.Goals as goal

pub returns-then-is_empty-clause-refused : goal.returns-then-is_empty-clause-refused
returns-then-is_empty-clause-refused c =
    let made = c.make_steps-made in
    refused_by c.args.start.now c.args.part.now.given made.new.steps.items
    (at made.new.core made.new.part.memory made.new.part.began) made.result c.none_made.result made.ensures.runs made.ensures.ends
    c.none_made.ensures c.requires.some (search rules)

pub returns-in-Ok-block : goal.returns-in-Ok-block
returns-in-Ok-block c =
    let given = c.make_steps-made.ensures.given in
    let got = c.in-Ok-block.ensures in
    let sound = given_sound c.args.part.now c.requires.untouched c.frames.ensures.sound in
    let steps = c.make_steps-made.ensures in
    let made = run_by c.make_steps-made.result steps.runs steps.ends (search rules) got given in
    record {
      made = made;
      block = block_by sound made;
      holds = holds_by sound made;
      walks = subst (λ (state : CoreState). HasWalks (frame_count c.args.part.now.given) state) (sym got.to)
          steps.walks;
      reads = reads_by got given;
      writes = writes_by got given;
      refused = tt;
      copies = c.restore-2.ensures ∙ ap untouched given;
    }
