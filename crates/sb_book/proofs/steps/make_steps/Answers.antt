use Rattle.std.proofs.Common.{◌∙◌, ap, length, sym, subst}
use Rattle.std.proofs.lemmas.List.{length-map}
use Rattle.sb_block.specs.declared.fact.MadeStep.{MadeStep}
use Rattle.sb_block.specs.Marked.{events_marked}
use Rattle.sb_block.specs.Run.{events_of}
use Rattle.sb_machine.specs.Machine.{Machine}
use Rattle.sb_machine.specs.Marks.{OwnStepsWithMarks}
use Rattle.sb_book.proofs.Origins.{are_steps}
use Rattle.sb_book.proofs.steps.make_steps.Goals as goal

pub apply-requires-clause-made : goal.apply-requires-clause-made
apply-requires-clause-made c =
    let block = c.args.block.now in
    let leads = c.requires.leads in (
      events_of block.steps,
      leads.new,
      are_steps c.args.machine.now block.core block.steps c.items-steps.result.now block.after block.writes leads c.requires.core
          c.items-steps.ensures (sym c.leaves_undecided.ensures ∙ c.if-leaves_undecided.false),
    )

pub returns-then-leaves_undecided : goal.returns-then-leaves_undecided
returns-then-leaves_undecided c =
    let block = c.args.block.now in
    let leads = c.requires.leads in
    subst (λ (machine : Machine). OwnStepsWithMarks c.args.machine.now block.core
    (events_marked c.args.machine.now block.core block.steps) machine)
    (sym (c.step_through.ensures (events_of block.steps) leads.new leads.own
    (length-map block.steps (λ (step : MadeStep). step.event) ∙ sym (ap length c.items-steps.ensures)))) leads.marked

pub returns-else-leaves_undecided : goal.returns-else-leaves_undecided
returns-else-leaves_undecided c =
    let block = c.args.block.now in
    let leads = c.requires.leads in
    subst (λ (machine : Machine). OwnStepsWithMarks c.args.machine.now block.core
    (events_marked c.args.machine.now block.core block.steps) machine)
    (sym (c.apply.ensures.applied (events_of block.steps) leads.new
    (are_steps c.args.machine.now block.core block.steps c.items-steps.result.now block.after block.writes leads c.requires.core
    c.items-steps.ensures (sym c.leaves_undecided.ensures ∙ c.if-leaves_undecided.false)))) leads.marked
