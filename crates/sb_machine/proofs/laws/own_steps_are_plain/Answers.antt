use Rattle.sb_machine.proofs.OwnRuns.{own_run, own_run_with_marks}
use Rattle.sb_machine.proofs.laws.own_steps_are_plain.Goals as goal

pub returns-clause-steps : goal.returns-clause-steps
returns-clause-steps c = own_run c.steps_are_plain.ensures.steps

pub returns-clause-marked : goal.returns-clause-marked
returns-clause-marked c = own_run_with_marks c.steps_are_plain.ensures.steps
