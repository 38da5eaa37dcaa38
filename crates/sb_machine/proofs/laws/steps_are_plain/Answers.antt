use Rattle.sb_machine.proofs.Marks.{steps_with_mark_are_plain}
use Rattle.sb_machine.proofs.Steps.{steps_are_plain}
use Rattle.sb_machine.proofs.Shown.{machines_show}
use Rattle.sb_machine.proofs.laws.steps_are_plain.Goals as goal

pub returns-clause-steps : goal.returns-clause-steps
returns-clause-steps c = steps_are_plain c.steps_stay_beside.ensures

pub returns-clause-marked : goal.returns-clause-marked
returns-clause-marked c = steps_with_mark_are_plain (steps_are_plain c.steps_stay_beside.ensures)

pub returns-clause-shows : goal.returns-clause-shows
returns-clause-shows c = machines_show
