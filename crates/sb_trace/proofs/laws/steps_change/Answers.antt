use Rattle.sb_trace.proofs.Marks.{steps_with_mark_change}
use Rattle.sb_trace.proofs.Steps.{steps_change}
use Rattle.sb_trace.proofs.laws.steps_change.Goals as goal

pub returns-clause-step : goal.returns-clause-step
returns-clause-step c = steps_change

pub returns-clause-marked : goal.returns-clause-marked
returns-clause-marked c = steps_with_mark_change
