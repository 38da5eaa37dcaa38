use Rattle.sb_trace.proofs.Landings.{steps_drop}
use Rattle.sb_trace.proofs.RunsWithMarks.{landings_drop, steps_run_once, one_steps_run_once}
use Rattle.sb_trace.proofs.Marks.{steps_with_mark_drop}
use Rattle.sb_trace.proofs.laws.landings_can_be_dropped.Goals as goal

pub returns-clause-run : goal.returns-clause-run
returns-clause-run c = landings_drop

pub returns-clause-step : goal.returns-clause-step
returns-clause-step c = steps_drop

pub returns-clause-marked : goal.returns-clause-marked
returns-clause-marked c = steps_with_mark_drop

pub returns-clause-one : goal.returns-clause-one
returns-clause-one c = steps_run_once

pub returns-clause-once : goal.returns-clause-once
returns-clause-once c = one_steps_run_once
