use Rattle.sb_block.proofs.OwnOnce.{one_own_step, one_own_run}
use Rattle.sb_block.proofs.laws.own_steps_are_one.Goals as goal

pub returns-clause-step : goal.returns-clause-step
returns-clause-step c = one_own_step

pub returns-clause-steps : goal.returns-clause-steps
returns-clause-steps c = one_own_run
