use Rattle.sb_agree.specs.Noted.{noted_rule}
use Rattle.sb_block.proofs.Once.{one_step, one_block}
use Rattle.sb_block.proofs.laws.blocks_are_functions.Goals as goal

pub returns-clause-block : goal.returns-clause-block
returns-clause-block c = one_block

pub returns-clause-outcome : goal.returns-clause-outcome
returns-clause-outcome c = one_step noted_rule
