use Rattle.sb_block.proofs.Machines.{block_holds}
use Rattle.sb_block.proofs.laws.blocks_hold.Goals as goal

pub returns : goal.returns
returns c = block_holds
