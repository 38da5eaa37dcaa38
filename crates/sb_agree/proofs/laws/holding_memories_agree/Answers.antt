use Rattle.sb_agree.proofs.Held.{starts}
use Rattle.sb_agree.proofs.laws.holding_memories_agree.Goals as goal

pub returns : goal.returns
returns c = starts
