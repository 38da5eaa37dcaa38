use Rattle.sb_agree.proofs.Alike.{execution_alike}
use Rattle.sb_agree.proofs.laws.executions_agree.Goals as goal

pub returns : goal.returns
returns c = execution_alike
