use Rattle.sb_exec.proofs.RowWords.{executions_keep_words}
use Rattle.sb_exec.proofs.words.executions_keep_words.Goals as goal

pub returns : goal.returns
returns g c = executions_keep_words g.B.Bus.interface
