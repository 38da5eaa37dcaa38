use Rattle.sb_exec.proofs.RowWords.{rows_keep_words}
use Rattle.sb_exec.proofs.words.rows_keep_words.Goals as goal

pub returns : goal.returns
returns c = rows_keep_words
