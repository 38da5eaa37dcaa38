use Rattle.sb_memory.proofs.Words.{word_read_back, word_elsewhere, byte_beside_word}
use Rattle.sb_memory.proofs.laws.words_keep_apart.Goals as goal

pub returns-clause-read_back : goal.returns-clause-read_back
returns-clause-read_back c = word_read_back

pub returns-clause-elsewhere : goal.returns-clause-elsewhere
returns-clause-elsewhere c = word_elsewhere

pub returns-clause-bytes : goal.returns-clause-bytes
returns-clause-bytes c = byte_beside_word
