use Rattle.sb_origin_plain.proofs.Threads.{have_words, all_beside, sound_holds_all}
use Rattle.sb_origin_plain.proofs.laws.plain_threads.Goals as goal

pub returns-clause-words : goal.returns-clause-words
returns-clause-words c = have_words

pub returns-clause-beside : goal.returns-clause-beside
returns-clause-beside c = all_beside

pub returns-clause-sound : goal.returns-clause-sound
returns-clause-sound c = sound_holds_all
