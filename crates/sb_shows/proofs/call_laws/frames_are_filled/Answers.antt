use Rattle.sb_shows.proofs.Fills.{clears_fill, pages_fill, images_fill, words_fill}
use Rattle.sb_shows.proofs.call_laws.frames_are_filled.Goals as goal

pub returns-clause-cleared : goal.returns-clause-cleared
returns-clause-cleared c = clears_fill

pub returns-clause-pages : goal.returns-clause-pages
returns-clause-pages c = pages_fill

pub returns-clause-images : goal.returns-clause-images
returns-clause-images c = images_fill

pub returns-clause-words : goal.returns-clause-words
returns-clause-words c = words_fill
