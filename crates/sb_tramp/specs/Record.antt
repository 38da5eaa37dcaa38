-- The record page of a view: six words, and zeros after them.
use Rattle.std.specs.Prelude.{ℕ, List, [], ◌∷◌}
use Rattle.sb_memory.specs.declared.page.TheConstants.{PAGE_SIZE}
use Rattle.sb_memory.specs.Words.{put_words, zeros}
use Rattle.sb_tramp.specs.declared.record_words.RecordWords.{RecordWords}

-- the words at 0, 8, 10, 18, 20 and 28 of the page
abbrev pub words_of : RecordWords → List ℕ
words_of words = words.key ∷ words.base ∷ words.handler ∷ words.thread ∷ words.save ∷ words.home ∷ []

-- the bytes of the page
unfoldable pub record_bytes : RecordWords → List ℕ
record_bytes words = put_words (zeros PAGE_SIZE) 0 (words_of words)
