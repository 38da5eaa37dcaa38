-- Words of 8 bytes in the pages of a state, the lowest byte first.
use Rattle.std.specs.Prelude.{ℕ}
use Rattle.sb_memory.specs.Words.{word_at, put_word}
pub use Rattle.sb_pages.specs.PageWords.{put_words}
unfoldable pub use Rattle.sb_pages.specs.PageWords.{zeros}
use Rattle.sb_pages.specs.declared.page.PageName.{PageName}
use Rattle.sb_state.specs.State.{State, contents, with_contents}

-- the word at an offset of a page
abbrev pub word_in : State → PageName → ℕ → ℕ
word_in state name offset = word_at (contents state name) offset

-- the state with a word put at an offset of a page
unfoldable pub with_word : State → PageName → ℕ → ℕ → State
with_word state name offset word = with_contents state name (put_word (contents state name) offset word)
