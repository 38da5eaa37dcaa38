-- Words of 8 bytes in a list of bytes, the lowest byte first, and runs of bytes in it.
use Rattle.std.specs.Prelude.{ℕ, ◌+◌, ◌*◌, List, [], ◌∷◌, replicate}
use lib.Seq.{sets}
use Rattle.sb_memory.specs.declared.page.TheConstants.{PAGE_SIZE}
use Rattle.byteorder.specs.Endian.{little_from, little_bytes}

-- the word at a place
unfoldable pub word_at : List ℕ → ℕ → ℕ
word_at bytes place = little_from place 8 bytes

-- the bytes with a word put at a place
unfoldable pub put_word : List ℕ → ℕ → ℕ → List ℕ
put_word bytes place word = sets bytes place (little_bytes 8 word)

-- the bytes with others put at a place
unfoldable pub put_bytes : List ℕ → ℕ → List ℕ → List ℕ
put_bytes bytes place others = sets bytes place others

-- the bytes with words put from a place upwards, one after another
abbrev pub put_words : List ℕ → ℕ → List ℕ → List ℕ
put_words bytes place [] = bytes
put_words bytes place (word ∷ words) = put_words (put_word bytes place word) (place + 8) words

-- so many zeros
unfoldable pub zeros : ℕ → List ℕ
zeros count = replicate count 0

-- the bytes with zeros in a frame
unfoldable pub clear_frame : List ℕ → ℕ → List ℕ
clear_frame bytes frame = put_bytes bytes (PAGE_SIZE * frame) (zeros PAGE_SIZE)
