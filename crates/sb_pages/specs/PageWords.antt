-- Words of 8 bytes and other numbers in the bytes of a page, the lowest byte first.
use Rattle.std.specs.Prelude.{ℕ, List, replicate}
use lib.Seq.{sets}
use Rattle.byteorder.specs.Endian.{little_from, little_bytes}
pub use Rattle.sb_memory.specs.Words.{put_words}
use Rattle.sb_memory.specs.declared.page.TheConstants.{PAGE_SIZE}

-- a page of zeros
unfoldable pub zeros : List ℕ
zeros = replicate PAGE_SIZE 0

-- the number of so many bytes at a place, the lowest first
unfoldable pub number_at : List ℕ → ℕ → ℕ → ℕ
number_at bytes place size = little_from place size bytes

-- the bytes with so many of the lowest bytes of a number put at a place, the lowest first
unfoldable pub put_number : List ℕ → ℕ → ℕ → ℕ → List ℕ
put_number bytes place size number = sets bytes place (little_bytes size number)
