-- The copy of one frame.
use Rattle.std.specs.Prelude.{ℕ, ◌≡◌, ◌+◌, ◌<◌, Bool, false, List, length, get_or, replicate, slice_range}
use Rattle.sb_memory.specs.Words.{put_bytes}
use Rattle.sb_memory.specs.declared.page.TheConstants.{PAGE_SIZE}
use Rattle.sb_partial.specs.declared.frame.TheConstants.{FRAME_WORDS}

-- the bytes as they were given, the bytes with what was written since, and which words are noted as read and as written
pub record CopiedFrame : Type 0 where
  pub given : List ℕ
  pub bytes : List ℕ
  pub read : List Bool
  pub written : List Bool

-- each byte and each word of the frame is there
pub record IsWhole (copy : CopiedFrame) : Type 0 where
  pub given_size : length copy.given ≡ PAGE_SIZE
  pub bytes_size : length copy.bytes ≡ PAGE_SIZE
  pub read_size : length copy.read ≡ FRAME_WORDS
  pub written_size : length copy.written ≡ FRAME_WORDS
  pub given_small : (place : ℕ) → get_or copy.given place 0 < 256
  pub bytes_small : (place : ℕ) → get_or copy.bytes place 0 < 256

-- the bytes with the 8 that were given at a place
abbrev pub bytes_restored : List ℕ → List ℕ → ℕ → List ℕ
bytes_restored given bytes place = put_bytes bytes place (slice_range given place (place + 8))

-- so many words, none of which is noted
unfoldable pub no_flags : ℕ → List Bool
no_flags words = replicate words false

-- a copy to which nothing was done
abbrev pub new_copy : List ℕ → CopiedFrame
new_copy bytes = record { given = bytes; bytes = bytes; read = no_flags FRAME_WORDS; written = no_flags FRAME_WORDS }
