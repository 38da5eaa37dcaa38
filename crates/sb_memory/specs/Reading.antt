-- What the calls of physical memory answer, and what they leave.
use Rattle.std.specs.Prelude.{ℕ, List, Result, Ok, Err, if◌then◌else◌, slice_index, slice_set}
use Rattle.sb_memory.specs.Physical.{Physical, frame_of, has_frame}
use Rattle.sb_memory.specs.Words.{word_at, put_word}
use Rattle.sb_memory.specs.declared.address.Missing.{Missing}

-- that a frame is not there
abbrev pub missing : ℕ → Missing
missing frame = record { frame = record { 0 = frame } }

-- an answer of a call at a place, where the frame of the place is there
abbrev pub where_present : {A : Type 0} → Physical → ℕ → A → Result A Missing
where_present memory place answer =
    if has_frame memory (frame_of place) then Ok answer else Err (missing (frame_of place))

-- what a read of a byte answers
abbrev pub byte_read : Physical → ℕ → Result ℕ Missing
byte_read memory place = where_present memory place (slice_index memory.bytes place)

-- what a read of a word answers
abbrev pub word_read : Physical → ℕ → Result ℕ Missing
word_read memory place = where_present memory place (word_at memory.bytes place)

-- what a write of a byte or a word answers
abbrev pub write_answer : Physical → ℕ → Result (Unit {0}) Missing
write_answer memory place = where_present memory place tt

-- memory whose bytes are these, with the same frames
abbrev pub with_bytes : Physical → List ℕ → Physical
with_bytes memory bytes = record memory { bytes = bytes }

-- the memory after a byte is written, if its frame is there
abbrev pub byte_written : Physical → ℕ → ℕ → Physical
byte_written memory place byte =
    if has_frame memory (frame_of place) then with_bytes memory (slice_set memory.bytes place byte) else memory

-- the memory after a word is written, if its frame is there
abbrev pub word_written : Physical → ℕ → ℕ → Physical
word_written memory place word =
    if has_frame memory (frame_of place) then with_bytes memory (put_word memory.bytes place word) else memory
