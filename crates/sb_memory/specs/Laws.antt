-- The laws of words and of frames: what a change makes, and what it leaves.
use Rattle.std.specs.Prelude.{ℕ, ◌≡◌, ◌≢◌, ◌+◌, ◌%◌, ◌^◌, ◌<◌, ◌≤◌, ◌⊎◌, true, List, [], ◌∷◌, length, get_or, slice_index, slice_set}
use Rattle.std.specs.List.{Contains}
use Rattle.sb_memory.specs.declared.page.TheConstants.{PAGE_SIZE}
use Rattle.sb_memory.specs.Changes.{SameOutside}
use Rattle.sb_memory.specs.Frames.{frame_bytes}
use Rattle.sb_memory.specs.Physical.{HasSize, HoldsBytes, Physical, frame_count, frame_of, has_frame}
use Rattle.sb_memory.specs.Reading.{byte_read, byte_written, where_present, with_bytes, word_read}
use Rattle.sb_memory.specs.Words.{word_at, put_word, put_bytes, clear_frame, zeros}

-- ---- words

-- a word that is put at a place is read back there
abbrev pub WordsReadBack : Type 0
WordsReadBack = (bytes : List ℕ) (at word : ℕ) → at + 8 ≤ length bytes → word < 2 ^ 64
    → word_at (put_word bytes at word) at ≡ word

-- words at other multiples of 8 stay
abbrev pub OtherWordsStay : Type 0
OtherWordsStay = (bytes : List ℕ) (at word other : ℕ) → at % 8 ≡ 0 → other % 8 ≡ 0 → other ≢ at
    → word_at (put_word bytes at word) other ≡ word_at bytes other

-- bytes outside the word stay
abbrev pub OtherBytesStay : Type 0
OtherBytesStay = (bytes : List ℕ) (at word place : ℕ) → (place < at) ⊎ (at + 8 ≤ place)
    → get_or (put_word bytes at word) place 0 ≡ get_or bytes place 0

-- ---- the bytes of frames

-- a frame has as many bytes as a page
abbrev pub FramesAreWhole : Type 0
FramesAreWhole = (memory : Physical) (frame : ℕ) → HasSize memory → frame < frame_count memory
    → length (frame_bytes memory frame) ≡ PAGE_SIZE

-- a read of a byte answers with one of its frame's
abbrev pub ReadsAreOfFrames : Type 0
ReadsAreOfFrames = (memory : Physical) (place : ℕ)
    → byte_read memory place ≡ where_present memory place (slice_index (frame_bytes memory (frame_of place)) (place % PAGE_SIZE))

-- a frame in which nothing is changed keeps its bytes
abbrev pub FramesKeepBytes : Type 0
FramesKeepBytes = (frames : List ℕ) (old new : Physical) (frame : ℕ) → SameOutside frames old new → ¬ Contains frames frame
    → frame_bytes new frame ≡ frame_bytes old frame

-- a frame in which nothing is changed keeps its words
abbrev pub FramesKeepWords : Type 0
FramesKeepWords = (frames : List ℕ) (old new : Physical) (place : ℕ) → SameOutside frames old new
    → ¬ Contains frames (frame_of place) → place % 8 ≡ 0 → word_read new place ≡ word_read old place

-- a frame that holds the bytes of a page has these bytes
abbrev pub FramesHavePages : Type 0
FramesHavePages = (memory : Physical) (frame : ℕ) (page : List ℕ) → HasSize memory → frame < frame_count memory
    → length page ≡ PAGE_SIZE → HoldsBytes memory frame page → frame_bytes memory frame ≡ page

-- ---- what a change makes in its frame

-- a byte is written into the bytes of its frame, at its place from the frame's start
abbrev pub ByteIsMadeInFrame : Type 0
ByteIsMadeInFrame = (memory : Physical) (at byte : ℕ) → has_frame memory (frame_of at) ≡ true
    → frame_bytes (byte_written memory at byte) (frame_of at)
    ≡ slice_set (frame_bytes memory (frame_of at)) (at % PAGE_SIZE) byte

-- so is a word
abbrev pub WordIsMadeInFrame : Type 0
WordIsMadeInFrame = (memory : Physical) (at word : ℕ) → at % 8 ≡ 0
    → frame_bytes (with_bytes memory (put_word memory.bytes at word)) (frame_of at)
    ≡ put_word (frame_bytes memory (frame_of at)) (at % PAGE_SIZE) word

-- and so are bytes that end in the frame
abbrev pub BytesAreMadeInFrame : Type 0
BytesAreMadeInFrame = (memory : Physical) (at : ℕ) (bytes : List ℕ) → at % PAGE_SIZE + length bytes ≤ PAGE_SIZE
    → frame_bytes (with_bytes memory (put_bytes memory.bytes at bytes)) (frame_of at)
    ≡ put_bytes (frame_bytes memory (frame_of at)) (at % PAGE_SIZE) bytes

-- a frame that is cleared has zeros alone
abbrev pub ClearedFrameIsZero : Type 0
ClearedFrameIsZero = (memory : Physical) (frame : ℕ) → HasSize memory → frame < frame_count memory
    → frame_bytes (with_bytes memory (clear_frame memory.bytes frame)) frame ≡ zeros PAGE_SIZE

-- ---- what it leaves

-- a byte that is written leaves all bytes of other frames, the number of bytes, and which frames are there
abbrev pub ByteLeavesOtherFrames : Type 0
ByteLeavesOtherFrames = (memory : Physical) (at byte : ℕ) → SameOutside (frame_of at ∷ []) memory (byte_written memory at byte)

-- so does a word
abbrev pub WordLeavesOtherFrames : Type 0
WordLeavesOtherFrames = (memory : Physical) (at word : ℕ) → at % 8 ≡ 0
    → SameOutside (frame_of at ∷ []) memory (with_bytes memory (put_word memory.bytes at word))

-- so do bytes that end in the frame
abbrev pub BytesLeaveOtherFrames : Type 0
BytesLeaveOtherFrames = (memory : Physical) (at : ℕ) (bytes : List ℕ) → at % PAGE_SIZE + length bytes ≤ PAGE_SIZE
    → SameOutside (frame_of at ∷ []) memory (with_bytes memory (put_bytes memory.bytes at bytes))

-- and so does clearing a frame
abbrev pub ClearingLeavesOtherFrames : Type 0
ClearingLeavesOtherFrames = (memory : Physical) (frame : ℕ)
    → SameOutside (frame ∷ []) memory (with_bytes memory (clear_frame memory.bytes frame))
