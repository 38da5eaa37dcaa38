-- The text of a dump (docs/FORMATS.md, "The dump"): the words of each core, and the bytes of each frame in which one is not 0.
use Rattle.std.specs.Prelude.{ℕ, ◌≡◌, ◌+◌, ◌*◌, ◌/◌, ◌%◌, ◌^◌, ◌<◌, ◌==◌, Bool, not, List, ◌++◌, codes, flat_map, filter, length}
use Rattle.std.specs.List.{list_any, range_with_len, slice_range}
use Rattle.std.specs.Fmt.{decimal}
use Rattle.sb_memory.specs.Physical.{Physical, IsPhysical, HasAllFrames, frame_count}
use Rattle.sb_memory.specs.Frames.{frame_bytes}
use Rattle.sb_trace.specs.State.{State}
use Rattle.sb_trace.specs.EndText.{hex}
use Rattle.sb_trace.specs.Report.{line_feed}
use Rattle.sb_shows.specs.Shows.{CoreWords, Shows}

-- ---- the cores

abbrev pub words_text : CoreWords → List ℕ
words_text words =
    codes " eptp " ++ (hex words.eptp ++ (codes " list " ++ (hex words.list ++ (codes " cr3 " ++ hex words.cr3))))

abbrev pub core_line : (ℕ → CoreWords) → ℕ → List ℕ
core_line cores core = codes "core " ++ (decimal core ++ (words_text (cores core) ++ line_feed))

-- ---- the frames

-- two hexadecimal digits
abbrev pub byte_text : ℕ → List ℕ
byte_text byte = hex (byte / 16) ++ hex (byte % 16)

-- a line of a frame: 64 of its bytes
abbrev pub bytes_line : List ℕ → ℕ → List ℕ
bytes_line bytes line = flat_map byte_text (slice_range bytes (64 * line) (64 * line + 64)) ++ line_feed

-- a frame: its number, and its 64 lines
abbrev pub frame_text : Physical → ℕ → List ℕ
frame_text memory frame =
    codes "frame " ++ (hex frame ++ (line_feed ++ flat_map (bytes_line (frame_bytes memory frame)) (range_with_len 0 64)))

-- whether a frame has a byte other than 0
abbrev pub has_nonzero_byte : Physical → ℕ → Bool
has_nonzero_byte memory frame = list_any (λ byte. not (byte == 0)) (frame_bytes memory frame)

-- ---- the whole

abbrev pub dump_text : Physical → (ℕ → CoreWords) → ℕ → ℕ → List ℕ
dump_text memory cores core_count frames =
    codes "dump " ++ (decimal frames ++ (line_feed
    ++ (flat_map (core_line cores) (range_with_len 0 core_count)
    ++ (flat_map (frame_text memory) (filter (has_nonzero_byte memory) (range_with_len 0 frames)) ++ codes "end\n"))))

-- the words of a core are words of the processor
pub record AreCoreWords (words : CoreWords) : Type 0 where
  pub list : words.list < 2 ^ 64
  pub cr3 : words.cr3 < 2 ^ 64
  pub eptp : words.eptp < 2 ^ 64

-- A text is the dump of memory of so many frames, none missing, and of the words of so many cores.
pub record IsDump (text : List ℕ) (memory : Physical) (cores : ℕ → CoreWords) (core_count frames : ℕ) : Type 0 where
  pub physical : IsPhysical memory
  pub whole : HasAllFrames memory
  pub count : frame_count memory ≡ frames
  pub words : (core : ℕ) → core < core_count → AreCoreWords (cores core)
  pub is : text ≡ dump_text memory cores core_count frames

-- ---- what it determines

-- two memories of so many frames are the same, and so many cores have the same words
pub record IsSameMachine (memory memory' : Physical) (cores cores' : ℕ → CoreWords) (core_count core_count' frames frames' : ℕ)
    : Type 0 where
  pub frames_same : frames ≡ frames'
  pub count_same : core_count ≡ core_count'
  pub words : (core : ℕ) → core < core_count → cores core ≡ cores' core
  pub memory_same : memory ≡ memory'

-- A text is the dump of one memory, and of the words of so many cores.
abbrev pub DumpsOneMachine : Type 0
DumpsOneMachine =
    (text : List ℕ) (memory memory' : Physical) (cores cores' : ℕ → CoreWords) (core_count core_count' frames frames' : ℕ)
    → IsDump text memory cores core_count frames → IsDump text memory' cores' core_count' frames'
    → IsSameMachine memory memory' cores cores' core_count core_count' frames frames'

-- ---- a dump of a state

-- A text is a dump of so many frames that shows a state: it has a line for the core of each thread.
pub record IsDumpOf (text : List ℕ) (state : State) (frames : ℕ) : Type 0 where
  pub memory : Physical
  pub cores : ℕ → CoreWords
  pub is : IsDump text memory cores (length state.threads) frames
  pub shows : Shows state memory cores

-- Whoever reads such a text finds memory and words that show the state.
abbrev pub DumpsShow : Type 0
DumpsShow =
    (text : List ℕ) (state : State) (memory : Physical) (cores : ℕ → CoreWords) (core_count frames frames' : ℕ)
    → IsDumpOf text state frames → IsDump text memory cores core_count frames' → Shows state memory cores
