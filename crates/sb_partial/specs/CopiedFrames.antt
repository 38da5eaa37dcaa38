-- The copies of all frames.
use Rattle.std.specs.Prelude.{ℕ, ◌≡◌, ◌*◌, ◌<◌, ◌≤◌, All, Bool, true, false, List, Option, Some, None, is_some, length, get_or, map, flat_map, replicate, set, count_by}
use Rattle.sb_memory.specs.declared.page.TheConstants.{PAGE_SIZE}
use Rattle.sb_memory.specs.Words.{put_bytes, zeros}
use Rattle.sb_partial.specs.declared.frame.TheConstants.{FRAME_WORDS}
use Rattle.sb_partial.specs.CopiedFrame.{CopiedFrame, IsWhole, no_flags}

-- the bytes of all frames as they were given, those with what was written since, which frames are there, and which words are
-- noted as read and as written
pub record CopiedFrames : Type 0 where
  pub given : List ℕ
  pub bytes : List ℕ
  pub present : List Bool
  pub read : List Bool
  pub written : List Bool

-- how many of these are true
abbrev pub true_count : List Bool → ℕ
true_count flags = count_by (λ flag. flag) flags

-- each byte and each word of each frame has its place, and only words of frames that are there are noted
pub record IsSound (copies : CopiedFrames) : Type 0 where
  pub few : length copies.present ≤ 8192
  pub given_size : length copies.given ≡ PAGE_SIZE * length copies.present
  pub bytes_size : length copies.bytes ≡ PAGE_SIZE * length copies.present
  pub read_size : length copies.read ≡ FRAME_WORDS * length copies.present
  pub written_size : length copies.written ≡ FRAME_WORDS * length copies.present
  pub given_small : (place : ℕ) → get_or copies.given place 0 < 256
  pub bytes_small : (place : ℕ) → get_or copies.bytes place 0 < 256
  pub read_few : true_count copies.read ≤ FRAME_WORDS * true_count copies.present
  pub written_few : true_count copies.written ≤ FRAME_WORDS * true_count copies.present

-- the copies with one more frame that is there, whose bytes are these
abbrev pub with_frame : CopiedFrames → ℕ → List ℕ → CopiedFrames
with_frame copies frame page = record copies {
  given = put_bytes copies.given (PAGE_SIZE * frame) page;
  bytes = put_bytes copies.bytes (PAGE_SIZE * frame) page;
  present = set copies.present frame true;
}

-- ---- one frame, of which there may be a copy

abbrev pub given_of : Option CopiedFrame → List ℕ
given_of None = zeros PAGE_SIZE
given_of (Some copy) = copy.given

abbrev pub bytes_of : Option CopiedFrame → List ℕ
bytes_of None = zeros PAGE_SIZE
bytes_of (Some copy) = copy.bytes

abbrev pub read_of : Option CopiedFrame → List Bool
read_of None = no_flags FRAME_WORDS
read_of (Some copy) = copy.read

abbrev pub written_of : Option CopiedFrame → List Bool
written_of None = no_flags FRAME_WORDS
written_of (Some copy) = copy.written

-- ---- all frames

-- the copies of frames, one behind another
unfoldable pub frames_in : List (Option CopiedFrame) → CopiedFrames
frames_in frames = record {
  given = flat_map given_of frames;
  bytes = flat_map bytes_of frames;
  present = map is_some frames;
  read = flat_map read_of frames;
  written = flat_map written_of frames;
}

-- so many frames, of none of which there is a copy
abbrev pub no_frames : ℕ → CopiedFrames
no_frames frames = record {
  given = replicate (PAGE_SIZE * frames) 0;
  bytes = replicate (PAGE_SIZE * frames) 0;
  present = replicate frames false;
  read = no_flags (FRAME_WORDS * frames);
  written = no_flags (FRAME_WORDS * frames);
}

-- the copy of a frame is whole, where there is one
abbrev pub IsWholeWhereThere : Option CopiedFrame → Type 0
IsWholeWhereThere None = Unit {0}
IsWholeWhereThere (Some copy) = IsWhole copy

-- the copies of frames, and how many there are
pub record AreFrames (frames : List (Option CopiedFrame)) (count : ℕ) : Type 0 where
  pub few : length frames ≤ 8192
  pub whole : All IsWholeWhereThere frames
  pub counted : count ≡ true_count (map is_some frames)
