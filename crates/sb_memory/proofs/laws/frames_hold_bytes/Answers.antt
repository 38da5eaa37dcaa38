use Rattle.sb_memory.proofs.Frames.{length_frame_bytes, byte_read_in_frame, frame_outside, word_outside, held_frame}
use Rattle.sb_memory.proofs.laws.frames_hold_bytes.Goals as goal

pub returns-clause-length : goal.returns-clause-length
returns-clause-length c = length_frame_bytes

pub returns-clause-read : goal.returns-clause-read
returns-clause-read c = byte_read_in_frame

pub returns-clause-outside : goal.returns-clause-outside
returns-clause-outside c = frame_outside

pub returns-clause-words : goal.returns-clause-words
returns-clause-words c = word_outside

pub returns-clause-held : goal.returns-clause-held
returns-clause-held c = held_frame
