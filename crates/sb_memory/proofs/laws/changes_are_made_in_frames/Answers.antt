use Rattle.sb_memory.proofs.Frames.{byte_in_frame, word_in_frame, bytes_in_frame, cleared_frame}
use Rattle.sb_memory.proofs.laws.changes_are_made_in_frames.Goals as goal

pub returns-clause-byte : goal.returns-clause-byte
returns-clause-byte c = byte_in_frame

pub returns-clause-word : goal.returns-clause-word
returns-clause-word c = word_in_frame

pub returns-clause-bytes : goal.returns-clause-bytes
returns-clause-bytes c = bytes_in_frame

pub returns-clause-cleared : goal.returns-clause-cleared
returns-clause-cleared c = cleared_frame
