use Rattle.sb_memory.proofs.Frames.{byte_within, word_within, bytes_within, cleared_within}
use Rattle.sb_memory.proofs.laws.changes_leave_other_frames.Goals as goal

pub returns-clause-byte : goal.returns-clause-byte
returns-clause-byte c = byte_within

pub returns-clause-word : goal.returns-clause-word
returns-clause-word c = word_within

pub returns-clause-bytes : goal.returns-clause-bytes
returns-clause-bytes c = bytes_within

pub returns-clause-cleared : goal.returns-clause-cleared
returns-clause-cleared c = cleared_within
