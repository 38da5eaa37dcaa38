use Rattle.sb_partial.proofs.OneFrame.{counted_frames, sound_view}
use Rattle.sb_partial.proofs.frames.FrameCopies.copy_count.Goals as goal

pub returns-clause-count : goal.returns-clause-count
returns-clause-count c = counted_frames c.self.invariant c.self.view_is

pub returns-clause-sound : goal.returns-clause-sound
returns-clause-sound c = sound_view c.self.invariant c.self.view_is
