use Rattle.std.proofs.Common.{arith}
use Rattle.sb_partial.proofs.OneFrame.{length_present, sound_view}
use Rattle.sb_partial.proofs.frames.FrameCopies.frame_count.Goals as goal

pub returns-clause-count : goal.returns-clause-count
returns-clause-count c =
    let size = length_present c.self.inside.frames.items c.args.self.now c.self.view_is in
    omega arith

pub returns-clause-sound : goal.returns-clause-sound
returns-clause-sound c = sound_view c.self.invariant c.self.view_is
