use Rattle.std.proofs.Common.{arith}
use Rattle.sb_partial.proofs.Changed.{frames_added, frames_back, page_put}
use Rattle.sb_partial.proofs.OneFrame.{at_missing, sound_frames, within_present}
use Rattle.sb_partial.proofs.frames.FrameCopies.add.Goals as goal

pub index_mut-slot-requires : goal.index_mut-slot-requires
index_mut-slot-requires c =
    let inside = within_present c.self.inside.frames.items c.args.self.now c.args.frame c.self.view_is c.requires.frame in
    omega arith

pub returns-in_err-new-clause-sound : goal.returns-in_err-new-clause-sound
returns-in_err-new-clause-sound c =
    sound_frames (frames_back c.args.frame c.self.invariant c.index_mut-slot.ensures.value)

pub invariant_of-self-2 : goal.invariant_of-self-2
invariant_of-self-2 c =
    let inside = within_present c.self.inside.frames.items c.args.self.now c.args.frame c.self.view_is c.requires.frame in
    let at = at_missing c.args.frame c.self.invariant c.self.view_is inside c.requires.missing in
    frames_added c.self.invariant at c.in_ok-new.ensures.whole

pub returns-clause-given : goal.returns-clause-given
returns-clause-given c =
    let inside = within_present c.self.inside.frames.items c.args.self.now c.args.frame c.self.view_is c.requires.frame in
    let at = at_missing c.args.frame c.self.invariant c.self.view_is inside c.requires.missing in
    page_put c.in_ok-new.field-0 c.args.bytes.now at c.requires.size c.in_ok-new.ensures.copy

pub returns-clause-sound : goal.returns-clause-sound
returns-clause-sound c = sound_frames (invariant_of-self-2 c)
