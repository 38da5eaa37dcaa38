use Rattle.std.proofs.Common.{arith}
use Rattle.sb_partial.proofs.Changed.{frames_changed, missing_in, page_put}
use Rattle.sb_partial.proofs.OneFrame.{at_copy, sound_frames, within_present}
use Rattle.sb_partial.proofs.frames.FrameCopies.give.Goals as goal

pub index_mut-requires : goal.index_mut-requires
index_mut-requires c =
    let inside = within_present c.self.inside.frames.items c.args.self.now c.args.frame c.self.view_is c.requires.frame in
    omega arith

pub invariant_of-self : goal.invariant_of-self
invariant_of-self c =
    let inside = within_present c.self.inside.frames.items c.args.self.now c.args.frame c.self.view_is c.requires.frame in
    let at = at_copy c.args.frame c.self.invariant c.self.view_is inside c.index_mut.ensures.value c.in-Some.is in
    frames_changed c.self.invariant at c.replace.ensures.whole

pub returns-in-Some-clause-given : goal.returns-in-Some-clause-given
returns-in-Some-clause-given c =
    let inside = within_present c.self.inside.frames.items c.args.self.now c.args.frame c.self.view_is c.requires.frame in
    let at = at_copy c.args.frame c.self.invariant c.self.view_is inside c.index_mut.ensures.value c.in-Some.is in
    page_put c.replace.new.self c.args.bytes.now at c.requires.size c.replace.ensures.copy

pub returns-in-Some-clause-sound : goal.returns-in-Some-clause-sound
returns-in-Some-clause-sound c = sound_frames (invariant_of-self c)

pub add-requires-clause-missing : goal.add-requires-clause-missing
add-requires-clause-missing c =
    let inside = within_present c.self.inside.frames.items c.args.self.now c.args.frame c.self.view_is c.requires.frame in
    missing_in c.self.inside.frames.items c.args.frame c.index_mut.result.now inside c.in-None.is
