use Rattle.std.proofs.Common.{◌/◌, arith}
use Rattle.sb_partial.proofs.Changed.{frames_changed, word_put}
use Rattle.sb_partial.proofs.OneFrame.{at_there, not_missing, sound_frames, within_there}
use Rattle.sb_partial.proofs.frames.FrameCopies.set_word.Goals as goal

pub index_mut-requires : goal.index_mut-requires
index_mut-requires c =
    let inside = within_there c.self.inside.frames.items c.args.self.now (c.args.word / 512) c.self.view_is c.requires in
    omega arith

pub unreachable-requires : goal.unreachable-requires
unreachable-requires c =
    let at = at_there (c.args.word / 512) c.self.invariant c.self.view_is c.requires c.index_mut.ensures.value c.in_default.is in
    not_missing at c.requires

pub invariant_of-self : goal.invariant_of-self
invariant_of-self c =
    let at = at_there (c.args.word / 512) c.self.invariant c.self.view_is c.requires c.index_mut.ensures.value c.in-Some.is in
    frames_changed c.self.invariant at c.set_word.ensures.whole

pub returns-clause-copies : goal.returns-clause-copies
returns-clause-copies c =
    let at = at_there (c.args.word / 512) c.self.invariant c.self.view_is c.requires c.index_mut.ensures.value c.in-Some.is in
    word_put c.set_word.new.self c.args.word c.args.value at c.set_word.ensures.copy

pub returns-clause-sound : goal.returns-clause-sound
returns-clause-sound c = sound_frames (invariant_of-self c)
