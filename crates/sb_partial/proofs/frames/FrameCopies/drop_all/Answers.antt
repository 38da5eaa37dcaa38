use Rattle.std.proofs.Common.{◌∙◌, length, sym, ap, arith}
use Rattle.std.proofs.lemmas.List.{with_items_is}
use Rattle.sb_partial.specs.CopiedFrames.{no_frames}
use Rattle.sb_partial.proofs.Changed.{all_none, frames_none, none_there}
use Rattle.sb_partial.proofs.OneFrame.{length_present, sound_frames}
use Rattle.sb_partial.proofs.frames.FrameCopies.drop_all.Goals as goal

pub invariant_of-self : goal.invariant_of-self
invariant_of-self c =
    let few = c.self.invariant.few in
    let none = all_none c.loop-frame.frame-items c.loop-frame.frame-index (length c.self.inside.frames.items)
    c.loop-frame.invariant (omega arith) (omega arith) in
    frames_none (length c.self.inside.frames.items)
    (with_items_is c.self.inside.frames c.loop-frame.frame-items (omega arith) ∙ none) few

pub returns-clause-copies : goal.returns-clause-copies
returns-clause-copies c =
    let none = all_none c.loop-frame.frame-items c.loop-frame.frame-index (length c.self.inside.frames.items)
    c.loop-frame.invariant (omega arith) (omega arith) in
    none_there (length c.self.inside.frames.items)
    (with_items_is c.self.inside.frames c.loop-frame.frame-items (omega arith) ∙ none)
    ∙ ap no_frames (sym (length_present c.self.inside.frames.items c.args.self.now c.self.view_is))

pub returns-clause-sound : goal.returns-clause-sound
returns-clause-sound c = sound_frames (invariant_of-self c)
