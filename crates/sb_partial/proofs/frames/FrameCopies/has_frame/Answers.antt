use Rattle.std.proofs.Common.{◌∙◌, refl, sym, arith}
use Rattle.sb_partial.proofs.OneFrame.{at_copy, is_there_at, within_present}
use Rattle.sb_partial.proofs.frames.FrameCopies.has_frame.Goals as goal

pub index-requires : goal.index-requires
index-requires c =
    let inside = within_present c.self.inside.frames.items c.args.self.now c.args.frame c.self.view_is c.requires in
    omega arith

pub returns : goal.returns
returns c =
    let inside = within_present c.self.inside.frames.items c.args.self.now c.args.frame c.self.view_is c.requires in
    let at = at_copy c.args.frame c.self.invariant c.self.view_is inside c.index.ensures refl in
    c.is_some.ensures ∙ sym (is_there_at at)
