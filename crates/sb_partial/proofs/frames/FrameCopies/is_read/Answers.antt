use Rattle.std.proofs.Common.{◌/◌, ◌∙◌, sym, arith}
use Rattle.sb_partial.proofs.OneFrame.{at_there, flag_at, is_read, not_missing, within_there}
use Rattle.sb_partial.proofs.frames.FrameCopies.is_read.Goals as goal

pub index-requires : goal.index-requires
index-requires c =
    let inside = within_there c.self.inside.frames.items c.args.self.now (c.args.word / 512) c.self.view_is c.requires in
    omega arith

pub unreachable-requires : goal.unreachable-requires
unreachable-requires c =
    let at = at_there (c.args.word / 512) c.self.invariant c.self.view_is c.requires c.index.ensures c.in_default.is in
    not_missing at c.requires

pub returns : goal.returns
returns c =
    let at = at_there (c.args.word / 512) c.self.invariant c.self.view_is c.requires c.index.ensures c.in-Some.is in
    c.is_read.ensures ∙ sym (flag_at c.args.word is_read at)
