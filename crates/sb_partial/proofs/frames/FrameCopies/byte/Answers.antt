use Rattle.std.proofs.Common.{◌/◌, ◌∙◌, sym, arith}
use Rattle.sb_partial.proofs.OneFrame.{at_there, byte_at, is_bytes, not_missing, within_there}
use Rattle.sb_partial.proofs.frames.FrameCopies.byte.Goals as goal

pub index-requires : goal.index-requires
index-requires c =
    let inside = within_there c.self.inside.frames.items c.args.self.now (c.args.place / 4096) c.self.view_is c.requires in
    omega arith

pub unreachable-requires : goal.unreachable-requires
unreachable-requires c =
    let at = at_there (c.args.place / 4096) c.self.invariant c.self.view_is c.requires c.index.ensures c.in_default.is in
    not_missing at c.requires

pub returns : goal.returns
returns c =
    let at = at_there (c.args.place / 4096) c.self.invariant c.self.view_is c.requires c.index.ensures c.in-Some.is in
    c.byte.ensures ∙ sym (byte_at c.args.place is_bytes at)
