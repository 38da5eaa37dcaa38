use Rattle.std.proofs.Common.{◌∙◌, sym}
use Rattle.sb_sub.proofs.heap.page_frame.Goals as goal

pub unreachable-requires : goal.unreachable-requires
unreachable-requires c =
    let there = c.requires.finds.there c.args.page c.requires.page in
    let e = sym c.in-None.is ∙ (c.heap_frame.ensures.frame ∙ there.1) in cc
