use Rattle.std.proofs.Common.{◌<◌, rules}
use Rattle.sb_state.specs.Start.{heap_page}
use Rattle.sb_plain.proofs.Starting.{pages_more}
use Rattle.sb_plain.proofs.start.pages.push_heap.Goals as goal

pub loop-page-preserved : goal.loop-page-preserved
loop-page-preserved c =
    let below : c.loop-page.page < c.args.count = search rules in
    pages_more (heap_page c.args.process) c.loop-page.page c.args.count c.loop-page.pages.pages _ _ below
    c.in_ok-push_zeros.ensures c.loop-page.invariant
