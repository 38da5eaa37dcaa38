-- There are as many rewritten texts as processes, and their areas are small.
use Rattle.std.proofs.Common.{◌≡◌, ◌∙◌, ap, length, arith}
use Rattle.sb_load.proofs.Parts.{as_many}
use Rattle.sb_load.proofs.Sizes.{small_areas}
use Rattle.sb_load.proofs.loading.load.Goals as goal

pub check_entries-requires-clause-processes : goal.check_entries-requires-clause-processes
check_entries-requires-clause-processes c =
    let many : length c.items-2.result.now ≡ length c.args.bundle.now.images =
    ap length c.items-2.ensures ∙ as_many _ _ c.in_ok-rewritten.ensures ∙ ap length c.items.ensures in
    rw (many, c.items-3.ensures) c.requires.cores

pub check_frames-requires-clause-count : goal.check_frames-requires-clause-count
check_frames-requires-clause-count c =
    let many : length c.items-4.result.now ≡ length c.args.bundle.now.images =
    ap length c.items-4.ensures ∙ as_many _ _ c.in_ok-rewritten.ensures ∙ ap length c.items.ensures in
    omega (arith, c.requires.process_count.1)

pub check_frames-requires-clause-areas : goal.check_frames-requires-clause-areas
check_frames-requires-clause-areas c = rw c.items-4.ensures (small_areas _ _ c.in_ok-rewritten.ensures)
