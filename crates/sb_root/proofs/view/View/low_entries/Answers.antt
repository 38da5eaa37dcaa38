use Rattle.std.proofs.Common.{◌∙◌, length-set, arith}
use Rattle.sb_root.specs.Tables.{view_entries}
use Rattle.sb_root.proofs.Filling.{tabled_more, tabled_all}
use Rattle.sb_root.proofs.LowPages.{view_beyond}
use Rattle.sb_root.proofs.view.View.low_entries.Goals as goal

pub loop-page-preserved : goal.loop-page-preserved
loop-page-preserved c =
    let size = c.loop-page.invariant.0 in (
      length-set c.loop-page.entries c.loop-page.page c.low_entry.result ∙ size,
      tabled_more c.loop-page.entries c.loop-page.page c.low_entry.result (view_entries c.args.self.now)
          (omega arith) c.low_entry.ensures c.loop-page.invariant.1,
    )

pub returns : goal.returns
returns c =
    let size = c.loop-page.invariant.0 in
    tabled_all c.loop-page.entries (view_entries c.args.self.now) (λ page below. c.loop-page.invariant.1 page (omega arith))
    (λ page beyond. view_beyond c.args.self.now page c.requires (omega arith))
