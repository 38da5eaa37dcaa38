use Rattle.std.proofs.Common.{◌∙◌, length-set, arith}
use Rattle.sb_root.specs.Tables.{base_entries}
use Rattle.sb_root.proofs.Filling.{tabled_more, tabled_all}
use Rattle.sb_root.proofs.LowPages.{base_beyond}
use Rattle.sb_root.proofs.view.base_entries.Goals as goal

pub loop-page-preserved : goal.loop-page-preserved
loop-page-preserved c =
    let size = c.loop-page.invariant.0 in (
      length-set c.loop-page.entries c.loop-page.page c.base_entry.result ∙ size,
      tabled_more c.loop-page.entries c.loop-page.page c.base_entry.result base_entries
          (omega arith) c.base_entry.ensures c.loop-page.invariant.1,
    )

pub returns : goal.returns
returns c =
    let size = c.loop-page.invariant.0 in
    tabled_all c.loop-page.entries base_entries (λ page below. c.loop-page.invariant.1 page (omega arith))
    (λ page beyond. base_beyond page (omega arith))
