use Rattle.std.proofs.Common.{◌∙◌, length-set, arith}
use Rattle.sb_root.specs.Tables.{directory_entries}
use Rattle.sb_root.proofs.Filling.{tabled_more, tabled_all}
use Rattle.sb_root.proofs.LowPages.{directory_within, directory_beyond}
use Rattle.sb_root.proofs.tables.ViewTables.directory_entries.Goals as goal

pub loop-region-preserved : goal.loop-region-preserved
loop-region-preserved c =
    let size = c.loop-region.invariant.0 in (
      length-set c.loop-region.entries c.loop-region.region c.link.result ∙ size,
      tabled_more c.loop-region.entries c.loop-region.region c.link.result (directory_entries c.args.self.now.first.0)
          (omega arith)
          (directory_within c.args.self.now.first.0 c.loop-region.region c.region_table.result.0 c.link.result
          c.region_table.ensures c.link.ensures (omega arith) (omega arith)) c.loop-region.invariant.1,
    )

pub returns : goal.returns
returns c =
    let size = c.loop-region.invariant.0 in
    tabled_all c.loop-region.entries (directory_entries c.args.self.now.first.0)
    (λ index below. c.loop-region.invariant.1 index (omega arith))
    (λ index beyond. directory_beyond c.args.self.now.first.0 index (omega arith))
