use Rattle.std.proofs.Common.{◌∙◌, arith}
use Rattle.std.proofs.lemmas.List.{length-set}
use Rattle.sb_frames.specs.declared.kind.Kind.TheVariants.{GuestTable}
use Rattle.sb_mapping.proofs.StartTables.{one_taken}
use Rattle.sb_mapping.proofs.tables.take_tables.Goals as goal

pub loop-table-preserved : goal.loop-table-preserved
loop-table-preserved c =
    let below = c.loop-table-test.true in
    let eleven = c.loop-table.invariant.eleven in
    record {
      taken = one_taken c.args.book.now c.loop-table.book c.take_free.new.self c.loop-table.tables c.loop-table.table
          c.take_free.result (GuestTable, c.args.process) c.loop-table.invariant.taken
          (c.take_free.ensures.lowest.inside, c.take_free.ensures.lowest.free) c.take_free.ensures.taken
          c.take_free.ensures.fewer (omega (arith, below, eleven));
      eleven = length-set c.loop-table.tables c.loop-table.table c.take_free.result ∙ c.loop-table.invariant.eleven;
    }
