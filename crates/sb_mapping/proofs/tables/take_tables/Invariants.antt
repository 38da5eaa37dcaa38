use Rattle.std.proofs.Common.{◌≡◌, length}
use Rattle.sb_mapping.specs.StartTables.{TakesFrames}
use Rattle.sb_mapping.proofs.tables.take_tables.Given as goal

abbrev pub invariant-loop-table : goal.invariant-loop-table
invariant-loop-table l = record {
  taken : TakesFrames l.fn.book l.book l.tables l.table;
  eleven : length l.tables ≡ 11;
}
