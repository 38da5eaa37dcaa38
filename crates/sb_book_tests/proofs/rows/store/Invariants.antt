use Rattle.std.proofs.Common.{◌≡◌}
use Rattle.sb_book_tests.proofs.rows.store.Given as goal

abbrev pub invariant-loop : goal.invariant-loop
invariant-loop g l = record {
  entries : l.share.entries.parts ≡ l.initial.share.entries.parts;
  stops : l.share.stops.parts ≡ l.initial.share.stops.parts;
}
