use Rattle.std.specs.Prelude.{◌≡◌, ◌≤◌}
use Rattle.sb_book.proofs.worker.work.Given as goal

abbrev pub invariant-loop : goal.invariant-loop
invariant-loop g l = record {
  entries : l.share.entries.parts ≡ l.initial.share.entries.parts;
  stops : l.share.stops.parts ≡ l.initial.share.stops.parts;
  made : l.initial.share.entries.amount ≤ l.share.entries.amount;
  units : l.share.stops.amount ≡ l.initial.share.stops.amount;
}
