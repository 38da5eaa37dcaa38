use Rattle.std.specs.Prelude.{◌≡◌, ◌+◌, vec_len}
use Rattle.sb_book.proofs.threads.jobs.Given as goal

abbrev pub invariant-loop-core : goal.invariant-loop-core
invariant-loop-core g l = record {
  jobs : vec_len l.jobs ≡ l.core;
  entries : l.all.entries.parts + l.core ≡ l.cores;
  stops : l.all.stops.parts + l.core ≡ l.cores;
  no_entries : l.all.entries.amount ≡ 0;
  no_stops : l.all.stops.amount ≡ 0;
}
