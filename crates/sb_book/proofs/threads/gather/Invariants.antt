use Rattle.std.specs.Prelude.{◌≡◌, ◌+◌, ◌≤◌, vec_len}
use Rattle.sb_book.proofs.threads.gather.Given as goal

abbrev pub invariant-loop-one : goal.invariant-loop-one
invariant-loop-one g l = record {
  entries : l.all.entries.parts + vec_len l.stopped ≡ l.initial.all.entries.parts + vec_len l.initial.stopped;
  stops : l.all.stops.parts + vec_len l.stopped ≡ l.initial.all.stops.parts + vec_len l.initial.stopped;
  units : l.initial.all.stops.amount + vec_len l.initial.stopped ≤ l.all.stops.amount + vec_len l.stopped;
}

abbrev pub decreases-loop-one : goal.decreases-loop-one
decreases-loop-one g l = vec_len l.stopped
