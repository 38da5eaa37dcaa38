use Rattle.std.proofs.Common.{◌≤◌, ◌+◌, ◌*◌, Ok}
use Rattle.sb_shows.specs.Dump.{bytes_line}
use Rattle.sb_machine.specs.Writing.{Wrote, texts}
use Rattle.sb_machine.proofs.dump.write_bytes.Given as goal

abbrev pub invariant-loop-number : goal.invariant-loop-number
invariant-loop-number g l = record {
  wrote :
      Wrote (g.K.Sink.held l.fn.sink) (g.K.Sink.held l.sink) (g.K.Sink.faults l.fn.sink) (g.K.Sink.faults l.sink) l.first
      (texts (bytes_line l.bytes) l.number) (Ok l.written);
  few : l.written ≤ l.first + 256 * l.number;
}
