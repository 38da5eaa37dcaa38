use Rattle.std.proofs.Common.{◌≡◌, ◌≤◌, ◌-◌, length, take}
use Rattle.sb_port.specs.Port.{Appended}
use Rattle.sb_port.proofs.transfer.write_all.Given as goal

abbrev pub invariant-loop-written : goal.invariant-loop-written
invariant-loop-written g l = record {
  appended : Appended (g.K.Sink.held l.fn.sink) (g.K.Sink.held l.sink) (take l.written l.bytes);
  within : l.written ≤ length l.bytes;
  later : g.K.Sink.faults l.fn.sink ≤ g.K.Sink.faults l.sink;
  untouched : l.written ≡ 0 → l.sink ≡ l.fn.sink;
}

abbrev pub decreases-loop-written : goal.decreases-loop-written
decreases-loop-written g l = length l.bytes - l.written
