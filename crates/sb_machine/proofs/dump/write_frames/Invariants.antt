use Rattle.std.proofs.Common.{◌≤◌, ◌+◌, ◌*◌, Ok}
use Rattle.sb_machine.specs.Writing.{Wrote, frame_part, texts}
use Rattle.sb_machine.proofs.dump.write_frames.Given as goal

abbrev pub invariant-loop-number : goal.invariant-loop-number
invariant-loop-number g l = record {
  wrote :
      Wrote (g.K.Sink.held l.fn.sink) (g.K.Sink.held l.sink) (g.K.Sink.faults l.fn.sink) (g.K.Sink.faults l.sink) l.first
      (texts (frame_part l.memory) l.number) (Ok l.written);
  few : l.written ≤ l.first + 256 * 65 * l.number;
}
