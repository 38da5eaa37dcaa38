use Rattle.std.specs.Prelude.{◌≡◌, ◌+◌, ◌≤◌, ◌++◌, vec_len, vec_capacity}
use Rattle.std.proofs.Common.{take}
use Rattle.sb_book.specs.Commit.{lines_marked}
use Rattle.sb_book.proofs.history.put_lines.Given as goal

abbrev pub invariant-loop-step : goal.invariant-loop-step
invariant-loop-step l = record {
  items : l.lines.items ≡ l.initial.lines.items ++ lines_marked l.machine l.core (take l.step-index l.steps);
  len : vec_len l.lines ≡ vec_len l.initial.lines + l.step-index;
  capacity : vec_capacity l.initial.lines ≤ vec_capacity l.lines;
}
