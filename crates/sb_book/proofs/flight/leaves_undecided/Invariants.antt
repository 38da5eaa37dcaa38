use Rattle.std.proofs.Common.{◌≡◌, false, drop}
use Rattle.sb_block.specs.Run.{events_of}
use Rattle.sb_book.specs.Undecided.{undecided_after}
use Rattle.sb_book.proofs.flight.leaves_undecided.Given as goal

abbrev pub invariant-loop-step : goal.invariant-loop-step
invariant-loop-step l =
    undecided_after l.undecided (events_of (drop l.step-index l.steps)) ≡ undecided_after false (events_of l.steps)
