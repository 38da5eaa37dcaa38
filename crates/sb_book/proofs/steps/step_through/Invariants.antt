use Rattle.std.specs.Prelude.{◌≡◌, List, length}
use Rattle.std.proofs.Common.{drop}
use Rattle.sb_trace.specs.declared.event.Event.{Event}
use Rattle.sb_machine.specs.Machine.{Machine}
use Rattle.sb_machine.specs.OwnSteps.{OwnSteps}
use Rattle.sb_book.proofs.steps.step_through.Given as goal

-- of the steps that lead to a machine, those that are not made yet lead there from what the machine is now
abbrev pub invariant-loop : goal.invariant-loop
invariant-loop l = record {
  cores : length l.machine.cores ≡ length l.fn.machine.cores;
  left : (events : List Event) (new : Machine) → OwnSteps l.fn.machine l.core events new → length events ≡ l.count
      → OwnSteps l.machine l.core (drop l.counter events) new;
}
