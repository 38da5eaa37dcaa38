-- What follows a step of the plain machine, to a state for which the machine stands.
use Rattle.std.proofs.Common.{ℕ}
use Rattle.sb_trace.specs.declared.event.Event.{Event}
use Rattle.sb_trace.specs.State.{State}
use Rattle.sb_trace.specs.Sound.{IsSound}
use Rattle.sb_trace.specs.Step.{Steps}
use Rattle.sb_trace.proofs.Landings.{steps_drop}
use Rattle.sb_trace.proofs.Steps.{steps_change}
use Rattle.sb_plain.proofs.Lawful.{one_switch}
use Rattle.sb_machine.specs.Machine.{Machine}
use Rattle.sb_machine.specs.StandsFor.{IsMachineOf}
use Rattle.sb_machine.specs.Laws.{Follows}

-- the laws hold of each step from a sound state
pub follows_by : (new : Machine) (state : State) (number : ℕ) (event : Event) (next : State) → IsSound state
    → Steps state number event next → IsMachineOf new next → Follows new state number event
follows_by new state number event next sound steps stands = record {
  next = next;
  steps = steps;
  stands = stands;
  at_once = steps_drop state number event next sound steps;
  changes = steps_change state number event next steps;
  one_switch = one_switch state number event next sound steps;
}
