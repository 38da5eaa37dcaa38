-- Steps of a block with their marks (docs/MARKS.md), on a machine into which they are put.
use Rattle.std.specs.Prelude.{ℕ, List, map}
use Rattle.sb_trace.specs.declared.event.Event.{Event}
use Rattle.sb_trace.specs.Marks.{event_with_mark}
use Rattle.sb_machine.specs.Machine.{Machine}
use Rattle.sb_machine.specs.Marks.{map_shown}
use Rattle.sb_block.specs.declared.fact.MadeStep.{MadeStep}

-- the line of a step with its mark: by its fact, and by the text of the process that the view before it shows
abbrev pub event_marked : Machine → ℕ → MadeStep → Event
event_marked machine number step =
    event_with_mark (map_shown machine number step.fact.view) step.fact.next step.fact.scratch step.event

abbrev pub events_marked : Machine → ℕ → List MadeStep → List Event
events_marked machine number steps = map (event_marked machine number) steps
