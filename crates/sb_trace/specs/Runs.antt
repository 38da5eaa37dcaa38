-- A run of the plain machine from a first state by a schedule, and the text that is written of it.
use Rattle.std.specs.Prelude.{◌≡◌, ℕ, List, map}
use Rattle.sb_state.specs.State.{State}
use Rattle.sb_trace.specs.declared.end.EndState.{EndState}
use Rattle.sb_trace.specs.declared.event.Line.{Line}
use Rattle.sb_trace.specs.End.{end_of}
use Rattle.sb_trace.specs.Run.{RunBy}
use Rattle.sb_trace.specs.OneStep.{without_flights, without_landings, core_of}
use Rattle.sb_trace.specs.Marks.{StepsWithMark, StepsOnceWithMark}

-- From the first state the cores of the schedule step in order, with these lines and their marks, to the last state.
abbrev pub Runs : State → List ℕ → List Line → State → Type 0
Runs first schedule lines end = RunBy StepsWithMark first schedule lines end

-- and this is the last state as reports show it
abbrev pub RunsTo : State → List ℕ → List Line → EndState → Type 0
RunsTo first schedule lines shown = (end : State) × Runs first schedule lines end × (shown ≡ end_of end)

-- this text is written of the run
abbrev pub IsTextOfRun : (List Line → EndState → List ℕ) → State → List ℕ → List ℕ → Type 0
IsTextOfRun text_of first schedule text =
    (lines : List Line) × (end : State) × Runs first schedule lines end × (text ≡ text_of lines (end_of end))

-- Without its landing lines and their entries of the schedule, the run is one of the machine that calls in one step.
abbrev pub RunsAtOnce : State → List Line → State → Type 0
RunsAtOnce first lines end =
    RunBy StepsOnceWithMark (without_flights first) (map core_of (without_landings lines)) (without_landings lines)
    (without_flights end)
