-- The run of what was loaded, by the bundle's schedule.
use Rattle.std.specs.Prelude.{◌≡◌, ℕ, List, ◌++◌, Ok}
use Rattle.sb_bundle.specs.declared.bundle.Bundle.{Bundle}
use Rattle.sb_load.specs.Loading.{Load, Loads}
use Rattle.sb_load.specs.FirstState.{first_state}
use Rattle.sb_trace.specs.declared.end.EndState.{EndState}
use Rattle.sb_trace.specs.declared.event.Line.{Line}
use Rattle.sb_state.specs.State.{State}
use Rattle.sb_trace.specs.End.{end_of}
use Rattle.sb_trace.specs.Report.{lines_text}
use Rattle.sb_trace.specs.Runs.{Runs, IsTextOfRun}
use Rattle.sb_machine.specs.Machine.{Machine}
use Rattle.sb_machine.specs.Ran.{HasRun}

-- the bundle is loaded and runs, and this is written of the run
abbrev pub IsTextOfBundleRun : (List Line → EndState → List ℕ) → Bundle → List ℕ → Type 0
IsTextOfBundleRun text_of bundle text =
    (load : Load) × Loads bundle (Ok load) × IsTextOfRun text_of (first_state load) load.bundle.schedule text

-- the run has lines, and their text stands behind what stood there before
abbrev pub RunsWithText : State → List ℕ → State → List ℕ → List ℕ → Type 0
RunsWithText first schedule end before after =
    (lines : List Line) × Runs first schedule lines end × (after ≡ before ++ lines_text lines)

-- the machine has made the run of what was loaded under a schedule, and the text of its lines stands behind what stood there before
abbrev pub HasRunWithText : Machine → Load → List ℕ → List ℕ → List ℕ → Type 0
HasRunWithText machine load schedule before after =
    (lines : List Line) × (end : State) × HasRun machine load schedule lines end × (after ≡ before ++ lines_text lines)

-- the same with the lines themselves
abbrev pub HasRunWithLines : Machine → Load → List ℕ → List Line → Type 0
HasRunWithLines machine load schedule lines = (end : State) × HasRun machine load schedule lines end

-- the machine has made the run of what was loaded on the bundle's schedule, with these lines, and this is its end as reports show it
abbrev pub IsEndOfMachineRun : Machine → Load → List Line → EndState → Type 0
IsEndOfMachineRun machine load lines shown =
    (end : State) × HasRun machine load load.bundle.schedule lines end × (shown ≡ end_of end)

-- the machine has made the run of what was loaded on the bundle's schedule, and this is written of the run
abbrev pub IsTextOfMachineRun : (List Line → EndState → List ℕ) → Machine → Load → List ℕ → Type 0
IsTextOfMachineRun text_of machine load text =
    (lines : List Line) × (end : State) × HasRun machine load load.bundle.schedule lines end
    × (text ≡ text_of lines (end_of end))
