-- A machine that has made a run.
use Rattle.std.specs.Prelude.{ℕ, ◌≡◌, List}
use Rattle.sb_memory.specs.Physical.{frame_count}
use Rattle.sb_load.specs.Loading.{Load}
use Rattle.sb_load.specs.FirstState.{first_state}
use Rattle.sb_trace.specs.State.{State}
use Rattle.sb_trace.specs.Runs.{Runs}
use Rattle.sb_trace.specs.declared.event.Line.{Line}
use Rattle.sb_machine.specs.Counts.{made_by, entries_of}
use Rattle.sb_machine.specs.Machine.{Machine}
use Rattle.sb_machine.specs.StandsFor.{IsMachineOf}

-- The machine stands for the last state of the run of what was loaded under a schedule, with these lines. Each of its cores has
-- made as many lines as the schedule has entries of it, and it has the frames of the bundle.
pub record HasRun (machine : Machine) (load : Load) (schedule : List ℕ) (lines : List Line) (end : State) : Type 0 where
  pub runs : Runs (first_state load) schedule lines end
  pub stands : IsMachineOf machine end
  pub made : (core : ℕ) → made_by machine core ≡ entries_of core schedule
  pub frames : frame_count machine.memory ≡ load.bundle.frames
