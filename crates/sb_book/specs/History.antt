-- What a machine has done so far, with its journal: one entry and one line for each step, and none of them idle.
use Rattle.std.specs.Prelude.{◌≡◌, ◌≢◌, ◌⊎◌, ℕ, ◌+◌, ◌<◌, List, [], ◌∷◌, ◌++◌, length, All}
use Rattle.sb_load.specs.Loading.{Load}
use Rattle.sb_load.specs.FirstState.{first_state}
use Rattle.sb_machine.specs.Machine.{Machine, core_at}
use Rattle.sb_machine.specs.Marks.{StepsWithMark}
use Rattle.sb_machine.specs.Ran.{HasRun}
use Rattle.sb_state.specs.State.{State}
use Rattle.sb_state.specs.declared.end_kind.EndKind.TheVariants.{Running}
use Rattle.sb_trace.specs.declared.event.Event.TheVariants.{Idle}
use Rattle.sb_trace.specs.declared.event.Line.{Line}

pub record History : Type 0 where
  -- what the machine started from
  pub load : Load
  pub machine : Machine
  -- the core of each step
  pub journal : List ℕ
  -- what each step said, with its mark
  pub lines : List Line
  -- how many further steps there is room for
  pub room : ℕ

-- the thread of a core goes on
abbrev pub IsRunning : Machine → ℕ → Type 0
IsRunning machine core = (core_at machine core).end ≡ Running

-- each thread has ended
abbrev pub AllEnded : Machine → Type 0
AllEnded machine = (core : ℕ) → core < length machine.cores → ¬ IsRunning machine core

-- each line is one of a thread that had not ended
abbrev pub NoneIdle : List Line → Type 0
NoneIdle lines = All (λ line. line.event ≢ Idle) lines

-- The machine has made the run of what was loaded under the journal, with these lines: it stands for the last state of the plain
-- machine's run.
pub record IsRun (history : History) : Type 0 where
  pub end : State
  pub ran : HasRun history.machine history.load history.journal history.lines end
  pub busy : NoneIdle history.lines
  pub cores : length history.machine.cores ≡ length history.load.bundle.cores

-- before the first step
pub record IsBegun (load : Load) (room : ℕ) (history : History) : Type 0 where
  pub load_is : history.load ≡ load
  pub started : HasRun history.machine load [] [] (first_state load)
  pub journal : history.journal ≡ []
  pub lines : history.lines ≡ []
  pub room_is : history.room ≡ room

-- one step of a core, with its entry and its line, which has its mark
pub record IsOneStep (old : History) (core : ℕ) (new : History) : Type 0 where
  pub line : Line
  pub core_is : line.core ≡ core
  pub step : StepsWithMark old.machine core line.event new.machine
  pub busy : line.event ≢ Idle
  pub load : new.load ≡ old.load
  pub journal : new.journal ≡ old.journal ++ core ∷ []
  pub lines : new.lines ≡ old.lines ++ line ∷ []
  pub room : new.room + 1 ≡ old.room

-- nothing is left to do: each thread has ended, or there is no room
abbrev pub IsDone : History → Type 0
IsDone history = AllEnded history.machine ⊎ (history.room ≡ 0)

-- the lowest core whose thread goes on
pub record IsLowest (machine : Machine) (core : ℕ) : Type 0 where
  pub inside : core < length machine.cores
  pub running : IsRunning machine core
  pub lowest : (before : ℕ) → before < core → ¬ IsRunning machine before

-- the core whose step a worker of this core makes: its own while its thread runs, else the lowest that runs
pub record IsNext (history : History) (core next : ℕ) : Type 0 where
  pub room : 0 < history.room
  pub running : IsRunning history.machine next
  pub own : IsRunning history.machine core → next ≡ core
  pub other : ¬ IsRunning history.machine core → IsLowest history.machine next

-- the history is that of what was loaded, with room for so many entries in all
pub record IsOfTask (load : Load) (limit : ℕ) (history : History) : Type 0 where
  pub load_is : history.load ≡ load
  pub limit_is : length history.journal + history.room ≡ limit
