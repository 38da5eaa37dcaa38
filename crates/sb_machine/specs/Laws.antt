-- The laws of the machine with page tables.
use Rattle.std.specs.Prelude.{ℕ, ◌≡◌, ◌≢◌, ◌+◌, ◌%◌, ◌^◌, ◌<◌, List, length, replicate}
use Rattle.std.specs.List.{All}
use Rattle.sb_memory.specs.Physical.{frame_count}
use Rattle.sb_trace.specs.declared.event.Event.{Event}
use Rattle.sb_trace.specs.declared.event.Event.TheVariants.{Idle}
use Rattle.sb_trace.specs.declared.event.Line.{Line}
use Rattle.sb_trace.specs.Changes.{StepChanges}
use Rattle.sb_trace.specs.Laws.{HasOneSwitch}
use Rattle.sb_trace.specs.OneStep.{StepsAlike}
use Rattle.sb_trace.specs.Marks.{StepsWithMark as PlainStepsWithMark, StepsAlikeWithMark}
use Rattle.sb_trace.specs.Run.{RunBy}
use Rattle.sb_trace.specs.State.{State}
use Rattle.sb_trace.specs.Step.{Steps as PlainSteps}
use Rattle.sb_shows.specs.Shows.{Shows}
use Rattle.sb_machine.specs.Counts.{made_by}
use Rattle.sb_machine.specs.Machine.{Machine, words_of}
use Rattle.sb_machine.specs.Marks.{StepsWithMark, OwnStepsWithMarks}
use Rattle.sb_machine.specs.OwnSteps.{OwnSteps, lines_of_core}
use Rattle.sb_machine.specs.Written.{Steps}
use Rattle.sb_machine.specs.StandsFor.{IsMachineOf}
use Rattle.sb_machine.specs.Translations.{SameTranslations}

-- The plain machine has a step with this line, and the machine stands for the state after it. That step is one of the machine
-- that calls in one step, or has a landing line and changes flights alone; what it changes is what its line permits; and behind
-- it VMFUNC's bytes may be fetched at one address alone.
pub record Follows (new : Machine) (state : State) (number : ℕ) (event : Event) : Type 0 where
  pub next : State
  pub steps : PlainSteps state number event next
  pub stands : IsMachineOf new next
  pub at_once : StepsAlike state number event next
  pub changes : StepChanges state number event next
  pub one_switch : HasOneSwitch next

-- each step of the machine is one of the plain machine
abbrev pub StepsArePlain : Type 0
StepsArePlain =
    (old : Machine) (number : ℕ) (event : Event) (new : Machine) (state : State) → number < length old.cores
    → IsMachineOf old state → Steps old number event new → Follows new state number event

-- The same with the mark of the line (docs/MARKS.md).
pub record FollowsWithMark (new : Machine) (state : State) (number : ℕ) (event : Event) : Type 0 where
  pub next : State
  pub steps : PlainStepsWithMark state number event next
  pub stands : IsMachineOf new next
  pub at_once : StepsAlikeWithMark state number event next
  pub changes : StepChanges state number event next
  pub one_switch : HasOneSwitch next

-- each step of the machine, with its mark, is one of the plain machine, with the same mark
abbrev pub StepsWithMarkArePlain : Type 0
StepsWithMarkArePlain =
    (old : Machine) (number : ℕ) (event : Event) (new : Machine) (state : State) → number < length old.cores
    → IsMachineOf old state → StepsWithMark old number event new → FollowsWithMark new state number event

-- a machine shows the state for which it stands
abbrev pub MachinesShow : Type 0
MachinesShow = (machine : Machine) (state : State) → IsMachineOf machine state → Shows state machine.memory (words_of machine)

-- By a kind of step of the plain machine, that has a run of one core with these lines, of which none is idle, and the machine stands
-- for its last state. The core has made so many lines more, modulo 2^64, and no other one has; each translation, and how many cores
-- and frames there are, is as before.
pub record FollowsRunBy (step : State → ℕ → Event → State → Type 0) (old : Machine) (state : State) (number : ℕ)
    (events : List Event) (new : Machine) : Type 0 where
  pub end : State
  pub runs : RunBy step state (replicate (length events) number) (lines_of_core number events) end
  pub stands : IsMachineOf new end
  pub busy : All (λ (line : Line). line.event ≢ Idle) (lines_of_core number events)
  pub made : made_by old number < 2 ^ 64 → made_by new number ≡ (made_by old number + length events) % 2 ^ 64
  pub others : (other : ℕ) → other ≢ number → made_by new other ≡ made_by old other
  pub translations : SameTranslations old new
  pub cores : length new.cores ≡ length old.cores
  pub frames : frame_count new.memory ≡ frame_count old.memory

-- by steps without marks, and by steps with them
abbrev pub FollowsRun : Machine → State → ℕ → List Event → Machine → Type 0
FollowsRun old state number events new = FollowsRunBy PlainSteps old state number events new

abbrev pub FollowsRunWithMarks : Machine → State → ℕ → List Event → Machine → Type 0
FollowsRunWithMarks old state number events new = FollowsRunBy PlainStepsWithMark old state number events new

-- steps that a core makes by itself are a run of the plain machine
abbrev pub OwnStepsArePlain : Type 0
OwnStepsArePlain =
    (old : Machine) (number : ℕ) (events : List Event) (new : Machine) (state : State) → number < length old.cores
    → IsMachineOf old state → OwnSteps old number events new → FollowsRun old state number events new

-- with their marks they are one with these marks
abbrev pub OwnStepsWithMarksArePlain : Type 0
OwnStepsWithMarksArePlain =
    (old : Machine) (number : ℕ) (events : List Event) (new : Machine) (state : State) → number < length old.cores
    → IsMachineOf old state → OwnStepsWithMarks old number events new → FollowsRunWithMarks old state number events new
