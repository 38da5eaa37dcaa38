-- Steps of one core over physical memory, one after another.
use Rattle.std.specs.Prelude.{◌≡◌, List, [], ◌∷◌, map}
use Rattle.sb_memory.specs.Physical.{Physical}
use Rattle.sb_trace.specs.declared.event.Event.{Event}
use Rattle.sb_machine.specs.declared.processor.CoreState.{CoreState}
use Rattle.sb_block.specs.declared.fact.MadeStep.{MadeStep}
use Rattle.sb_block.specs.Facts.{IsFact}
use Rattle.sb_block.specs.Step.{At, Rule, Made, CoreSteps}

-- a core over a memory with an account
abbrev pub at : {Account : Type 0} → CoreState → Physical → Account → At Account
at core memory account = record { core = core; memory = memory; account = account }

-- the core makes this step by itself, with this line and this fact
abbrev pub MakesStep : {Account : Type 0} → Rule Account → At Account → MadeStep → At Account → Type 0
MakesStep rule before step next = CoreSteps rule before (Made step.event next) × IsFact rule before next step.fact

-- so many steps, each of which the core makes by itself
unfoldable pub CoreRuns : {Account : Type 0} → Rule Account → At Account → List MadeStep → At Account → Type 0
CoreRuns rule before [] after = after ≡ before
CoreRuns {Account} rule before (step ∷ steps) after =
    (next : At Account) × MakesStep rule before step next × CoreRuns rule next steps after

-- their lines
abbrev pub events_of : List MadeStep → List Event
events_of steps = map (λ (step : MadeStep). step.event) steps
