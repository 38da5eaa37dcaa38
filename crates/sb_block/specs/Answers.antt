-- What a step over copies answers, and what a block's run answers.
use Rattle.std.specs.Prelude.{ℕ, ◌≡◌, ◌<◌, ◌⊎◌, List, ◌∷◌, length, Result, Ok, Err}
use Rattle.sb_memory.specs.Physical.{Physical}
use Rattle.sb_bus.specs.declared.stop.BusStop.{BusStop}
use Rattle.sb_bus.specs.declared.stop.BusStop.TheVariants as bus
use Rattle.sb_agree.specs.Noted.{Noted, nothing, noted_rule}
use Rattle.sb_trace.specs.declared.event.Event.{Event}
use Rattle.sb_machine.specs.declared.processor.CoreState.{CoreState}
use Rattle.sb_machine.specs.declared.place.Seen.{Seen}
use Rattle.sb_machine.specs.Seens.{seen_core, seen_words}
use Rattle.sb_block.specs.declared.fact.MadeStep.{MadeStep}
use Rattle.sb_block.specs.declared.one.StepStop.{StepStop}
use Rattle.sb_block.specs.declared.one.StepStop.TheVariants as why
use Rattle.sb_block.specs.declared.block.Stop.{Stop}
use Rattle.sb_block.specs.declared.block.Stop.TheVariants as stop
use Rattle.sb_partial.specs.Copies.{AllInside, Copied}
use Rattle.sb_block.specs.Run.{at, CoreRuns, MakesStep}
use Rattle.sb_block.specs.Step.{At, Rule, CoreOutcome, Made, Needs, Kernel, CoreSteps}

-- ---- a step

-- why a refused access makes no step: a missing frame, or a fault, which is the kernels'
abbrev pub stop_of : BusStop → StepStop
stop_of (bus.Missing frame) = why.NeedFrame frame
stop_of (bus.Fault kind address) = why.Kernel

-- that no step was made, as what a step comes to
abbrev pub outcome_of : {Account : Type 0} → StepStop → CoreOutcome Account
outcome_of (why.NeedFrame frame) = Needs frame.0
outcome_of why.Kernel = Kernel

-- a step that was made leads from old to new; one that was not leaves the core and the memory
abbrev pub Stepped : {Account : Type 0} → Rule Account → At Account → At Account → Result MadeStep StepStop → Type 0
Stepped rule old new (Ok step) = MakesStep rule old step new
Stepped rule old new (Err why) = CoreSteps rule old (outcome_of why) × (new.core ≡ old.core) × (new.memory ≡ old.memory)

-- what a part of a step comes to, told by its answer, with the core and the memory before and after it
abbrev pub ComesTo : {Account : Type 0} → CoreOutcome Account → At Account → At Account → Result Event StepStop → Type 0
ComesTo outcome old new (Ok event) = outcome ≡ Made event new
ComesTo outcome old new (Err why) = (outcome ≡ outcome_of why) × (new.core ≡ old.core) × (new.memory ≡ old.memory)

-- ---- steps one after another

-- so many steps were made as were asked for, or the next one is not made
abbrev pub EndsRun : ℕ → ℕ → At Noted → Result (Unit {0}) StepStop → Type 0
EndsRun limit count last (Ok done) = count ≡ limit
EndsRun limit count last (Err why) = (count < limit) × CoreSteps noted_rule last (outcome_of why)

-- ---- a block

-- the limit is reached, or the next step meets a frame that is not there, or is the kernels'
abbrev pub EndsAt : ℕ → ℕ → At Noted → Type 0
EndsAt limit count last = (count ≡ limit) ⊎ ((count < limit) × ((why : StepStop) × CoreSteps noted_rule last (outcome_of why)))

-- So many steps of the core over the copies, at least one, and what they read and wrote.
pub record IsRunOf (number : ℕ) (start : CoreState) (limit : ℕ) (copies : Physical)
    (core : ℕ) (before after : CoreState) (steps : List MadeStep) (reads writes : List Seen) : Type 0 where
  pub ended : Physical
  pub noted : Noted
  pub runs : CoreRuns noted_rule (at start copies nothing) steps (at after ended noted)
  pub ends : EndsAt limit (length steps) (at after ended noted)
  pub some : 0 < length steps
  pub of : core ≡ number
  pub from : before ≡ start
  pub saw : reads ≡ seen_core number start ∷ seen_words copies noted.reads
  pub wrote : writes ≡ seen_words ended noted.writes

-- why there is no block
abbrev pub told : StepStop → Stop
told (why.NeedFrame frame) = stop.NeedFrame frame
told why.Kernel = stop.Kernel

-- a block's fields, from the copies and the core before and after its steps
pub record IsGathered (number : ℕ) (start last : CoreState) (made : List MadeStep) (part : Copied)
    (core : ℕ) (before after : CoreState) (steps : List MadeStep) (reads writes : List Seen) : Type 0 where
  pub of : core ≡ number
  pub from : before ≡ start
  pub to : after ≡ last
  pub all : steps ≡ made
  pub saw : reads ≡ seen_core number start ∷ seen_words part.given part.began.reads
  pub wrote : writes ≡ seen_words part.memory part.began.writes
  pub reads_inside : AllInside part.given part.began.reads
  pub writes_inside : AllInside part.given part.began.writes

-- why no step is made, over the copies
abbrev pub Refuses : CoreState → Physical → Stop → Type 0
Refuses start copies (stop.NeedFrame frame) = CoreSteps noted_rule (at start copies nothing) (Needs frame.0)
Refuses start copies stop.Kernel = CoreSteps noted_rule (at start copies nothing) Kernel
Refuses start copies stop.Memory = Unit {0}
