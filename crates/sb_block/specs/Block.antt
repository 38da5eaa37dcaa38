-- Blocks: so many steps of one core, as a function of the words that they read.
use Rattle.std.specs.Prelude.{ℕ, ◌≡◌, IsTrue, List, ◌∷◌, length}
use Rattle.sb_memory.specs.Physical.{Physical, IsPhysical, HasAllFrames, frame_count}
use Rattle.sb_agree.specs.Noted.{Noted, nothing, noted_rule}
use Rattle.sb_trace.specs.declared.event.Event.{Event}
use Rattle.sb_machine.specs.declared.processor.CoreState.{CoreState}
use Rattle.sb_machine.specs.declared.place.Seen.{Seen}
use Rattle.sb_machine.specs.Machine.{Machine, state_at}
use Rattle.sb_machine.specs.Marks.{OwnStepsWithMarks}
use Rattle.sb_machine.specs.OwnSteps.{HasRunningCore, Leaves, OwnSteps, is_own}
use Rattle.sb_machine.specs.Seens.{Holds, seen_core, seen_words}
use Rattle.sb_machine.specs.Written.{Steps}
use Rattle.sb_block.specs.declared.fact.MadeStep.{MadeStep}
use Rattle.sb_block.specs.Marked.{events_marked}
use Rattle.sb_block.specs.Run.{at, CoreRuns, events_of}
use Rattle.sb_block.specs.Step.{At, CoreOutcome, CoreSteps}

-- memory with all of so many frames, as a machine has it
pub record IsWhole (frames : ℕ) (memory : Physical) : Type 0 where
  pub count : frame_count memory ≡ frames
  pub sound : IsPhysical memory
  pub all : HasAllFrames memory

-- The block of so many steps of a core: in a memory with so many frames that holds the words which were read, that many steps
-- of the core, none of which is the kernels', read just these words before they write them, and leave this core and these words
-- written, each with its last value. How many lines the core had made is read first.
pub record IsBlock (frames number : ℕ) (before : CoreState) (steps : List MadeStep) (after : CoreState) (reads writes : List Seen)
    : Type 0 where
  pub memory : Physical
  pub whole : IsWhole frames memory
  pub ended : Physical
  pub noted : Noted
  pub runs : CoreRuns noted_rule (at before memory nothing) steps (at after ended noted)
  pub saw : reads ≡ seen_core number before ∷ seen_words memory noted.reads
  pub wrote : writes ≡ seen_words ended noted.writes

-- A block is so many steps of each machine in which it may be made, whatever else its memory holds: where a machine has as many
-- frames, the core's thread runs and is as the block begins, and the places that were read hold the values that were seen, these
-- steps, with the marks that they have on the machine before them, lead to the block's core and words. They change nothing else
-- but what is kept from the VMFUNC on.
abbrev pub BlockHolds : ℕ → ℕ → CoreState → List MadeStep → CoreState → List Seen → List Seen → Type 0
BlockHolds frames number before steps after reads writes =
    (machine : Machine) → IsWhole frames machine.memory → HasRunningCore machine number → state_at machine number ≡ before
    → Holds number before machine.memory reads
    → (new : Machine) × OwnSteps machine number (events_of steps) new
    × OwnStepsWithMarks machine number (events_marked machine number steps) new × Leaves machine number after writes new

-- THE LAW: each block is a run of the present machine
abbrev pub BlocksHold : Type 0
BlocksHold =
    (frames number : ℕ) (before : CoreState) (steps : List MadeStep) (after : CoreState) (reads writes : List Seen)
    → IsBlock frames number before steps after reads writes → BlockHolds frames number before steps after reads writes

-- a core, a number of steps and the words that they read decide the steps, the core after them and the words written
abbrev pub OneBlock : Type 0
OneBlock =
    (frames number : ℕ) (before : CoreState) (steps others : List MadeStep) (after last : CoreState)
    (reads writes written : List Seen) → IsBlock frames number before steps after reads writes
    → IsBlock frames number before others last reads written → length steps ≡ length others
    → (steps ≡ others) × (after ≡ last) × (writes ≡ written)

-- a step over copies comes to one thing
abbrev pub OneOutcome : Type 0
OneOutcome =
    (before : At Noted) (one two : CoreOutcome Noted) → CoreSteps noted_rule before one → CoreSteps noted_rule before two
    → one ≡ two

-- ---- steps that a core makes by itself

-- a machine has one such step of a core: each other step of this core has the same line and leads to the same machine
abbrev pub OneOwnStep : Type 0
OneOwnStep =
    (old : Machine) (number : ℕ) (event other : Event) (new last : Machine) → IsTrue (is_own event) → Steps old number event new
    → Steps old number other last → (event ≡ other) × (new ≡ last)

-- so many of them, one after another, have the same lines and lead to the same machine
abbrev pub OwnStepsAreOne : Type 0
OwnStepsAreOne =
    (old : Machine) (number : ℕ) (events others : List Event) (new last : Machine) → OwnSteps old number events new
    → OwnSteps old number others last → length events ≡ length others → (events ≡ others) × (new ≡ last)
