-- A block is committed: its steps are made on the machine of a history, if all that it read still holds.
use Rattle.std.specs.Prelude.{ℕ, ◌≡◌, ◌≢◌, ◌+◌, ◌<◌, ◌≤◌, List, ◌∷◌, ◌++◌, length, map, replicate, All, Result, Ok, Err}
use Rattle.sb_memory.specs.Physical.{IsWordPlace}
use Rattle.sb_memory.specs.Words.{word_at}
use Rattle.sb_trace.specs.declared.event.Line.{Line}
use Rattle.sb_machine.specs.declared.processor.CoreState.{CoreState}
use Rattle.sb_machine.specs.declared.place.Place.{Place}
use Rattle.sb_machine.specs.declared.place.Place.TheVariants.{Word, Core}
use Rattle.sb_machine.specs.declared.place.Seen.{Seen}
use Rattle.sb_machine.specs.Counts.{made_by}
use Rattle.sb_machine.specs.Machine.{Machine}
use Rattle.sb_machine.specs.Marks.{OwnStepsWithMarks}
use Rattle.sb_machine.specs.OwnSteps.{Leaves, OwnSteps}
use Rattle.sb_machine.specs.Seens.{seen_core}
use Rattle.sb_block.specs.declared.fact.MadeStep.{MadeStep}
use Rattle.sb_block.specs.Block.{BlockHolds}
use Rattle.sb_block.specs.Marked.{event_marked, events_marked}
use Rattle.sb_block.specs.Places.{AreReadsIn, AreWritesIn}
use Rattle.sb_block.specs.Run.{events_of}
use Rattle.sb_book.specs.declared.commit.CommitRefusal.{CommitRefusal}
use Rattle.sb_book.specs.declared.commit.CommitRefusal.TheVariants.{Full, Stale}
use Rattle.sb_book.specs.History.{History}

-- ---- what a block must be

-- Steps, places read and words written that are a block of this core in a machine of so many frames. How many lines the core had
-- made is read first.
pub record IsBlockOf (frames core : ℕ) (before after : CoreState) (steps : List MadeStep) (reads writes : List Seen)
    : Type 0 where
  pub holds : BlockHolds frames core before steps after reads writes
  pub words : List Seen
  pub count_first : reads ≡ seen_core core before ∷ words
  pub reads_in : AreReadsIn frames core reads
  pub writes_in : AreWritesIn frames writes

-- on this machine the block's steps lead to the core and the words behind them, and have these marks
pub record LeadsBehind (old : Machine) (core : ℕ) (steps : List MadeStep) (after : CoreState) (writes : List Seen) : Type 0 where
  pub new : Machine
  pub own : OwnSteps old core (events_of steps) new
  pub marked : OwnStepsWithMarks old core (events_marked old core steps) new
  pub leaves : Leaves old core after writes new

-- ---- what still holds

-- a place of the machine
abbrev pub IsPlaceOf : Machine → Place → Type 0
IsPlaceOf machine (Word place) = IsWordPlace machine.memory place
IsPlaceOf machine (Core number) = number < length machine.cores

abbrev pub ArePlacesOf : Machine → List Seen → Type 0
ArePlacesOf machine seens = All (λ (seen : Seen). IsPlaceOf machine seen.place) seens

-- what stands at a place now
abbrev pub value_now : Machine → Place → ℕ
value_now machine (Word place) = word_at machine.memory.bytes place
value_now machine (Core number) = made_by machine number

abbrev pub HoldsNow : Machine → Seen → Type 0
HoldsNow machine seen = value_now machine seen.place ≡ seen.value

abbrev pub AllHoldNow : Machine → List Seen → Type 0
AllHoldNow machine seens = All (HoldsNow machine) seens

-- the first place of these that holds another value now than was seen
pub record IsFirstStale (machine : Machine) (seens : List Seen) (place : Place) (seen now : ℕ) : Type 0 where
  pub before : List Seen
  pub behind : List Seen
  pub parts : seens ≡ before ++ record { place = place; value = seen } ∷ behind
  pub held : AllHoldNow machine before
  pub stands : now ≡ value_now machine place
  pub differs : now ≢ seen

-- ---- what a commit does

-- the line of a step of a core with its mark, on a machine
abbrev pub line_marked : Machine → ℕ → MadeStep → Line
line_marked machine core step = record { core = core; event = event_marked machine core step }

abbrev pub lines_marked : Machine → ℕ → List MadeStep → List Line
lines_marked machine core steps = map (line_marked machine core) steps

-- so many steps of one core that it makes by itself, with their marks, and an entry and a line for each
pub record AreOwnSteps (old : History) (core : ℕ) (made : List MadeStep) (new : History) : Type 0 where
  pub steps : OwnStepsWithMarks old.machine core (events_marked old.machine core made) new.machine
  pub load : new.load ≡ old.load
  pub journal : new.journal ≡ old.journal ++ replicate (length made) core
  pub lines : new.lines ≡ old.lines ++ lines_marked old.machine core made
  pub room : new.room + length made ≡ old.room

-- What a commit answers, and the history after it. It is full exactly where the block has more steps than there is room; else
-- it is stale exactly where a read does not hold; else the block's steps are made.
abbrev pub Commits : History → ℕ → List MadeStep → List Seen → Result (Unit {0}) CommitRefusal → History → Type 0
Commits old core steps reads (Ok done) new =
    (length steps ≤ old.room) × AllHoldNow old.machine reads × AreOwnSteps old core steps new
Commits old core steps reads (Err (Full room)) new = (old.room < length steps) × (room ≡ old.room) × (new ≡ old)
Commits old core steps reads (Err (Stale place seen now)) new =
    (length steps ≤ old.room) × IsFirstStale old.machine reads place seen now × (new ≡ old)
