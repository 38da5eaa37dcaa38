-- Steps of one core, one after another, in which the kernels have no part.
use Rattle.std.specs.Prelude.{ℕ, ◌≡◌, ◌<◌, ◌⊎◌, Bool, true, false, IsTrue, List, [], ◌∷◌, length, map, Option, None}
use Rattle.sb_state.specs.declared.end_kind.EndKind.TheVariants.{Running}
use Rattle.sb_trace.specs.declared.event.Event.{Event}
use Rattle.sb_trace.specs.declared.event.Event.TheVariants as event
use Rattle.sb_trace.specs.declared.event.Line.{Line}
use Rattle.sb_walks.specs.Entry.{frame_in}
use Rattle.sb_walks.specs.Ept.{is_eptp}
use Rattle.sb_machine.specs.declared.processor.CoreState.{CoreState}
use Rattle.sb_machine.specs.declared.processor.Origin.{Origin}
use Rattle.sb_machine.specs.declared.place.Seen.{Seen}
use Rattle.sb_machine.specs.Machine.{Machine, core_at, with_core}
use Rattle.sb_machine.specs.Seens.{ChangesWords}
use Rattle.sb_machine.specs.Written.{Steps}

-- Whether the line is one of a step that the core makes by itself: an instruction that goes on, one of a landing, or a VMFUNC
-- that the list grants. At every other step the kernels do their part, or the thread has ended.
abbrev pub is_own : Event → Bool
is_own (event.Step rip) = true
is_own (event.Extra rip) = true
is_own (event.Stray rip) = true
is_own (event.Entered index slot) = true
is_own (event.WrongKey index) = true
is_own (event.PoolEmpty index) = true
is_own event.Return = true
is_own event.Turn = true
is_own (event.Landing phase) = true
is_own (event.Printed value) = false
is_own (event.Sys number answer) = false
is_own (event.Exit status) = false
is_own (event.Fault kind address) = false
is_own (event.ServerFault kind address) = false
is_own (event.ServerExit status) = false
is_own (event.Unbound index) = false
is_own (event.BadLeaf index) = false
is_own event.Idle = false

-- the lines of one core
abbrev pub lines_of_core : ℕ → List Event → List Line
lines_of_core number events = map (λ (event : Event). record { core = number; event = event }) events

-- so many such steps of one core, with these lines
unfoldable pub OwnSteps : Machine → ℕ → List Event → Machine → Type 0
OwnSteps old number [] new = new ≡ old
OwnSteps old number (event ∷ events) new =
    (next : Machine) × IsTrue (is_own event) × Steps old number event next × OwnSteps next number events new

-- the core has a thread that has not ended
pub record HasRunningCore (machine : Machine) (number : ℕ) : Type 0 where
  pub there : number < length machine.cores
  pub running : (core_at machine number).end ≡ Running

-- The core has this state now and memory these words. Nothing else has changed, but where the thread of the core stood at the
-- VMFUNC of a call that is not decided.
pub record Leaves (old : Machine) (number : ℕ) (after : CoreState) (writes : List Seen) (new : Machine) : Type 0 where
  pub memory : ChangesWords writes old.memory new.memory
  pub origin : Option Origin
  pub rest : new
      ≡ record (with_core old number (record (core_at old number) { state = after; origin = origin })) { memory = new.memory }

-- No flight began in between that is not decided: what is kept of where the thread stood at the VMFUNC is gone, or as before.
abbrev pub KeepsOrigin : Machine → ℕ → Machine → Type 0
KeepsOrigin old number new =
    ((core_at new number).origin ≡ None) ⊎ ((core_at new number).origin ≡ (core_at old number).origin)

-- Such steps of the core, in which no flight began that is not decided, leave it so, with these words in memory.
pub record AreSteps (old : Machine) (number : ℕ) (events : List Event) (after : CoreState) (writes : List Seen) (new : Machine)
    : Type 0 where
  pub steps : OwnSteps old number events new
  pub leaves : Leaves old number after writes new
  pub origin : KeepsOrigin old number new

-- what a core needs for its walks and its VMFUNC: its EPT pointer leads to a frame, and its list stands in one
pub record HasWalks (frames : ℕ) (state : CoreState) : Type 0 where
  pub pointer : IsTrue (is_eptp state.eptp)
  pub root : frame_in state.eptp < frames
  pub list : state.list.0 < frames
