-- A thread of the rewritten code beside the same thread of the original code.
use Rattle.std.specs.Prelude.{◌≡◌, ◌⊎◌, ℕ, zero, suc, Bool, true, false, ◌∷◌, Option, Some, None, []}
use Rattle.std.specs.List.{AllByRecursion}
use Rattle.sb_insn.specs.declared.registers.Regs.{Regs}
use Rattle.sb_bus.specs.declared.stop.BusStop.{BusStop}
use Rattle.sb_exec.specs.declared.action.Effect.TheVariants.{Next, Syscall, Switch, Undefined}
use Rattle.sb_exec.specs.Interface.{Interface}
use Rattle.sb_exec.specs.Row.{Row, accesses}
use Rattle.sb_exec.specs.Rows.{row_of}
use Rattle.sb_original.specs.Words.{Words}
use Rattle.sb_exec.specs.Simulation.{IsRowAt}
use Rattle.sb_original.specs.Slot.{Slotted, IsScratch, worked_through}
use Rattle.sb_original.specs.Original.{IsRegs}
use Rattle.sb_original.specs.Going.{original_before, Ahead, Left, MainWorks}
use Rattle.sb_origin_run.specs.Machine.{Code, Thread, Event, Ran, Stopped, NotFetched, Made, step, Run}
use Rattle.sb_origin_run.specs.Position.{Position, Same, Changed, Entry, AtOnce, InPre, AtMain, InPost, Nowhere, leads_astray, original_at, original_rip, told_event, original_lines}

-- ---- one thread

-- what a slot still does for a thread in it, whose original registers are these
abbrev pub IsAt : {M A N : Type 0} → Interface M A → (Words → M → N → Type 0) → Position → Slotted → Regs → Type 0
IsAt bus Holds (InPre slot done insn left) state regs =
    Ahead bus Holds slot.start regs done (insn ∷ left) state
    × MainWorks bus Holds (slot.row regs) slot.main slot.post (worked_through (insn ∷ left) state)
IsAt bus Holds (AtMain slot) state regs =
    (original_before slot.start slot.pre state ≡ regs) × MainWorks bus Holds (slot.row regs) slot.main slot.post state
IsAt bus Holds (InPost slot insn left) state regs = Left bus Holds regs (insn ∷ left) state
IsAt bus Holds Nowhere state regs = ⊥
IsAt bus Holds Same state regs = regs ≡ state.regs
IsAt bus Holds Changed state regs = regs ≡ state.regs
IsAt bus Holds (Entry slot) state regs = regs ≡ state.regs
IsAt bus Holds (AtOnce slot) state regs = regs ≡ state.regs

-- The memory of the one holds some words, and is that of the other beside its scratch page; by these words the registers of
-- the other are the original ones.
pub record Related {M A N B : Type 0} (bus : Interface M A) (Holds : Words → M → N → Type 0) (place : ℕ
    → Position) (left : Thread M A) (right : Thread N B) : Type 0 where
  pub words : Words
  pub holds : Holds words left.meaning right.meaning
  pub at : IsAt bus Holds (place left.regs.rip) (record { regs = left.regs; words = words }) right.regs

-- ---- steps that are not stray

-- a claim of what the original instruction does, where it is a step of the original code
abbrev pub AtRow : Position → Option (Regs → Row) → Regs → (Row → Type 0) → Type 0
AtRow (AtMain slot) found regs Claim = Claim (slot.row regs)
AtRow (AtOnce slot) found regs Claim = Claim (slot.row regs)
AtRow Same (Some row) regs Claim = Claim (row regs)
AtRow Changed (Some row) regs Claim = Claim (row regs)
AtRow Same None regs Claim = Unit {0}
AtRow Changed None regs Claim = Unit {0}
AtRow (Entry slot) found regs Claim = Unit {0}
AtRow (InPre slot done insn left) found regs Claim = Unit {0}
AtRow (InPost slot insn left) found regs Claim = Unit {0}
AtRow Nowhere found regs Claim = Unit {0}

-- a claim unless the step was stopped
abbrev pub UnlessStopped : Event → Type 0 → Type 0
UnlessStopped (Stopped stop) Claim = Unit {0}
UnlessStopped (Ran effect) Claim = Claim
UnlessStopped NotFetched Claim = Claim

-- a claim where an instruction goes on
abbrev pub WhereNext : Event → Type 0 → Type 0
WhereNext (Ran Next) Claim = Claim
WhereNext (Ran Syscall) Claim = Unit {0}
WhereNext (Ran Switch) Claim = Unit {0}
WhereNext (Ran Undefined) Claim = Unit {0}
WhereNext (Stopped stop) Claim = Unit {0}
WhereNext NotFetched Claim = Unit {0}

-- The step of the rewritten code leads nowhere astray, and the original instruction does not access the scratch page.
pub record IsNotStray {M A N : Type 0} (bus : Interface M A) (Holds : Words → M → N → Type 0) (IsOutside : ℕ → ℕ
    → Type 0) (target source : Code) (place : ℕ → Position) (left : Thread M A) : Type 0 where
  pub leads : WhereNext (step bus target left).event
      (leads_astray (place left.regs.rip) (place (step bus target left).thread.regs.rip) ≡ false)
  pub outside : (words : Words) (other : N) → Holds words left.meaning other
      → UnlessStopped (step bus target left).event
      (AtRow (place left.regs.rip) (source left.regs.rip)
      (original_at (place left.regs.rip) (record { regs = left.regs; words = words })) (λ row. IsRowAt IsOutside row))

-- and the registers are a machine's
pub record IsStraight {M A N : Type 0} (bus : Interface M A) (Holds : Words → M → N → Type 0) (IsOutside : ℕ → ℕ
    → Type 0) (target source : Code) (place : ℕ → Position) (left : Thread M A) : Type 0 where
  pub regs : IsRegs left.regs
  pub stays : IsNotStray bus Holds IsOutside target source place left

-- each step of a run is such a one
abbrev pub AreStraight : {M A N : Type 0} → Interface M A → (Words → M → N → Type 0) → (ℕ → ℕ → Type 0) → Code → Code
    → (ℕ → Position) → ℕ → Thread M A → Type 0
AreStraight bus Holds IsOutside target source place zero left = Unit {0}
AreStraight bus Holds IsOutside target source place (suc count) left =
    IsStraight bus Holds IsOutside target source place left
    × WhereNext (step bus target left).event
    (AreStraight bus Holds IsOutside target source place count (step bus target left).thread)

-- no step of a run is stray
abbrev pub AreNotStray : {M A N : Type 0} → Interface M A → (Words → M → N → Type 0) → (ℕ → ℕ → Type 0) → Code → Code
    → (ℕ → Position) → ℕ → Thread M A → Type 0
AreNotStray bus Holds IsOutside target source place zero left = Unit {0}
AreNotStray bus Holds IsOutside target source place (suc count) left =
    IsNotStray bus Holds IsOutside target source place left
    × WhereNext (step bus target left).event
    (AreNotStray bus Holds IsOutside target source place count (step bus target left).thread)

-- ---- what follows

-- An extra step goes on, and changes nothing of the original thread. Any other is a step of it, with the same event, and
-- leaves them related where it goes on.
abbrev pub StepAlike : {M A N B : Type 0} → Interface M A → (Words → M → N → Type 0) → (BusStop → BusStop) → (ℕ → Position)
    → Position → Thread M A → Thread N B → Made M A → Made N B → Bool → Type 0
StepAlike bus Holds naming place at left right made original true =
    (made.event ≡ Ran Next) × Related bus Holds place made.thread right
StepAlike bus Holds naming place at left right made original false =
    (original.event ≡ told_event naming made.event) × (right.regs.rip ≡ original_rip at left.regs.rip)
    × WhereNext made.event (Related bus Holds place made.thread original.thread)

-- the run of the original code has the lines without the extra ones, and ends related
pub record RunAlike {M A N B : Type 0} (bus : Interface M A) (Holds : Words → M → N → Type 0) (naming : BusStop
    → BusStop) (place : ℕ → Position) (rewritten : Run M A) (original : Run N B) : Type 0 where
  pub lines : original.lines ≡ original_lines place naming rewritten.lines
  pub end : Related bus Holds place rewritten.end original.end

-- ---- accesses

-- an instruction of pre or post accesses the scratch page alone; main makes the accesses of the original instruction, or
-- this makes none and main accesses the scratch page alone
abbrev pub AccessesAt : Position → Slotted → Regs → Type 0
AccessesAt (InPre slot done insn left) state regs = AllByRecursion IsScratch (accesses (row_of insn state.regs))
AccessesAt (InPost slot insn left) state regs = AllByRecursion IsScratch (accesses (row_of insn state.regs))
AccessesAt (AtMain slot) state regs =
    (accesses (row_of slot.main state.regs) ≡ accesses (slot.row regs))
    ⊎ ((accesses (slot.row regs) ≡ []) × AllByRecursion IsScratch (accesses (row_of slot.main state.regs)))
AccessesAt Same state regs = Unit {0}
AccessesAt Changed state regs = Unit {0}
AccessesAt (Entry slot) state regs = Unit {0}
AccessesAt (AtOnce slot) state regs = Unit {0}
AccessesAt Nowhere state regs = Unit {0}
