-- The rewritten memory beside the original one: they agree outside the scratch page.
use Rattle.std.specs.Prelude.{◌≡◌, ℕ, ◌⊎◌, Result, Ok, Err}
use Rattle.sb_memory.specs.declared.address.Access.{Access}
use Rattle.sb_memory.specs.declared.address.Access.TheVariants.{Read, Write}
use Rattle.sb_memory.specs.Outcome.{done}
use Rattle.sb_insn.specs.declared.registers.Regs.{Regs}
use Rattle.sb_bus.specs.declared.stop.BusStop.{BusStop}
use Rattle.sb_exec.specs.declared.action.Effect.{Effect}
use Rattle.sb_exec.specs.Interface.{Interface}
use Rattle.sb_exec.specs.Access.{store_answer, byte_for, byte_for_write}
use Rattle.sb_exec.specs.Row.{Row}
use Rattle.sb_exec.specs.Execution.{Execution}
use Rattle.sb_exec.specs.Simulation.{named_answer, IsData, AgreeFrom}
use Rattle.sb_original.specs.Words.{Words}

-- Where the rewritten memory holds some words beside the original memory, both give the same bytes outside the scratch
-- page, and a store there keeps the words and what is beside them. At every address both permit an access to data, or both
-- stop it alike.
pub record AreBeside {M A N B : Type 0} (left : Interface M A) (right : Interface N B) (Holds : Words → M → N
    → Type 0) (IsOutside : ℕ → ℕ → Type 0)
    (naming : BusStop → BusStop) : Type 0 where
  pub reads : (words : Words) (first : M) (second : N) (address size : ℕ) → Holds words first second → IsOutside address size
      → AgreeFrom naming (byte_for (left.byte first) Read) (byte_for (right.byte second) Read) address size
  pub updates : (words : Words) (first : M) (second : N) (address size : ℕ) → Holds words first second → IsOutside address size
      → AgreeFrom naming (byte_for_write (left.byte first)) (byte_for_write (right.byte second)) address size
  pub writes : (words : Words) (first : M) (second : N) (address size : ℕ) → Holds words first second → IsOutside address size
      → AgreeFrom naming (byte_for (left.byte first) Write) (byte_for (right.byte second) Write) address size
  pub stored : (words : Words) (first : M) (second : N) (address size value : ℕ) → Holds words first second
      → IsOutside address size
      → store_answer (byte_for (left.byte first) Write) address size ≡ Ok tt
      → store_answer (byte_for (right.byte second) Write) address size ≡ Ok tt
      → Holds words (left.stored first address size value) (right.stored second address size value)
  pub stops : (words : Words) (first : M) (second : N) (address : ℕ) (how : Access) → Holds words first second → IsData how
      → done (right.byte second address how) ≡ named_answer naming (done (left.byte first address how))

-- the answer is a stop
abbrev pub IsStopped : {Value : Type 0} → Result Value BusStop → Type 0
IsStopped answer = (stop : BusStop) × (answer ≡ Err stop)

-- how two rows end: both with what follows from one loaded number, or both stopped with the registers as they were
abbrev pub EndAlike : Row → Row → Regs → Regs → Result Effect BusStop → Regs → Regs → Type 0
EndAlike row other regs other_regs answer new other_new =
    ((loaded : ℕ) × (new ≡ (row.after loaded).regs) × (other_new ≡ (other.after loaded).regs))
    ⊎ (IsStopped answer × (new ≡ regs) × (other_new ≡ other_regs))

-- The original's row on the original memory, and main's row on the rewritten one: the same answer, the same words beside
-- the original memory, and registers that follow from one loaded number.
pub record MainStep {M A N B : Type 0} (Holds : Words → M → N → Type 0) (naming : BusStop
    → BusStop) (words : Words) (row other : Row) (regs other_regs : Regs)
    (original : Execution N B) (rewritten : Execution M A) : Type 0 where
  pub answer : original.answer ≡ named_answer naming rewritten.answer
  pub holds : Holds words rewritten.meaning original.meaning
  pub ends : EndAlike row other regs other_regs rewritten.answer original.registers rewritten.registers
