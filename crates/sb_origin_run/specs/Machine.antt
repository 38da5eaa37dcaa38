-- A machine for one thread: it executes what its code has at RIP. The kernel's steps are not made: a run ends before them.
use Rattle.std.specs.Prelude.{ℕ, zero, suc, List, [], ◌∷◌, Option, Some, None, Result, Ok, Err}
use Rattle.sb_insn.specs.declared.registers.Regs.{Regs}
use Rattle.sb_bus.specs.declared.stop.BusStop.{BusStop}
use Rattle.sb_exec.specs.declared.action.Effect.{Effect}
use Rattle.sb_exec.specs.declared.action.Effect.TheVariants.{Next}
use Rattle.sb_exec.specs.Interface.{Interface}
use Rattle.sb_exec.specs.Row.{Row}
use Rattle.sb_exec.specs.Execution.{Execution, execution_of}

-- what stands at an address: the row of its instruction on the registers, if it can be fetched
abbrev pub Code : Type 0
Code = ℕ → Option (Regs → Row)

pub record Thread (Meaning Account : Type 0) : Type 0 where
  pub regs : Regs
  pub meaning : Meaning
  pub account : Account

-- ---- one step

-- an instruction was executed with this effect, or stopped; or none could be fetched
pub data Event : Type 0 where
  Ran : Effect → Event
  Stopped : BusStop → Event
  NotFetched : Event

abbrev pub event_of : Result Effect BusStop → Event
event_of (Ok effect) = Ran effect
event_of (Err stop) = Stopped stop

-- what came of a step, and the thread after it
pub record Made (Meaning Account : Type 0) : Type 0 where
  pub event : Event
  pub thread : Thread Meaning Account

abbrev pub made_by : {M A : Type 0} → Execution M A → Made M A
made_by execution = record {
  event = event_of execution.answer;
  thread = record { regs = execution.registers; meaning = execution.meaning; account = execution.account };
}

abbrev pub executed : {M A : Type 0} → Interface M A → Option (Regs → Row) → Thread M A → Made M A
executed bus None thread = record { event = NotFetched; thread = thread }
executed bus (Some row) thread = made_by (execution_of bus (row thread.regs) thread.regs thread.meaning thread.account)

abbrev pub step : {M A : Type 0} → Interface M A → Code → Thread M A → Made M A
step bus code thread = executed bus (code thread.regs.rip) thread

-- ---- a run

pub record Line : Type 0 where
  pub rip : ℕ
  pub event : Event

pub record Run (Meaning Account : Type 0) : Type 0 where
  pub lines : List Line
  pub end : Thread Meaning Account

-- behind an instruction that goes on, the rest of the run; anything else ends it, and the thread stays as it was
abbrev pub run_on : {M A : Type 0} → (Thread M A → Run M A) → Thread M A → Event → Thread M A → Run M A
run_on rest before (Ran Next) after =
    record { lines = record { rip = before.regs.rip; event = Ran Next } ∷ (rest after).lines; end = (rest after).end }
run_on rest before event after = record { lines = record { rip = before.regs.rip; event = event } ∷ []; end = before }

-- so many entries of a schedule
abbrev pub run : {M A : Type 0} → Interface M A → Code → ℕ → Thread M A → Run M A
run bus code zero thread = record { lines = []; end = thread }
run bus code (suc count) thread = run_on (run bus code count) thread (step bus code thread).event (step bus code thread).thread
