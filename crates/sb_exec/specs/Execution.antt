-- A row on a memory: its accesses are made in their order, up to and with the first that stops.
use Rattle.std.specs.Prelude.{ℕ, ◌≡◌, List, [], ◌∷◌, Result, Ok, Err}
use Rattle.sb_memory.specs.declared.address.Access.TheVariants.{Read, Write}
use Rattle.sb_memory.specs.Outcome.{and_then}
use Rattle.sb_insn.specs.declared.registers.Regs.{Regs}
use Rattle.sb_bus.specs.declared.stop.BusStop.{BusStop}
use Rattle.sb_exec.specs.declared.action.Effect.{Effect}
use Rattle.sb_bus.specs.Interface.{Interface, BusCall, LoadBytes, LoadForWrite, StoreBytes}
use Rattle.sb_bus.specs.Access.{loaded_from, store_answer, byte_for, byte_for_write, where_stored}
use Rattle.sb_exec.specs.Row.{Row, MemoryAccess, Loads, LoadsForWrite, Stores, accesses}

-- ---- one access

-- the number that is loaded after an access, or why it stops
abbrev pub access_answer : {M A : Type 0} → Interface M A → MemoryAccess → M → ℕ → Result ℕ BusStop
access_answer bus (Loads address size) meaning loaded = loaded_from (byte_for (bus.byte meaning) Read) address size
access_answer bus (LoadsForWrite address size) meaning loaded = loaded_from (byte_for_write (bus.byte meaning)) address size
access_answer bus (Stores address size value) meaning loaded =
    and_then (store_answer (byte_for (bus.byte meaning) Write) address size) (λ _. Ok loaded)

-- only a store that is done changes the meaning
abbrev pub meaning_after : {M A : Type 0} → Interface M A → MemoryAccess → M → ℕ → M
meaning_after bus (Loads address size) meaning loaded = meaning
meaning_after bus (LoadsForWrite address size) meaning loaded = meaning
meaning_after bus (Stores address size value) meaning loaded =
    where_stored (store_answer (byte_for (bus.byte meaning) Write) address size)
    (bus.stored meaning address size (value loaded)) meaning

-- the call that makes an access
abbrev pub call_of : MemoryAccess → ℕ → BusCall
call_of (Loads address size) loaded = LoadBytes address size
call_of (LoadsForWrite address size) loaded = LoadForWrite address size
call_of (Stores address size value) loaded = StoreBytes address size (value loaded)

-- ---- all of them

-- what a run of accesses leaves: the number that was loaded, or the stop, the meaning and the account
pub record Run (Meaning Account : Type 0) : Type 0 where
  pub answer : Result ℕ BusStop
  pub meaning : Meaning
  pub account : Account

-- goes on after an access with this answer
abbrev pub run_on : {M A : Type 0} → (M → A → ℕ → Run M A) → Result ℕ BusStop → M → A → Run M A
run_on next (Ok loaded) meaning account = next meaning account loaded
run_on next (Err stop) meaning account = record { answer = Err stop; meaning = meaning; account = account }

-- the accesses in their order, after this number was loaded
abbrev pub run : {M A : Type 0} → Interface M A → List MemoryAccess → M → A → ℕ → Run M A
run bus [] meaning account loaded = record { answer = Ok loaded; meaning = meaning; account = account }
run bus (access ∷ others) meaning account loaded =
    run_on (run bus others) (access_answer bus access meaning loaded) (meaning_after bus access meaning loaded)
    (bus.rule (call_of access loaded) meaning account)

-- ---- the instruction

-- the effect comes where no access stops
abbrev pub effect_after : Effect → Result ℕ BusStop → Result Effect BusStop
effect_after effect (Ok loaded) = Ok effect
effect_after effect (Err stop) = Err stop

-- a stop leaves the registers
abbrev pub registers_after : Row → Regs → Result ℕ BusStop → Regs
registers_after row regs (Ok loaded) = (row.after loaded).regs
registers_after row regs (Err stop) = regs

-- what an instruction leaves
pub record Execution (Meaning Account : Type 0) : Type 0 where
  pub answer : Result Effect BusStop
  pub registers : Regs
  pub meaning : Meaning
  pub account : Account

-- by what the run of its accesses leaves
abbrev pub execution_by : {M A : Type 0} → Row → Regs → Run M A → Execution M A
execution_by row regs ended = record {
  answer = effect_after row.effect ended.answer;
  registers = registers_after row regs ended.answer;
  meaning = ended.meaning;
  account = ended.account;
}

-- what an instruction with this row leaves: nothing is loaded before its accesses
unfoldable pub execution_of : {M A : Type 0} → Interface M A → Row → Regs → M → A → Execution M A
execution_of bus row regs meaning account = execution_by row regs (run bus (accesses row) meaning account 0)

-- registers, meaning and account go from old to new by the row, and the answer is this
pub record Executes {M A : Type 0} (bus : Interface M A) (row : Row) (old_regs new_regs : Regs)
    (old_meaning new_meaning : M) (old_account new_account : A) (result : Result Effect BusStop) : Type 0 where
  pub answer : result ≡ (execution_of bus row old_regs old_meaning old_account).answer
  pub registers : new_regs ≡ (execution_of bus row old_regs old_meaning old_account).registers
  pub meaning : new_meaning ≡ (execution_of bus row old_regs old_meaning old_account).meaning
  pub account : new_account ≡ (execution_of bus row old_regs old_meaning old_account).account
