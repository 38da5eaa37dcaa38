-- A row in its two steps, as the code takes it: the load, and then the store.
use Rattle.std.specs.Prelude.{ℕ, Result, Ok, Err}
use Rattle.sb_memory.specs.declared.address.Access.TheVariants.{Read, Write}
use Rattle.sb_insn.specs.declared.registers.Regs.{Regs}
use Rattle.sb_bus.specs.declared.stop.BusStop.{BusStop}
use Rattle.sb_exec.specs.declared.action.Effect.{Effect}
use Rattle.sb_exec.specs.declared.action.Effect.TheVariants.{Next}
use Rattle.sb_exec.specs.declared.action.Load.{Load}
use Rattle.sb_exec.specs.declared.action.Load.TheVariants as load
use Rattle.sb_exec.specs.declared.action.Store.{Store}
use Rattle.sb_exec.specs.declared.action.Store.TheVariants as store
use Rattle.sb_alu.specs.Size.{size_bytes}
use Rattle.sb_bus.specs.Interface.{Interface, LoadBytes, LoadForWrite, StoreBytes}
use Rattle.sb_bus.specs.Access.{loaded_from, store_answer, byte_for, byte_for_write, where_stored}
use Rattle.sb_exec.specs.WriteBack.{without_store}
use Rattle.sb_exec.specs.Row.{Row}
use Rattle.sb_exec.specs.Execution.{Execution}

-- ---- the load

-- the number that a row loads, 0 where it loads nothing
abbrev pub row_load_answer : {M A : Type 0} → Interface M A → Load → M → Result ℕ BusStop
row_load_answer bus load.Nothing meaning = Ok 0
row_load_answer bus (load.Read address size) meaning =
    loaded_from (byte_for (bus.byte meaning) Read) address.0 (size_bytes size)
row_load_answer bus (load.ReadForWrite address size) meaning =
    loaded_from (byte_for_write (bus.byte meaning)) address.0 (size_bytes size)

-- the account after the load
abbrev pub row_load_account : {M A : Type 0} → Interface M A → Load → M → A → A
row_load_account bus load.Nothing meaning account = account
row_load_account bus (load.Read address size) meaning account =
    bus.rule (LoadBytes address.0 (size_bytes size)) meaning account
row_load_account bus (load.ReadForWrite address size) meaning account =
    bus.rule (LoadForWrite address.0 (size_bytes size)) meaning account

-- ---- the store

-- whether a row stores what it stores, if anything
abbrev pub row_store_answer : {M A : Type 0} → Interface M A → Store → M → Result (Unit {0}) BusStop
row_store_answer bus store.Nothing meaning = Ok tt
row_store_answer bus (store.At address size) meaning =
    store_answer (byte_for (bus.byte meaning) Write) address.0 (size_bytes size)

-- the meaning after the store of this number
abbrev pub row_store_meaning : {M A : Type 0} → Interface M A → Store → ℕ → M → M
row_store_meaning bus store.Nothing value meaning = meaning
row_store_meaning bus (store.At address size) value meaning =
    where_stored (store_answer (byte_for (bus.byte meaning) Write) address.0 (size_bytes size))
    (bus.stored meaning address.0 (size_bytes size) value) meaning

-- the account after it
abbrev pub row_store_account : {M A : Type 0} → Interface M A → Store → ℕ → M → A → A
row_store_account bus store.Nothing value meaning account = account
row_store_account bus (store.At address size) value meaning account =
    bus.rule (StoreBytes address.0 (size_bytes size) value) meaning account

-- ---- both

-- the effect, where the store is done
abbrev pub effect_if : Result (Unit {0}) BusStop → Effect → Result Effect BusStop
effect_if (Ok stored) effect = Ok effect
effect_if (Err stop) effect = Err stop

-- the new registers, where the store is done
abbrev pub registers_if : Result (Unit {0}) BusStop → Regs → Regs → Regs
registers_if (Ok stored) new old = new
registers_if (Err stop) new old = old

-- the store, after a load with this answer
abbrev pub store_after_load : {M A : Type 0} → Interface M A → Row → Regs → M → A → Result ℕ BusStop → Execution M A
store_after_load bus row regs meaning account (Err stop) =
    record { answer = Err stop; registers = regs; meaning = meaning; account = account }
store_after_load bus row regs meaning account (Ok loaded) = record {
  answer = effect_if (row_store_answer bus row.store meaning) row.effect;
  registers = registers_if (row_store_answer bus row.store meaning) (row.after loaded).regs regs;
  meaning = row_store_meaning bus row.store (row.after loaded).stored meaning;
  account = row_store_account bus row.store (row.after loaded).stored meaning account;
}

-- what the load and then the store leave
unfoldable pub load_then_store : {M A : Type 0} → Interface M A → Row → Regs → M → A → Execution M A
load_then_store bus row regs meaning account =
    store_after_load bus row regs meaning (row_load_account bus row.load meaning account) (row_load_answer bus row.load meaning)

-- ---- a row that stores nothing

-- it loads this, and the registers after it follow from the loaded number
abbrev pub row_without_store : Load → (ℕ → Regs) → Row
row_without_store loads after =
    record { load = loads; store = store.Nothing; after = λ loaded. without_store (after loaded); effect = Next }
