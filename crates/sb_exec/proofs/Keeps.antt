-- What each store keeps, an instruction keeps.
use Rattle.std.proofs.Common.{ℕ, List, [], ◌∷◌, Result, Ok, Err}
use Rattle.sb_insn.specs.declared.registers.Regs.{Regs}
use Rattle.sb_memory.specs.declared.address.Access.TheVariants as access
use Rattle.sb_bus.specs.declared.stop.BusStop.{BusStop}
use Rattle.sb_bus.specs.Interface.{Interface}
use Rattle.sb_bus.specs.Access.{store_answer, byte_for, where_stored}
use Rattle.sb_exec.specs.Row.{Row, MemoryAccess, Loads, LoadsForWrite, Stores, accesses}
use Rattle.sb_exec.specs.Execution.{Run, run, run_on, access_answer, meaning_after, call_of, execution_of}

-- a store, whatever it stores and where, keeps the claim
abbrev pub StoresKeep : (M A : Type 0) → Interface M A → (M → Type 0) → Type 0
StoresKeep M A bus claim = (meaning : M) (address size value : ℕ) → claim meaning → claim (bus.stored meaning address size value)

where_kept : (M : Type 0) (claim : M → Type 0) (answer : Result (Unit {0}) BusStop) (new old : M) → claim new → claim old
    → claim (where_stored answer new old)
where_kept M claim (Ok done) new old one other = one
where_kept M claim (Err stop) new old one other = other

access_keeps : (M A : Type 0) (bus : Interface M A) (claim : M → Type 0) → StoresKeep M A bus claim
    → (one : MemoryAccess) (meaning : M) (loaded : ℕ) → claim meaning → claim (meaning_after bus one meaning loaded)
access_keeps M A bus claim keep (Loads address size) meaning loaded holds = holds
access_keeps M A bus claim keep (LoadsForWrite address size) meaning loaded holds = holds
access_keeps M A bus claim keep (Stores address size value) meaning loaded holds =
    where_kept M claim (store_answer (byte_for (bus.byte meaning) access.Write) address size)
    (bus.stored meaning address size (value loaded)) meaning
    (keep meaning address size (value loaded) holds) holds

run_on_keeps : (M A : Type 0) (claim : M → Type 0) (next : M → A → ℕ
    → Run M A) (answer : Result ℕ BusStop) (meaning : M) (account : A)
    → claim meaning → ((loaded : ℕ) → claim (next meaning account loaded).meaning)
    → claim (run_on next answer meaning account).meaning
run_on_keeps M A claim next (Ok loaded) meaning account holds all = all loaded
run_on_keeps M A claim next (Err stop) meaning account holds all = holds

run_keeps : (M A : Type 0) (bus : Interface M A) (claim : M → Type 0) → StoresKeep M A bus claim
    → (list : List MemoryAccess) (meaning : M) (account : A) (loaded : ℕ) → claim meaning
    → claim (run bus list meaning account loaded).meaning
run_keeps M A bus claim keep [] meaning account loaded holds = holds
run_keeps M A bus claim keep (one ∷ others) meaning account loaded holds =
    let after = access_keeps M A bus claim keep one meaning loaded holds in
    run_on_keeps M A claim (run bus others) (access_answer bus one meaning loaded) (meaning_after bus one meaning loaded)
    (bus.rule (call_of one loaded) meaning account)
    after (λ next. run_keeps M A bus claim keep others (meaning_after bus one meaning loaded)
    (bus.rule (call_of one loaded) meaning account) next after)

pub execution_keeps : (M A : Type 0) (bus : Interface M A) (claim : M → Type 0) → StoresKeep M A bus claim
    → (row : Row) (regs : Regs) (meaning : M) (account : A) → claim meaning
    → claim (execution_of bus row regs meaning account).meaning
unfolding execution_of
execution_keeps M A bus claim keep row regs meaning account holds =
    run_keeps M A bus claim keep (accesses row) meaning account 0 holds
