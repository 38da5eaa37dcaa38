-- What stops an instruction is what stops a byte: if each byte's stop has a property, then so has the instruction's.
use Rattle.std.proofs.Common.{ℕ, List, [], ◌∷◌, Result, Ok, Err, inl, inr, subst, sym}
use Rattle.std.specs.Prelude.{IfErr}
use Rattle.sb_memory.specs.declared.address.Access.TheVariants as access
use Rattle.sb_insn.specs.declared.registers.Regs.{Regs}
use Rattle.sb_bus.specs.declared.stop.BusStop.{BusStop}
use Rattle.sb_exec.specs.declared.action.Effect.{Effect}
use Rattle.sb_bus.specs.Interface.{Interface}
use Rattle.sb_bus.specs.Access.{store_answer, byte_for, byte_for_write}
use Rattle.sb_bus.proofs.Stops.{ByteStops, then_stops, load_stops, store_stops}
use Rattle.sb_exec.specs.Row.{Row, MemoryAccess, Loads, LoadsForWrite, Stores, accesses}
use Rattle.sb_exec.specs.Execution.{Run, run, run_on, access_answer, meaning_after, call_of, effect_after, execution_of}
use Rattle.sb_exec.specs.Fetching.{FetchesOn, undefined_at}

-- ---- an access, and all of them

access_stops : (M A : Type 0) (bus : Interface M A) (claim : BusStop → Type 0) → ByteStops M A bus claim
    → (one : MemoryAccess) (meaning : M) (loaded : ℕ) → IfErr (access_answer bus one meaning loaded) claim
access_stops M A bus claim all (Loads address size) meaning loaded =
    load_stops claim (byte_for (bus.byte meaning) access.Read) (λ at. all meaning at access.Read) address size
access_stops M A bus claim all (LoadsForWrite address size) meaning loaded =
    load_stops claim (byte_for_write (bus.byte meaning))
    (λ at. then_stops ℕ ℕ claim (bus.byte meaning at access.Write) (λ _. bus.byte meaning at access.Read)
    (all meaning at access.Write) (λ _. all meaning at access.Read))
    address size
access_stops M A bus claim all (Stores address size value) meaning loaded =
    then_stops (Unit {0}) ℕ claim (store_answer (byte_for (bus.byte meaning) access.Write) address size) (λ _. Ok loaded)
    (store_stops claim (byte_for (bus.byte meaning) access.Write) (λ at. all meaning at access.Write) address size) (λ _. tt)

run_on_stops : (M A : Type 0) (claim : BusStop → Type 0) (next : M → A → ℕ
    → Run M A) (answer : Result ℕ BusStop) (meaning : M) (account : A)
    → IfErr answer claim → ((loaded : ℕ) → IfErr (next meaning account loaded).answer claim)
    → IfErr (run_on next answer meaning account).answer claim
run_on_stops M A claim next (Ok loaded) meaning account one all = all loaded
run_on_stops M A claim next (Err stop) meaning account one all = one

run_stops : (M A : Type 0) (bus : Interface M A) (claim : BusStop → Type 0) → ByteStops M A bus claim
    → (list : List MemoryAccess) (meaning : M) (account : A) (loaded : ℕ)
    → IfErr (run bus list meaning account loaded).answer claim
run_stops M A bus claim all [] meaning account loaded = tt
run_stops M A bus claim all (one ∷ others) meaning account loaded =
    run_on_stops M A claim (run bus others) (access_answer bus one meaning loaded) (meaning_after bus one meaning loaded)
    (bus.rule (call_of one loaded) meaning account)
    (access_stops M A bus claim all one meaning loaded)
    (λ next. run_stops M A bus claim all others (meaning_after bus one meaning loaded)
    (bus.rule (call_of one loaded) meaning account) next)

effect_stops : (claim : BusStop → Type 0) (effect : Effect) (answer : Result ℕ BusStop) → IfErr answer claim
    → IfErr (effect_after effect answer) claim
effect_stops claim effect (Ok loaded) one = tt
effect_stops claim effect (Err stop) one = one

-- ---- an instruction

pub execution_stops : (M A : Type 0) (bus : Interface M A) (claim : BusStop → Type 0) → ByteStops M A bus claim
    → (row : Row) (regs : Regs) (meaning : M) (account : A) → IfErr (execution_of bus row regs meaning account).answer claim
unfolding execution_of
execution_stops M A bus claim all row regs meaning account =
    effect_stops claim row.effect (run bus (accesses row) meaning account 0).answer
    (run_stops M A bus claim all (accesses row) meaning account 0)

pub fetch_stops : (M A : Type 0) (bus : Interface M A) (claim : BusStop → Type 0) → ByteStops M A bus claim
    → (meaning : M) (address : ℕ) (account account' : A) → claim (undefined_at address)
    → (stop : BusStop) → FetchesOn bus meaning address account account' (Err stop) → claim stop
fetch_stops M A bus claim all meaning address account account' undefined stop fetches =
    elim fetches.fetched.ends [
      | inl never ↦ subst claim (sym never.1) undefined
      | inr failed ↦ subst (λ (answer : Result ℕ BusStop). IfErr answer claim) failed.1 (all meaning _ access.Fetch)
    ]
