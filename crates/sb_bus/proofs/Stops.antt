-- What stops an access is what stops one of its bytes: if each byte's stop has a property, then so has the access's.
use Rattle.std.proofs.Common.{ℕ, zero, suc, ◌+◌, ◌%◌, ◌^◌, List, ◌∷◌, Result, Ok, Err}
use Rattle.std.specs.Prelude.{IfErr}
use Rattle.sb_memory.specs.declared.address.Access.{Access}
use Rattle.sb_memory.specs.Outcome.{and_then, done}
use Rattle.sb_bus.specs.declared.stop.BusStop.{BusStop}
use Rattle.sb_bus.specs.Interface.{Interface}
use Rattle.sb_bus.specs.Access.{bytes_from, loaded_from, store_answer}

-- each byte's stop has the property, whatever the meaning, the address and the access
abbrev pub ByteStops : (M A : Type 0) → Interface M A → (BusStop → Type 0) → Type 0
ByteStops M A bus claim = (meaning : M) (address : ℕ) (how : Access) → IfErr (bus.byte meaning address how) claim

-- the stop of two answers, one after the other, is that of one of them
pub then_stops : (A B : Type 0) (claim : BusStop → Type 0) (first : Result A BusStop) (next : A → Result B BusStop)
    → IfErr first claim → ((value : A) → IfErr (next value) claim) → IfErr (and_then first next) claim
then_stops A B claim (Ok value) next one all = all value
then_stops A B claim (Err stop) next one all = one

done_stops : (A : Type 0) (claim : BusStop → Type 0) (answer : Result A BusStop) → IfErr answer claim → IfErr (done answer) claim
done_stops A claim (Ok value) one = tt
done_stops A claim (Err stop) one = one

bytes_stop : (claim : BusStop → Type 0) (byte : ℕ → Result ℕ BusStop) → ((address : ℕ) → IfErr (byte address) claim)
    → (count address : ℕ) → IfErr (bytes_from byte address count) claim
unfolding bytes_from
bytes_stop claim byte all zero address = tt
bytes_stop claim byte all (suc count) address =
    then_stops ℕ (List ℕ) claim (byte address)
    (λ lowest. and_then (bytes_from byte ((address + 1) % 2 ^ 64) count) (λ others. Ok (lowest ∷ others)))
    (all address)
    (λ lowest. then_stops (List ℕ) (List ℕ) claim (bytes_from byte ((address + 1) % 2 ^ 64) count)
    (λ others. Ok (lowest ∷ others))
    (bytes_stop claim byte all count ((address + 1) % 2 ^ 64)) (λ others. tt))

-- a load's stop has the property
pub load_stops : (claim : BusStop → Type 0) (byte : ℕ → Result ℕ BusStop) → ((address : ℕ) → IfErr (byte address) claim)
    → (address size : ℕ) → IfErr (loaded_from byte address size) claim
unfolding loaded_from
load_stops claim byte all address size =
    then_stops (List ℕ) ℕ claim (bytes_from byte address size) _ (bytes_stop claim byte all size address) (λ bytes. tt)

-- a store's stop has it
pub store_stops : (claim : BusStop → Type 0) (byte : ℕ → Result ℕ BusStop) → ((address : ℕ) → IfErr (byte address) claim)
    → (address size : ℕ) → IfErr (store_answer byte address size) claim
unfolding store_answer
store_stops claim byte all address size =
    done_stops (List ℕ) claim (bytes_from byte address size) (bytes_stop claim byte all size address)
