-- A row that meets no stop of some kind on the left does the same on the right.
use Rattle.std.proofs.Common.{◌≡◌, ℕ, zero, suc, ◌+◌, ◌%◌, ◌^◌, Bool, List, [], ◌∷◌, refl}
use Rattle.std.specs.Prelude.{Result, Ok, Err}
use Rattle.sb_memory.specs.declared.address.Access.TheVariants as access
use Rattle.sb_bus.specs.declared.stop.BusStop.{BusStop}
use Rattle.sb_exec.specs.declared.action.Effect.{Effect}
use Rattle.sb_memory.specs.Outcome.{and_then, done}
use Rattle.sb_bus.specs.Access.{bytes_from, loaded_from, store_answer, byte_for, byte_for_write}
use Rattle.sb_bus.specs.Interface.{Interface}
use Rattle.sb_exec.specs.Row.{MemoryAccess, Loads, LoadsForWrite, Stores, accesses}
use Rattle.sb_exec.specs.Execution.{Run, run, run_on, execution_of, access_answer, effect_after}
use Rattle.sb_exec.specs.Simulation.{named_answer, WhereOk, StoresKeep, IsAnywhere, IsIn, BytesAgreeIn, AgreeFrom, AgreeAt, AgreeAlong, RowsIn}
use Rattle.sb_exec.proofs.Simulation.{where_ok_map, anywhere, access_related, rows_agreeing}

in_first : {Value Next : Type 0} (out : BusStop → Bool) (answer : Result Value BusStop) (next : Value → Result Next BusStop)
    → IsIn out (and_then answer next) → IsIn out answer
in_first out (Ok value) next given = tt
in_first out (Err stop) next given = given

in_listed : (out : BusStop → Bool) (lowest : ℕ) (rest : Result (List ℕ) BusStop)
    → IsIn out (and_then rest (λ others. Ok (lowest ∷ others))) → IsIn out rest
in_listed out lowest (Ok others) given = tt
in_listed out lowest (Err stop) given = given

in_rest : (out : BusStop → Bool) (byte : Result ℕ BusStop) (rest : Result (List ℕ) BusStop)
    → IsIn out (and_then byte (λ lowest. and_then rest (λ others. Ok (lowest ∷ others)))) → WhereOk byte (λ _. IsIn out rest)
in_rest out (Ok lowest) rest given = in_listed out lowest rest given
in_rest out (Err stop) rest given = tt

in_done : (out : BusStop → Bool) (bytes : Result (List ℕ) BusStop) → IsIn out (done bytes) → IsIn out bytes
in_done out (Ok others) given = tt
in_done out (Err stop) given = given

from_in : (naming : BusStop → BusStop) (out : BusStop → Bool) (left right : ℕ → Result ℕ BusStop)
    → ((address : ℕ) → IsIn out (left address) → right address ≡ named_answer naming (left address)) → (address count : ℕ)
    → IsIn out (bytes_from left address count) → AgreeFrom naming left right address count
unfolding AgreeFrom bytes_from
from_in naming out left right same address zero given = tt
from_in naming out left right same address (suc count) given = (
  same address (in_first out (left address) _ given),
  where_ok_map (left address) (λ _. IsIn out (bytes_from left ((address + 1) % 2 ^ 64) count)) _
      (λ _ rest. from_in naming out left right same ((address + 1) % 2 ^ 64) count rest)
      (in_rest out (left address) (bytes_from left ((address + 1) % 2 ^ 64) count) given),
)

to_write_in : (naming : BusStop → BusStop) (out : BusStop → Bool) (write read write' read' : Result ℕ BusStop)
    → (IsIn out write → write' ≡ named_answer naming write) → (IsIn out read → read' ≡ named_answer naming read)
    → IsIn out (and_then write (λ _. read)) → and_then write' (λ _. read') ≡ named_answer naming (and_then write (λ _. read))
to_write_in naming out (Ok lowest) read write' read' equal also given = rw (equal tt, also given) refl
to_write_in naming out (Err stop) read write' read' equal also given = rw (equal given) refl

at_in : {M N A B : Type 0} (Related : M → N → Type 0) (naming : BusStop → BusStop) (out : BusStop
    → Bool) (left : Interface M A) (right : Interface N B)
    → BytesAgreeIn Related naming out left right → (one_access : MemoryAccess) (first : M) (second : N) (loaded : ℕ)
    → Related first second
    → IsIn out (access_answer left one_access first loaded) → AgreeAt naming left right one_access first second
unfolding loaded_from store_answer
at_in Related naming out left right all (Loads address size) first second loaded related given =
    from_in naming out _ _ (λ address. all.byte first second related address access.Read tt) address size
    (in_first out (bytes_from (byte_for (left.byte first) access.Read) address size) _ given)
at_in Related naming out left right all (LoadsForWrite address size) first second loaded related given =
    from_in naming out _ _
    (λ address. to_write_in naming out _ _ _ _ (all.byte first second related address access.Write tt)
    (all.byte first second related address access.Read tt)) address size
    (in_first out (bytes_from (byte_for_write (left.byte first)) address size) _ given)
at_in Related naming out left right all (Stores address size value) first second loaded related given =
    from_in naming out _ _ (λ address. all.byte first second related address access.Write tt) address size
    (in_done out (bytes_from (byte_for (left.byte first) access.Write) address size)
    (in_first out (done (bytes_from (byte_for (left.byte first) access.Write) address size)) _ given))

run_first : {M A : Type 0} (out : BusStop → Bool) (next : M → A → ℕ → Run M A) (one : Result ℕ BusStop) (first : M) (account : A)
    → IsIn out (run_on next one first account).answer → IsIn out one
run_first out next (Ok loaded) first account given = tt
run_first out next (Err stop) first account given = given

run_rest : {M A : Type 0} (out : BusStop → Bool) (next : M → A → ℕ → Run M A) (one : Result ℕ BusStop) (first : M) (account : A)
    → IsIn out (run_on next one first account).answer → WhereOk one (λ loaded. IsIn out (next first account loaded).answer)
run_rest out next (Ok loaded) first account given = given
run_rest out next (Err stop) first account given = tt

along_in : {M N A B : Type 0} (Related : M → N → Type 0) (naming : BusStop → BusStop) (out : BusStop
    → Bool) (left : Interface M A) (right : Interface N B)
    → StoresKeep Related left right → BytesAgreeIn Related naming out left right
    → (accesses : List MemoryAccess) (first : M) (second : N) (account : A) (loaded : ℕ) → Related first second
    → IsIn out (run left accesses first account loaded).answer → AgreeAlong naming left right accesses first second loaded
along_in Related naming out left right keep all [] first second account loaded related given = tt
along_in Related naming out left right keep all (one_access ∷ accesses) first second account loaded related given =
    let here : AgreeAt naming left right one_access first second =
    at_in Related naming out left right all one_access first second loaded related
    (run_first out (run left accesses) (access_answer left one_access first loaded) _ _ given) in (
      here,
      where_ok_map (access_answer left one_access first loaded) _ _
          (λ loaded' rest. along_in Related naming out left right keep all accesses _ _ _ loaded'
          (access_related IsAnywhere Related naming left right keep one_access first second loaded
          (anywhere one_access) here related) rest)
          (run_rest out (run left accesses) (access_answer left one_access first loaded) _ _ given),
    )

in_effect : (out : BusStop → Bool) (effect : Effect) (answer : Result ℕ BusStop) → IsIn out (effect_after effect answer)
    → IsIn out answer
in_effect out effect (Ok loaded) given = tt
in_effect out effect (Err stop) given = given

pub rows_in : {M N A B : Type 0} (Related : M → N → Type 0) (left : Interface M A) (right : Interface N B)
    → RowsIn Related left right
unfolding execution_of
rows_in Related left right keep naming out all row regs first second account other related given =
    rows_agreeing Related left right keep naming row regs first second account other related
    (along_in Related naming out left right keep all (accesses row) first second account 0 related
    (in_effect out row.effect (run left (accesses row) first account 0).answer given))
