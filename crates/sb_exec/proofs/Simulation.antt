-- A row does the same on two memories that agree where it accesses them.
use Rattle.std.proofs.Common.{◌≡◌, ◌∙◌, sym, ap, subst, ℕ, zero, suc, ◌+◌, ◌%◌, ◌^◌, List, [], ◌∷◌, refl}
use Rattle.std.specs.Prelude.{Result, Ok, Err}
use Rattle.std.specs.List.{AllByRecursion}
use Rattle.std.proofs.Math.Path.{fun_ext}
use Rattle.sb_memory.specs.declared.address.Access.TheVariants as access
use Rattle.sb_bus.specs.declared.stop.BusStop.{BusStop}
use Rattle.sb_insn.specs.declared.registers.Regs.{Regs}
use Rattle.sb_exec.specs.declared.action.Effect.{Effect}
use Rattle.sb_memory.specs.Outcome.{and_then, done}
use Rattle.sb_bus.specs.Access.{bytes_from, number_of, loaded_from, store_answer, where_stored}
use Rattle.sb_bus.specs.Interface.{Interface}
use Rattle.sb_exec.specs.Row.{Row, MemoryAccess, Loads, LoadsForWrite, Stores, accesses}
use Rattle.sb_exec.specs.Execution.{Run, Execution, Executes, run, run_on, execution_of, access_answer, meaning_after, execution_by, effect_after, registers_after}
use Rattle.sb_exec.specs.Simulation.{named_answer, WhereOk, IsAt, IsAnywhere, StoresKeepAt, BytesAgree, AgreeFrom, AgreeAt, AgreeAlong}
use Rattle.sb_exec.specs.Simulation.{AccessesAgreeAt, SameExecution, RowsAgreeingAt, RowsAgreeing, RowsTold, Alike, RowsAlike, SameEnd}
use Rattle.sb_exec.specs.Simulation.{ExecutesAgreeing, ExecutesTold, RowsKeep}

-- ---- bytes

byte_joined : (naming : BusStop → BusStop) (byte : Result ℕ BusStop) (one two : Result (List ℕ) BusStop)
    → WhereOk byte (λ _. two ≡ named_answer naming one)
    → and_then (named_answer naming byte) (λ lowest. and_then two (λ others. Ok (lowest ∷ others)))
    ≡ named_answer naming (and_then byte (λ lowest. and_then one (λ others. Ok (lowest ∷ others))))
byte_joined naming (Ok lowest) (Ok others) two given = rw given refl
byte_joined naming (Ok lowest) (Err stop) two given = rw given refl
byte_joined naming (Err stop) one two given = refl

pub where_ok_map : {Value : Type 0} (answer : Result Value BusStop) (Claim Other : Value → Type 0)
    → ((value : Value) → Claim value → Other value) → WhereOk answer Claim → WhereOk answer Other
where_ok_map (Ok value) Claim Other naming given = naming value given
where_ok_map (Err stop) Claim Other naming given = tt

bytes_agree : (naming : BusStop → BusStop) (left right : ℕ → Result ℕ BusStop) (address count : ℕ)
    → AgreeFrom naming left right address count
    → bytes_from right address count ≡ named_answer naming (bytes_from left address count)
unfolding bytes_from AgreeFrom
bytes_agree naming left right address zero given = refl
bytes_agree naming left right address (suc count) given =
    rw given.0
    (byte_joined naming (left address) _ _
    (where_ok_map (left address) _ _
    (λ _ rest. bytes_agree naming left right ((address + 1) % 2 ^ 64) count rest) given.1))

number_told : (naming : BusStop → BusStop) (bytes : Result (List ℕ) BusStop)
    → and_then (named_answer naming bytes) (λ others. Ok (number_of others))
    ≡ named_answer naming (and_then bytes (λ others. Ok (number_of others)))
number_told naming (Ok others) = refl
number_told naming (Err stop) = refl

done_told : (naming : BusStop → BusStop) (bytes : Result (List ℕ) BusStop)
    → done (named_answer naming bytes) ≡ named_answer naming (done bytes)
done_told naming (Ok others) = refl
done_told naming (Err stop) = refl

pub loads_agree : (naming : BusStop → BusStop) (left right : ℕ → Result ℕ BusStop) (address count : ℕ)
    → AgreeFrom naming left right address count
    → loaded_from right address count ≡ named_answer naming (loaded_from left address count)
unfolding loaded_from
loads_agree naming left right address count given =
    rw (bytes_agree naming left right address count given) (number_told naming (bytes_from left address count))

pub stores_agree : (naming : BusStop → BusStop) (left right : ℕ → Result ℕ BusStop) (address count : ℕ)
    → AgreeFrom naming left right address count
    → store_answer right address count ≡ named_answer naming (store_answer left address count)
unfolding store_answer
stores_agree naming left right address count given =
    rw (bytes_agree naming left right address count given) (done_told naming (bytes_from left address count))

-- ---- an access

loaded_told : (naming : BusStop → BusStop) (answer : Result (Unit {0}) BusStop) (loaded : ℕ)
    → and_then (named_answer naming answer) (λ _. Ok loaded) ≡ named_answer naming (and_then answer (λ _. Ok loaded))
loaded_told naming (Ok stored) loaded = refl
loaded_told naming (Err stop) loaded = refl

access_agrees : {M N A B : Type 0} (naming : BusStop
    → BusStop) (left : Interface M A) (right : Interface N B) (one_access : MemoryAccess) (first : M) (second : N) (loaded : ℕ)
    → AgreeAt naming left right one_access first second
    → access_answer right one_access second loaded ≡ named_answer naming (access_answer left one_access first loaded)
access_agrees naming left right (Loads address size) first second loaded given = loads_agree naming _ _ address size given
access_agrees naming left right (LoadsForWrite address size) first second loaded given = loads_agree naming _ _ address size given
access_agrees naming left right (Stores address size value) first second loaded given =
    rw (stores_agree naming _ _ address size given) (loaded_told naming _ loaded)

stored_related : {M N : Type 0} (Related : M → N → Type 0) (naming : BusStop
    → BusStop) (one two : Result (Unit {0}) BusStop) (first first' : M) (second second' : N)
    → two ≡ named_answer naming one → Related first second → (one ≡ Ok tt → two ≡ Ok tt → Related first' second')
    → Related (where_stored one first' first) (where_stored two second' second)
stored_related Related naming (Ok stored) two first first' second second' equal given next = rw equal (next refl equal)
stored_related Related naming (Err stop) two first first' second second' equal given next = rw equal given

-- each access is somewhere
pub anywhere : (one_access : MemoryAccess) → IsAt IsAnywhere one_access
anywhere (Loads address size) = tt
anywhere (LoadsForWrite address size) = tt
anywhere (Stores address size value) = tt

all_anywhere : (accesses : List MemoryAccess) → AllByRecursion (IsAt IsAnywhere) accesses
all_anywhere [] = tt
all_anywhere (one_access ∷ accesses) = (anywhere one_access, all_anywhere accesses)

-- an access at which the memories agree keeps them related
pub access_related : {M N A B : Type 0} (At : ℕ → ℕ → Type 0) (Related : M → N → Type 0) (naming : BusStop → BusStop)
    (left : Interface M A) (right : Interface N B) → StoresKeepAt At Related left right
    → (one_access : MemoryAccess) (first : M) (second : N) (loaded : ℕ) → IsAt At one_access
    → AgreeAt naming left right one_access first second → Related first second
    → Related (meaning_after left one_access first loaded) (meaning_after right one_access second loaded)
access_related At Related naming left right keep (Loads address size) first second loaded at given related = related
access_related At Related naming left right keep (LoadsForWrite address size) first second loaded at given related = related
access_related At Related naming left right keep (Stores address size value) first second loaded at given related =
    stored_related Related naming _ _ first _ second _ (stores_agree naming _ _ address size given) related
    (keep.stored first second related address size (value loaded) at)

-- ---- a run

pub record SameRun {M N A B : Type 0} (Related : M → N → Type 0) (naming : BusStop
    → BusStop) (left : Run M A) (right : Run N B) : Type 0 where
  pub answer : right.answer ≡ named_answer naming left.answer
  pub related : Related left.meaning right.meaning

run_on_agrees : {M N A B : Type 0} (Related : M → N → Type 0) (naming : BusStop → BusStop) (next : M → A → ℕ → Run M A) (next' : N
    → B → ℕ → Run N B)
    (one two : Result ℕ BusStop) (first : M) (second : N) (account : A) (other : B) → two ≡ named_answer naming one
    → Related first second
    → WhereOk one (λ loaded. SameRun Related naming (next first account loaded) (next' second other loaded))
    → SameRun Related naming (run_on next one first account) (run_on next' two second other)
run_on_agrees Related naming next next' (Ok loaded) two first second account other equal related given = rw equal given
run_on_agrees Related naming next next' (Err stop) two first second account other equal related given =
    rw equal (record { answer = refl; related = related })

-- accesses at these places at which the memories agree run alike
pub run_agrees : {M N A B : Type 0} (At : ℕ → ℕ → Type 0) (Related : M → N → Type 0) (naming : BusStop → BusStop)
    (left : Interface M A) (right : Interface N B) → StoresKeepAt At Related left right
    → (accesses : List MemoryAccess) (first : M) (second : N) (account : A) (other : B) (loaded : ℕ)
    → Related first second → AllByRecursion (IsAt At) accesses → AgreeAlong naming left right accesses first second loaded
    → SameRun Related naming (run left accesses first account loaded) (run right accesses second other loaded)
run_agrees At Related naming left right keep [] first second account other loaded related at given =
    record { answer = refl; related = related }
run_agrees At Related naming left right keep (one_access ∷ accesses) first second account other loaded related at given =
    let next = access_related At Related naming left right keep one_access first second loaded at.0 given.0 related in
    run_on_agrees Related naming (run left accesses) (run right accesses) (access_answer left one_access first loaded) _ _ _ _ _
    (access_agrees naming left right one_access first second loaded given.0) next
    (where_ok_map (access_answer left one_access first loaded) _ _
    (λ loaded'. run_agrees At Related naming left right keep accesses _ _ _ _ loaded' next at.1) given.1)

-- ---- a row

pub effect_told : (naming : BusStop → BusStop) (effect : Effect) (answer : Result ℕ BusStop)
    → effect_after effect (named_answer naming answer) ≡ named_answer naming (effect_after effect answer)
effect_told naming effect (Ok loaded) = refl
effect_told naming effect (Err stop) = refl

registers_told : (naming : BusStop → BusStop) (row : Row) (regs : Regs) (answer : Result ℕ BusStop)
    → registers_after row regs (named_answer naming answer) ≡ registers_after row regs answer
registers_told naming row regs (Ok loaded) = refl
registers_told naming row regs (Err stop) = refl

left_same : {M N A B : Type 0} (Related : M → N → Type 0) (naming : BusStop
    → BusStop) (row : Row) (regs : Regs) (one : Run M A) (two : Run N B)
    → SameRun Related naming one two → SameExecution Related naming (execution_by row regs one) (execution_by row regs two)
left_same Related naming row regs one two same = record {
  answer = rw same.answer (effect_told naming row.effect one.answer);
  registers = rw same.answer (registers_told naming row regs one.answer);
  related = same.related;
}

-- a row whose accesses are at these places
pub rows_agreeing_at : {M N A B : Type 0} (At : ℕ → ℕ → Type 0) (Related : M → N
    → Type 0) (left : Interface M A) (right : Interface N B)
    → RowsAgreeingAt At Related left right
unfolding execution_of
rows_agreeing_at At Related left right keep naming row regs first second account other related at given =
    left_same Related naming row regs _ _
    (run_agrees At Related naming left right keep (accesses row) first second account other 0 related at given)

pub rows_agreeing : {M N A B : Type 0} (Related : M → N → Type 0) (left : Interface M A) (right : Interface N B)
    → RowsAgreeing Related left right
rows_agreeing Related left right keep naming row regs first second account other related given =
    rows_agreeing_at IsAnywhere Related left right keep naming row regs first second account other related
    (all_anywhere (accesses row)) given

-- ---- where all bytes agree

always : {Value Claim : Type 0} (answer : Result Value BusStop) → Claim → WhereOk answer (λ _. Claim)
always (Ok value) given = given
always (Err stop) given = tt

from_all : (naming : BusStop → BusStop) (left right : ℕ → Result ℕ BusStop)
    → ((address : ℕ) → right address ≡ named_answer naming (left address)) → (address count : ℕ)
    → AgreeFrom naming left right address count
unfolding AgreeFrom
from_all naming left right given address zero = tt
from_all naming left right given address (suc count) =
    (given address, always (left address) (from_all naming left right given ((address + 1) % 2 ^ 64) count))

to_write_told : (naming : BusStop → BusStop) (write read write' read' : Result ℕ BusStop) → write' ≡ named_answer naming write
    → read' ≡ named_answer naming read
    → and_then write' (λ _. read') ≡ named_answer naming (and_then write (λ _. read))
to_write_told naming (Ok lowest) read write' read' equal given = rw (equal, given) refl
to_write_told naming (Err stop) read write' read' equal given = rw equal refl

at_all : {M N A B : Type 0} (Related : M → N → Type 0) (naming : BusStop → BusStop) (left : Interface M A) (right : Interface N B)
    → BytesAgree Related naming left right
    → (one_access : MemoryAccess) (first : M) (second : N) → Related first second
    → AgreeAt naming left right one_access first second
at_all Related naming left right all (Loads address size) first second related =
    from_all naming _ _ (λ address. all.byte first second related address access.Read tt) address size
at_all Related naming left right all (LoadsForWrite address size) first second related =
    from_all naming _ _
    (λ address. to_write_told naming _ _ _ _ (all.byte first second related address access.Write tt)
    (all.byte first second related address access.Read tt)) address size
at_all Related naming left right all (Stores address size value) first second related =
    from_all naming _ _ (λ address. all.byte first second related address access.Write tt) address size

where_all : {Value : Type 0} (answer : Result Value BusStop) (Claim : Value → Type 0) → ((value : Value) → Claim value)
    → WhereOk answer Claim
where_all (Ok value) Claim given = given value
where_all (Err stop) Claim given = tt

-- memories that agree at each access at these places agree along such accesses
pub along_at : {M N A B : Type 0} (At : ℕ → ℕ → Type 0) (Related : M → N → Type 0) (naming : BusStop → BusStop)
    (left : Interface M A) (right : Interface N B) → StoresKeepAt At Related left right
    → AccessesAgreeAt At Related naming left right
    → (accesses : List MemoryAccess) (first : M) (second : N) (loaded : ℕ) → Related first second
    → AllByRecursion (IsAt At) accesses
    → AgreeAlong naming left right accesses first second loaded
along_at At Related naming left right keep agree [] first second loaded related at = tt
along_at At Related naming left right keep agree (one_access ∷ accesses) first second loaded related at =
    let here = agree.access first second related one_access at.0 in (
      here,
      where_all (access_answer left one_access first loaded) _
          (λ loaded'. along_at At Related naming left right keep agree accesses _ _ loaded'
          (access_related At Related naming left right keep one_access first second loaded at.0 here related) at.1),
    )

-- memories that agree at each access at these places run such accesses alike
pub run_agrees_at : {M N A B : Type 0} (At : ℕ → ℕ → Type 0) (Related : M → N → Type 0) (naming : BusStop → BusStop)
    (left : Interface M A) (right : Interface N B) → StoresKeepAt At Related left right
    → AccessesAgreeAt At Related naming left right
    → (accesses : List MemoryAccess) (first : M) (second : N) (account : A) (other : B) (loaded : ℕ)
    → Related first second → AllByRecursion (IsAt At) accesses
    → SameRun Related naming (run left accesses first account loaded) (run right accesses second other loaded)
run_agrees_at At Related naming left right keep agree accesses first second account other loaded related at =
    run_agrees At Related naming left right keep accesses first second account other loaded related at
    (along_at At Related naming left right keep agree accesses first second loaded related at)

pub rows_told : {M N A B : Type 0} (Related : M → N → Type 0) (left : Interface M A) (right : Interface N B)
    → RowsTold Related left right
rows_told Related left right keep naming all row regs first second account other related =
    rows_agreeing Related left right keep naming row regs first second account other related
    (along_at IsAnywhere Related naming left right keep
    (record {
      access =
          λ first second related one_access _. at_all Related naming left right all one_access first second related;
    })
    (accesses row) first second 0 related (all_anywhere (accesses row)))

-- ---- where the stops are the same

told_same : {Value : Type 0} (answer : Result Value BusStop) → named_answer (λ stop. stop) answer ≡ answer
told_same (Ok value) = refl
told_same (Err stop) = refl

alike : {M N A B : Type 0} (Related : M → N → Type 0) (one : Execution M A) (two : Execution N B)
    → SameExecution Related (λ stop. stop) one two → Alike Related one two
alike Related one two same =
    record { answer = same.answer ∙ told_same one.answer; registers = same.registers; related = same.related }

pub rows_alike : {M N A B : Type 0} (Related : M → N → Type 0) (left : Interface M A) (right : Interface N B)
    → RowsAlike Related left right
rows_alike Related left right keep byte row regs first second account other related =
    alike Related _ _ (rows_told Related left right keep (λ stop. stop)
    (record {
      byte = λ first second related address how one_access. byte first second related address how one_access
          ∙ sym (told_same (left.byte first address how));
    }) row regs first second account other related)

-- ---- executions

ends : {M N A B : Type 0} (Related : M → N → Type 0) (naming : BusStop → BusStop) (left : Interface M A) (right : Interface N B)
    (row : Row) (regs new other_new : Regs) (first first' : M) (second second' : N) (account account' : A) (other other' : B)
    (result result' : Result Effect BusStop)
    → Executes left row regs new first first' account account' result
    → Executes right row regs other_new second second' other other' result'
    → SameExecution Related naming (execution_of left row regs first account) (execution_of right row regs second other)
    → SameEnd Related naming new other_new first' second' result result'
ends Related naming left right row regs new other_new first first' second second' account account' other other' result result' one
    two same = record {
      answer = two.answer ∙ (same.answer ∙ ap (named_answer naming) (sym one.answer));
      registers = two.registers ∙ (same.registers ∙ sym one.registers);
      related = rw (one.meaning, two.meaning) same.related;
    }

pub executes_agreeing : {M N A B : Type 0} (Related : M → N → Type 0) (left : Interface M A) (right : Interface N B)
    → ExecutesAgreeing Related left right
executes_agreeing Related left right keep naming row regs new other_new first first' second second' account account' other other'
    result result' related given one two =
    ends Related naming left right row regs new other_new first first' second second' account account' other other' result result'
    one two (rows_agreeing Related left right keep naming row regs first second account other related given)

pub executes_told : {M N A B : Type 0} (Related : M → N → Type 0) (left : Interface M A) (right : Interface N B)
    → ExecutesTold Related left right
executes_told Related left right keep naming all row regs new other_new first first' second second' account account' other other'
    result result' related one two =
    ends Related naming left right row regs new other_new first first' second second' account account' other other' result result'
    one two (rows_told Related left right keep naming all row regs first second account other related)

-- ---- one memory

abbrev both : {M : Type 0} → (M → Type 0) → M → M → Type 0
both Claim first second = Claim first × (second ≡ first)

pub rows_keep : {M A : Type 0} (Claim : M → Type 0) (bus : Interface M A) → RowsKeep Claim bus
rows_keep Claim bus keep row regs first account given =
    (rows_alike (both Claim) bus bus
    (record {
      stored =
          λ first second related address size value _ permitted _. (
            keep first related.0 address size value permitted,
            ap (λ meaning. bus.stored meaning address size value) related.1,
          );
    })
    (λ first second related address how _. ap (λ meaning. bus.byte meaning address how) related.1) row regs first first account
    account (given, refl)).related.0

-- what is said of all that is fetched moves to a memory with the same bytes
pub fetches_move : (Claim : (ℕ → Result ℕ BusStop) → Type 0) (left right : ℕ → Result ℕ BusStop)
    → ((address : ℕ) → right address ≡ left address) → Claim left → Claim right
fetches_move Claim left right same = subst Claim (sym (fun_ext same))
