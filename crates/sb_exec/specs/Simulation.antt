-- One meaning over two memories: when a row does the same on both.
use Rattle.std.specs.Prelude.{Bool, false, ℕ, zero, suc, ◌+◌, ◌%◌, ◌^◌, ◌≡◌, List, [], ◌∷◌, Result, Ok, Err}
use Rattle.std.specs.List.{AllByRecursion}
use Rattle.sb_memory.specs.declared.address.Access.{Access}
use Rattle.sb_memory.specs.declared.address.Access.TheVariants as access
use Rattle.sb_bus.specs.declared.stop.BusStop.{BusStop}
use Rattle.sb_insn.specs.declared.registers.Regs.{Regs}
use Rattle.sb_exec.specs.declared.action.Effect.{Effect}
use Rattle.sb_bus.specs.Access.{store_answer, byte_for, byte_for_write}
use Rattle.sb_bus.specs.Interface.{Interface}
use Rattle.sb_exec.specs.Row.{Row, MemoryAccess, Loads, LoadsForWrite, Stores, accesses}
use Rattle.sb_exec.specs.Execution.{Execution, Executes, execution_of, access_answer, meaning_after}

-- an answer whose stop is told by another name
abbrev pub named_answer : {Value : Type 0} → (BusStop → BusStop) → Result Value BusStop → Result Value BusStop
named_answer naming (Ok value) = Ok value
named_answer naming (Err stop) = Err (naming stop)

-- a claim where there is an answer
abbrev pub WhereOk : {Value : Type 0} → Result Value BusStop → (Value → Type 0) → Type 0
WhereOk (Ok value) claim = claim value
WhereOk (Err stop) claim = Unit {0}

-- an access to data; what is fetched may differ
abbrev pub IsData : Access → Type 0
IsData access.Fetch = ⊥
IsData access.Read = Unit {0}
IsData access.Write = Unit {0}

-- ---- of which accesses something is said, by their addresses and sizes

-- of this one
abbrev pub IsAt : (ℕ → ℕ → Type 0) → MemoryAccess → Type 0
IsAt At (Loads address size) = At address size
IsAt At (LoadsForWrite address size) = At address size
IsAt At (Stores address size value) = At address size

-- of all that a row makes
abbrev pub IsRowAt : (ℕ → ℕ → Type 0) → Row → Type 0
IsRowAt At row = AllByRecursion (IsAt At) (accesses row)

-- of every access
abbrev pub IsAnywhere : ℕ → ℕ → Type 0
IsAnywhere address size = Unit {0}

-- ---- what two memories keep

-- a store at one of these places that both permit keeps them related
pub record StoresKeepAt {M N A B : Type 0} (At : ℕ → ℕ → Type 0) (Related : M → N
    → Type 0) (left : Interface M A) (right : Interface N B)
    : Type 0 where
  pub stored : (first : M) (second : N) → Related first second → (address size value : ℕ) → At address size
      → store_answer (byte_for (left.byte first) access.Write) address size ≡ Ok tt
      → store_answer (byte_for (right.byte second) access.Write) address size ≡ Ok tt
      → Related (left.stored first address size value) (right.stored second address size value)

-- a store that both permit keeps them related
abbrev pub StoresKeep : {M N A B : Type 0} → (M → N → Type 0) → Interface M A → Interface N B → Type 0
StoresKeep Related left right = StoresKeepAt IsAnywhere Related left right

-- related memories give the same bytes, and the same stops by their other names
pub record BytesAgree {M N A B : Type 0} (Related : M → N → Type 0) (naming : BusStop → BusStop)
    (left : Interface M A) (right : Interface N B) : Type 0 where
  pub byte : (first : M) (second : N) → Related first second → (address : ℕ) (how : Access) → IsData how
      → right.byte second address how ≡ named_answer naming (left.byte first address how)

-- ---- agreement at what is accessed alone

-- the bytes from an address upwards agree, up to and with the first that stops
unfoldable pub AgreeFrom : (BusStop → BusStop) → (ℕ → Result ℕ BusStop) → (ℕ → Result ℕ BusStop) → ℕ → ℕ → Type 0
AgreeFrom naming left right address zero = Unit {0}
AgreeFrom naming left right address (suc count) =
    (right address ≡ named_answer naming (left address))
    × WhereOk (left address) (λ _. AgreeFrom naming left right ((address + 1) % 2 ^ 64) count)

-- the bytes of an access agree
abbrev pub AgreeAt : {M N A B : Type 0} → (BusStop → BusStop) → Interface M A → Interface N B → MemoryAccess → M → N → Type 0
AgreeAt naming left right (Loads address size) first second =
    AgreeFrom naming (byte_for (left.byte first) access.Read) (byte_for (right.byte second) access.Read) address size
AgreeAt naming left right (LoadsForWrite address size) first second =
    AgreeFrom naming (byte_for_write (left.byte first)) (byte_for_write (right.byte second)) address size
AgreeAt naming left right (Stores address size value) first second =
    AgreeFrom naming (byte_for (left.byte first) access.Write) (byte_for (right.byte second) access.Write) address size

-- the accesses agree in their order, up to and with the first that stops
abbrev pub AgreeAlong : {M N A B : Type 0} → (BusStop → BusStop) → Interface M A → Interface N B → List MemoryAccess → M → N
    → ℕ → Type 0
AgreeAlong naming left right [] first second loaded = Unit {0}
AgreeAlong naming left right (one_access ∷ accesses) first second loaded =
    AgreeAt naming left right one_access first second
    × WhereOk (access_answer left one_access first loaded)
    (AgreeAlong naming left right accesses (meaning_after left one_access first loaded)
    (meaning_after right one_access second loaded))

-- related memories agree at each access at one of these places
pub record AccessesAgreeAt {M N A B : Type 0} (At : ℕ → ℕ → Type 0) (Related : M → N → Type 0) (naming : BusStop → BusStop)
    (left : Interface M A) (right : Interface N B) : Type 0 where
  pub access : (first : M) (second : N) → Related first second → (one_access : MemoryAccess) → IsAt At one_access
      → AgreeAt naming left right one_access first second

-- ---- what follows

-- two executions end alike: the stop by its other name, the same registers, related meanings
pub record SameExecution {M N A B : Type 0} (Related : M → N → Type 0) (naming : BusStop → BusStop)
    (left : Execution M A) (right : Execution N B) : Type 0 where
  pub answer : right.answer ≡ named_answer naming left.answer
  pub registers : right.registers ≡ left.registers
  pub related : Related left.meaning right.meaning

-- a row whose accesses are at these places, and at which the memories agree, is executed alike on both
abbrev pub RowsAgreeingAt : {M N A B : Type 0} → (ℕ → ℕ → Type 0) → (M → N → Type 0) → Interface M A → Interface N B → Type 0
RowsAgreeingAt {M} {N} {A} {B} At Related left right =
    StoresKeepAt At Related left right
    → (naming : BusStop → BusStop) (row : Row) (regs : Regs) (first : M) (second : N) (account : A) (other : B)
    → Related first second → IsRowAt At row → AgreeAlong naming left right (accesses row) first second 0
    → SameExecution Related naming (execution_of left row regs first account) (execution_of right row regs second other)

-- a row that accesses only bytes at which they agree is executed alike on both
abbrev pub RowsAgreeing : {M N A B : Type 0} → (M → N → Type 0) → Interface M A → Interface N B → Type 0
RowsAgreeing {M} {N} {A} {B} Related left right =
    StoresKeep Related left right
    → (naming : BusStop → BusStop) (row : Row) (regs : Regs) (first : M) (second : N) (account : A) (other : B)
    → Related first second → AgreeAlong naming left right (accesses row) first second 0
    → SameExecution Related naming (execution_of left row regs first account) (execution_of right row regs second other)

-- each row is executed alike on both, its stop told by the other name
abbrev pub RowsTold : {M N A B : Type 0} → (M → N → Type 0) → Interface M A → Interface N B → Type 0
RowsTold {M} {N} {A} {B} Related left right =
    StoresKeep Related left right → (naming : BusStop → BusStop) → BytesAgree Related naming left right
    → (row : Row) (regs : Regs) (first : M) (second : N) (account : A) (other : B)
    → Related first second
    → SameExecution Related naming (execution_of left row regs first account) (execution_of right row regs second other)

-- both end alike, in the same stop
pub record Alike {M N A B : Type 0} (Related : M → N → Type 0) (left : Execution M A) (right : Execution N B) : Type 0 where
  pub answer : right.answer ≡ left.answer
  pub registers : right.registers ≡ left.registers
  pub related : Related left.meaning right.meaning

-- memories whose bytes agree execute each row alike
abbrev pub RowsAlike : {M N A B : Type 0} → (M → N → Type 0) → Interface M A → Interface N B → Type 0
RowsAlike {M} {N} {A} {B} Related left right =
    StoresKeep Related left right
    → ((first : M) (second : N) → Related first second → (address : ℕ) (how : Access) → IsData how
    → right.byte second address how ≡ left.byte first address how)
    → (row : Row) (regs : Regs) (first : M) (second : N) (account : A) (other : B)
    → Related first second → Alike Related (execution_of left row regs first account) (execution_of right row regs second other)

-- registers, meanings and results of two executions
pub record SameEnd {M N : Type 0} (Related : M → N → Type 0) (naming : BusStop → BusStop)
    (regs regs' : Regs) (first : M) (second : N) (result result' : Result Effect BusStop) : Type 0 where
  pub answer : result' ≡ named_answer naming result
  pub registers : regs' ≡ regs
  pub related : Related first second

-- two executions of a row that agree where it accesses memory end alike
abbrev pub ExecutesAgreeing : {M N A B : Type 0} → (M → N → Type 0) → Interface M A → Interface N B → Type 0
ExecutesAgreeing {M} {N} {A} {B} Related left right =
    StoresKeep Related left right → (naming : BusStop → BusStop) (row : Row) (regs new other_new : Regs)
    (first first' : M) (second second' : N) (account account' : A) (other other' : B) (result result' : Result Effect BusStop)
    → Related first second → AgreeAlong naming left right (accesses row) first second 0
    → Executes left row regs new first first' account account' result
    → Executes right row regs other_new second second' other other' result'
    → SameEnd Related naming new other_new first' second' result result'

-- two executions of a row where all bytes agree end alike
abbrev pub ExecutesTold : {M N A B : Type 0} → (M → N → Type 0) → Interface M A → Interface N B → Type 0
ExecutesTold {M} {N} {A} {B} Related left right =
    StoresKeep Related left right → (naming : BusStop → BusStop) → BytesAgree Related naming left right
    → (row : Row) (regs new other_new : Regs)
    (first first' : M) (second second' : N) (account account' : A) (other other' : B) (result result' : Result Effect BusStop)
    → Related first second
    → Executes left row regs new first first' account account' result
    → Executes right row regs other_new second second' other other' result'
    → SameEnd Related naming new other_new first' second' result result'

-- ---- where nothing is said of some stops of the left memory, as of a frame that it does not have

-- the answer is none of the stops that are left out
abbrev pub IsIn : {Value : Type 0} → (BusStop → Bool) → Result Value BusStop → Type 0
IsIn out (Ok value) = Unit {0}
IsIn out (Err stop) = out stop ≡ false

-- the bytes agree where the left one is not left out
pub record BytesAgreeIn {M N A B : Type 0} (Related : M → N → Type 0) (naming : BusStop → BusStop) (out : BusStop → Bool)
    (left : Interface M A) (right : Interface N B) : Type 0 where
  pub byte : (first : M) (second : N) → Related first second → (address : ℕ) (how : Access) → IsData how
      → IsIn out (left.byte first address how) → right.byte second address how ≡ named_answer naming (left.byte first address how)

-- a row whose answer on the left is not left out is executed alike on both
abbrev pub RowsIn : {M N A B : Type 0} → (M → N → Type 0) → Interface M A → Interface N B → Type 0
RowsIn {M} {N} {A} {B} Related left right =
    StoresKeep Related left right
    → (naming : BusStop → BusStop) (out : BusStop → Bool) → BytesAgreeIn Related naming out left right
    → (row : Row) (regs : Regs) (first : M) (second : N) (account : A) (other : B)
    → Related first second → IsIn out (execution_of left row regs first account).answer
    → SameExecution Related naming (execution_of left row regs first account) (execution_of right row regs second other)

-- ---- one memory

-- what each permitted store keeps, each row keeps
abbrev pub RowsKeep : {M A : Type 0} → (M → Type 0) → Interface M A → Type 0
RowsKeep {M} {A} Claim bus =
    ((first : M) → Claim first → (address size value : ℕ)
    → store_answer (byte_for (bus.byte first) access.Write) address size ≡ Ok tt
    → Claim (bus.stored first address size value))
    → (row : Row) (regs : Regs) (first : M) (account : A) → Claim first → Claim (execution_of bus row regs first account).meaning
