-- Instructions that are fetched byte by byte.
use Rattle.std.specs.Prelude.{ℕ, zero, suc, ◌≡◌, ◌⊎◌, ◌+◌, ◌%◌, ◌^◌, ◌<◌, List, length, take, slice_index, EachIndex, Result, Ok, Err}
use Rattle.sb_memory.specs.declared.address.Access.TheVariants.{Fetch}
use Rattle.sb_insn.specs.declared.insn.Insn.{Insn}
use Rattle.sb_insn.specs.Grammar.{Spells, IsShort, IsUndecoded}
use Rattle.sb_bus.specs.declared.stop.BusStop.{BusStop}
use Rattle.sb_bus.specs.declared.stop.BusStop.TheVariants.{Fault}
use Rattle.sb_bus.specs.declared.stop.FaultKind.TheVariants.{Undefined}
use Rattle.sb_bus.specs.Interface.{Interface, FetchByte}

-- the address so many bytes further on
abbrev pub bytes_from_fetch : ℕ → ℕ → ℕ
bytes_from_fetch address count = (address + count) % 2 ^ 64

-- ---- the bytes, where each address gives a byte or a stop

-- these bytes stand from the address on
abbrev pub Stands : (ℕ → Result ℕ BusStop) → ℕ → List ℕ → Type 0
Stands fetch address bytes = EachIndex bytes (λ index. fetch (bytes_from_fetch address index) ≡ Ok (slice_index bytes index))

-- each proper prefix of the bytes needs more: no instruction begins it, and one begins with it
unfoldable pub HasShortPrefixes : List ℕ → Type 0
HasShortPrefixes bytes = (count : ℕ) → count < length bytes → IsShort (take count bytes)

-- where no instruction begins with the bytes
abbrev pub undefined_at : ℕ → BusStop
undefined_at address = Fault Undefined (record { 0 = address })

-- why fetching ends after these bytes, and for how many bytes it asked: they spell an instruction, no instruction begins
-- with them, or the next byte is needed and stops
abbrev pub EndsFetch : (ℕ → Result ℕ BusStop) → ℕ → List ℕ → Result Insn BusStop → ℕ → Type 0
EndsFetch fetch address bytes (Ok insn) asked = Spells bytes insn × (asked ≡ length bytes)
EndsFetch fetch address bytes (Err stop) asked =
    (IsUndecoded bytes × (stop ≡ undefined_at address) × (asked ≡ length bytes))
    ⊎ (IsShort bytes × (fetch (bytes_from_fetch address (length bytes)) ≡ Err stop) × (asked ≡ suc (length bytes)))

-- Bytes are fetched one after another, as long as those so far are a proper prefix of an instruction.
pub record Fetches (fetch : ℕ → Result ℕ BusStop) (address : ℕ) (result : Result Insn BusStop) (asked : ℕ)
    : Type 0 where
  pub bytes : List ℕ
  pub stands : Stands fetch address bytes
  pub prefixes : HasShortPrefixes bytes
  pub ends : EndsFetch fetch address bytes result asked

-- what memory gives determines the answer, and for how many bytes is asked
abbrev pub OneFetch : Type 0
OneFetch =
    (fetch : ℕ → Result ℕ BusStop) (address : ℕ) (first second : Result Insn BusStop) (asked others : ℕ)
    → Fetches fetch address first asked → Fetches fetch address second others → (first ≡ second) × (asked ≡ others)

-- ---- on a bus

-- what a fetch gives at each address
abbrev pub fetch_of : {M A : Type 0} → Interface M A → M → ℕ → Result ℕ BusStop
fetch_of bus meaning address = bus.byte meaning address Fetch

-- the account after so many bytes are fetched from the address on
abbrev pub after_fetches : {M A : Type 0} → Interface M A → M → ℕ → ℕ → A → A
after_fetches bus meaning address zero account = account
after_fetches bus meaning address (suc count) account =
    bus.rule (FetchByte (bytes_from_fetch address count)) meaning (after_fetches bus meaning address count account)

-- an instruction is fetched, and the account is that of the fetches that were asked for
pub record FetchesOn {M A : Type 0} (bus : Interface M A) (meaning : M) (address : ℕ)
    (old_account new_account : A) (result : Result Insn BusStop) : Type 0 where
  pub asked : ℕ
  pub fetched : Fetches (fetch_of bus meaning) address result asked
  pub account : new_account ≡ after_fetches bus meaning address asked old_account

-- meaning and account determine the answer, and the account after it
abbrev pub OneFetchOn : {M A : Type 0} → Interface M A → Type 0
OneFetchOn {M} {A} bus =
    (meaning : M) (address : ℕ) (account first_account second_account : A) (first second : Result Insn BusStop)
    → FetchesOn bus meaning address account first_account first
    → FetchesOn bus meaning address account second_account second
    → (first ≡ second) × (first_account ≡ second_account)
