-- Accesses of several bytes, over what each byte gives.
use Rattle.std.specs.Prelude.{ℕ, zero, suc, ◌+◌, ◌*◌, ◌%◌, ◌^◌, List, [], ◌∷◌, Result, Ok, Err, IsTrue, ◌==◌, ◌||◌}
use Rattle.sb_memory.specs.declared.address.Access.{Access}
use Rattle.sb_memory.specs.declared.address.Access.TheVariants.{Read, Write}
use Rattle.sb_memory.specs.Outcome.{and_then, done}
use Rattle.sb_bus.specs.declared.stop.BusStop.{BusStop}

-- the bytes from an address upwards, modulo 2 ^ 64, or the first stop
unfoldable pub bytes_from : {A : Type 0} → (ℕ → Result A BusStop) → ℕ → ℕ → Result (List A) BusStop
bytes_from byte address zero = Ok []
bytes_from byte address (suc count) =
    and_then (byte address) (λ lowest.
    and_then (bytes_from byte ((address + 1) % 2 ^ 64) count) (λ others.
    Ok (lowest ∷ others)))

-- the number whose bytes these are, the lowest first
abbrev pub number_of : List ℕ → ℕ
number_of [] = 0
number_of (lowest ∷ others) = lowest + 256 * number_of others

-- the number that is loaded from an address, or the first stop
unfoldable pub loaded_from : (ℕ → Result ℕ BusStop) → ℕ → ℕ → Result ℕ BusStop
loaded_from byte address size = and_then (bytes_from byte address size) (λ bytes. Ok (number_of bytes))

-- whether a store to an address is done, or the first stop
unfoldable pub store_answer : (ℕ → Result ℕ BusStop) → ℕ → ℕ → Result (Unit {0}) BusStop
store_answer byte address size = done (bytes_from byte address size)

-- what the byte at an address gives for an access
abbrev pub byte_for : (ℕ → Access → Result ℕ BusStop) → Access → ℕ → Result ℕ BusStop
byte_for byte access address = byte address access

-- what a byte gives that is to be read and then written: it needs both rights
abbrev pub byte_for_write : (ℕ → Access → Result ℕ BusStop) → ℕ → Result ℕ BusStop
byte_for_write byte address = and_then (byte address Write) (λ _. byte address Read)

-- the meaning after a store with this answer
abbrev pub where_stored : {Meaning : Type 0} → Result (Unit {0}) BusStop → Meaning → Meaning → Meaning
where_stored (Ok stored) new old = new
where_stored (Err stop) new old = old

-- the sizes of an access in bytes
abbrev pub IsSize : ℕ → Type 0
IsSize size = IsTrue ((size == 1) || (size == 4) || (size == 8))
