-- The memory of the tests: text from address 0 on, which can only be fetched, and data from 800000 on, which can be read and
-- maybe written. A store is noted and changes no byte.
use Rattle.std.specs.Prelude.{ℕ, ◌-◌, nat_le, Bool, if◌then◌else◌, List, Option, Some, None, slice_get, Result, Ok, Err}
use Rattle.sb_memory.specs.declared.address.Access.{Access}
use Rattle.sb_memory.specs.declared.address.Access.TheVariants.{Read, Write, Fetch}
use Rattle.sb_bus.specs.declared.stop.BusStop.{BusStop}
use Rattle.sb_bus.specs.declared.stop.BusStop.TheVariants.{Fault}
use Rattle.sb_bus.specs.declared.stop.FaultKind.TheVariants.{Memory}
use Rattle.sb_bus.specs.Interface.{Interface, BusCall}

-- text, data, whether data can be written, and the last store: address, size and number
pub record TestMemory : Type 0 where
  pub text : List ℕ
  pub bytes : List ℕ
  pub writable : Bool
  pub noted : Option (ℕ × ℕ × ℕ)

abbrev pub test_memory : List ℕ → List ℕ → Bool → Option (ℕ × ℕ × ℕ) → TestMemory
test_memory text bytes writable noted = record { text = text; bytes = bytes; writable = writable; noted = noted }

abbrev pub refused_at : ℕ → BusStop
refused_at address = Fault Memory (record { 0 = address })

abbrev pub byte_or_stop : ℕ → Option ℕ → Result ℕ BusStop
byte_or_stop address None = Err (refused_at address)
byte_or_stop address (Some byte) = Ok byte

unfoldable pub data_byte : List ℕ → ℕ → Result ℕ BusStop
data_byte bytes address =
    if nat_le 0x800000 address then byte_or_stop address (slice_get bytes (address - 0x800000)) else Err (refused_at address)

unfoldable pub test_byte : TestMemory → ℕ → Access → Result ℕ BusStop
test_byte memory address Fetch = byte_or_stop address (slice_get memory.text address)
test_byte memory address Read = data_byte memory.bytes address
test_byte memory address Write = if memory.writable then data_byte memory.bytes address else Err (refused_at address)

unfoldable pub test_stored : TestMemory → ℕ → ℕ → ℕ → TestMemory
test_stored memory address size value = record memory { noted = Some (address, size, value) }

abbrev pub test_rule : BusCall → TestMemory → Unit {0} → Unit {0}
test_rule call memory account = account

abbrev pub test_byte_rule : TestMemory → Access → ℕ → Unit {0} → Unit {0}
test_byte_rule memory access address account = account

abbrev pub test_interface : Interface TestMemory (Unit {0})
test_interface = record { byte = test_byte; stored = test_stored; rule = test_rule }
