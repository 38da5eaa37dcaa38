-- What a memory is to an instruction.
use Rattle.std.specs.Prelude.{ℕ, Result}
use Rattle.sb_memory.specs.declared.address.Access.{Access}
use Rattle.sb_bus.specs.declared.stop.BusStop.{BusStop}

-- a call of a bus, with its arguments
pub data BusCall : Type 0 where
  FetchByte : (address : ℕ) → BusCall
  LoadBytes : (address size : ℕ) → BusCall
  LoadForWrite : (address size : ℕ) → BusCall
  StoreBytes : (address size value : ℕ) → BusCall

-- A memory over a type of meanings and a type of accounts: what the byte at an address gives for an access, the meaning
-- after a number of some bytes is stored at an address, and the account after a call.
pub record Interface (Meaning Account : Type 0) : Type 0 where
  pub byte : Meaning → ℕ → Access → Result ℕ BusStop
  pub stored : Meaning → ℕ → ℕ → ℕ → Meaning
  pub rule : BusCall → Meaning → Account → Account
