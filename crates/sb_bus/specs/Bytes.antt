-- What is noted of bytes that are asked for one after another.
use Rattle.std.specs.Prelude.{ℕ, zero, suc, ◌+◌, ◌%◌, ◌^◌, Result, Ok, Err}
use Rattle.sb_bus.specs.declared.stop.BusStop.{BusStop}

-- the account after a byte, and after the others if the byte is there
abbrev pub account_behind : {A Account : Type 0} → Result A BusStop → Account → Account → Account
account_behind (Ok byte) first others = others
account_behind (Err stop) first others = first

-- the account after the bytes from an address upwards, modulo 2 ^ 64, up to the first that stops
unfoldable pub account_after_bytes : {A Account : Type 0} → (ℕ → Result A BusStop) → (ℕ → Account → Account) → ℕ → ℕ
    → Account → Account
account_after_bytes byte rule address zero account = account
account_after_bytes byte rule address (suc count) account =
    account_behind (byte address) (rule address account)
    (account_after_bytes byte rule ((address + 1) % 2 ^ 64) count (rule address account))
