-- Whether an instruction accesses a page.
use Rattle.std.specs.Prelude.{ℕ, ◌+◌, Bool, false, ◌&&◌, nat_lt}
use Rattle.std.specs.List.{list_any}
use Rattle.sb_memory.specs.declared.page.TheConstants.{PAGE_SIZE}
use Rattle.sb_alu.specs.Size.{size_bytes}
use Rattle.sb_exec.specs.declared.action.Store.{Store}
use Rattle.sb_exec.specs.declared.action.Store.TheVariants as store
use Rattle.sb_exec.specs.Row.{Row, MemoryAccess, Loads, LoadsForWrite, Stores, accesses}

-- some of so many bytes from an address on lie in the page that begins at another one
abbrev pub reaches : ℕ → ℕ → ℕ → Bool
reaches page address size = nat_lt address (page + PAGE_SIZE) && nat_lt page (address + size)

-- the access is to such bytes
abbrev pub access_reaches : ℕ → MemoryAccess → Bool
access_reaches page (Loads address size) = reaches page address size
access_reaches page (LoadsForWrite address size) = reaches page address size
access_reaches page (Stores address size value) = reaches page address size

-- an access of the row is
abbrev pub touches : ℕ → Row → Bool
touches page row = list_any (access_reaches page) (accesses row)

-- what a store says of it
abbrev pub store_reaches : ℕ → Store → Bool
store_reaches page store.Nothing = false
store_reaches page (store.At address size) = reaches page address.0 (size_bytes size)
