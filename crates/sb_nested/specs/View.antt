-- The memory that a core sees: the nested walk, and then physical memory.
use Rattle.std.specs.Prelude.{ℕ, zero, suc, ◌+◌, ◌%◌, ◌^◌, List, [], ◌∷◌, ◌++◌, Result, Ok, Err}
use Rattle.sb_memory.specs.Physical.{Physical}
use Rattle.sb_memory.specs.Accounts.{PhysCall, ReadByte, word_calls}
use Rattle.sb_memory.specs.Reading.{byte_read}
use Rattle.sb_memory.specs.declared.address.Missing.{Missing}
use Rattle.sb_memory.specs.declared.address.Access.{Access}
use Rattle.sb_memory.specs.declared.address.PhysAddr.{PhysAddr}
use Rattle.sb_walks.specs.declared.stop.NestedStop.{NestedStop}
use Rattle.sb_walks.specs.Nested.{memory_behind, translation, translation_reads}
use Rattle.sb_walks.specs.Reads.{where_ok}
use Rattle.sb_bus.specs.declared.stop.BusStop.{BusStop}
use Rattle.sb_bus.specs.declared.stop.BusStop.TheVariants as bus
use Rattle.sb_nested.specs.Stop.{stop_at}

-- physical memory through an EPT pointer and a CR3
pub record View : Type 0 where
  pub physical : Physical
  pub eptp : ℕ
  pub cr3 : ℕ

abbrev pub view : Physical → ℕ → ℕ → View
view memory eptp cr3 = record { physical = memory; eptp = eptp; cr3 = cr3 }

-- another memory through the same pointers
abbrev pub with_memory : View → Physical → View
with_memory core memory = view memory core.eptp core.cr3

-- where an address leads
unfoldable pub place_of : View → Access → ℕ → Result PhysAddr NestedStop
place_of core access address = translation (memory_behind core.physical core.eptp) core.cr3 address access

-- the calls that look it up
unfoldable pub walk_calls : View → Access → ℕ → List PhysCall
walk_calls core access address = word_calls (translation_reads (memory_behind core.physical core.eptp) core.cr3 address access)

-- the place, or what the instruction meets
abbrev pub place_answer : ℕ → Result PhysAddr NestedStop → Result PhysAddr BusStop
place_answer address (Ok place) = Ok place
place_answer address (Err stop) = Err (stop_at address stop)

-- where an address leads, or what the instruction meets
unfoldable pub walk_place : View → Access → ℕ → Result PhysAddr BusStop
walk_place core access address = place_answer address (place_of core access address)

-- the answer of a read of a byte
abbrev pub byte_answer : Result ℕ Missing → Result ℕ BusStop
byte_answer (Ok byte) = Ok byte
byte_answer (Err gap) = Err (bus.Missing gap.frame)

-- the answer of a write of a word
abbrev pub word_answer : Result (Unit {0}) Missing → Result (Unit {0}) BusStop
word_answer (Ok done) = Ok done
word_answer (Err gap) = Err (bus.Missing gap.frame)

-- what is read where the walk led
abbrev pub byte_behind : Physical → ℕ → Result PhysAddr NestedStop → Result ℕ BusStop
byte_behind memory address (Ok place) = byte_answer (byte_read memory place.0)
byte_behind memory address (Err stop) = Err (stop_at address stop)

-- the byte at an address
unfoldable pub view_byte : View → ℕ → Access → Result ℕ BusStop
view_byte core address access = byte_behind core.physical address (place_of core access address)

-- the calls that read it
unfoldable pub byte_calls : View → Access → ℕ → List PhysCall
byte_calls core access address =
    walk_calls core access address ++ where_ok (place_of core access address) (λ place. ReadByte place.0 ∷ [])

-- the calls for the bytes from an address upwards, up to the first that stops
unfoldable pub calls_from : {Answer : Type 0} → (ℕ → List PhysCall) → (ℕ → Result Answer BusStop) → ℕ → ℕ → List PhysCall
calls_from calls answer address zero = []
calls_from calls answer address (suc count) =
    calls address ++ where_ok (answer address) (λ _. calls_from calls answer ((address + 1) % 2 ^ 64) count)
