-- The memory of a thread in a view, with the two in its meaning: one interface serves all threads and views.
use Rattle.std.specs.Prelude.{ℕ, Result}
use Rattle.sb_memory.specs.declared.address.Access.{Access}
use Rattle.sb_bus.specs.declared.stop.BusStop.{BusStop}
use Rattle.sb_bus.specs.Interface.{Interface, BusCall}
use Rattle.sb_state.specs.State.{State}
use Rattle.sb_state.specs.PlainMemory.{plain_byte, plain_stored}

-- what a thread in a view accesses
pub record ThreadMemory : Type 0 where
  pub thread : ℕ
  pub view : ℕ
  pub state : State

abbrev pub memory_of : ℕ → ℕ → State → ThreadMemory
memory_of thread view state = record { thread = thread; view = view; state = state }

abbrev pub thread_memory_byte : ThreadMemory → ℕ → Access → Result ℕ BusStop
thread_memory_byte memory = plain_byte memory.thread memory.view memory.state

abbrev pub thread_memory_stored : ThreadMemory → ℕ → ℕ → ℕ → ThreadMemory
thread_memory_stored memory address size value =
    memory_of memory.thread memory.view (plain_stored memory.thread memory.view memory.state address size value)

-- no account is kept, of calls and of bytes
abbrev pub no_rule : BusCall → ThreadMemory → Unit {0} → Unit {0}
no_rule call memory account = account

abbrev pub no_byte_rule : ThreadMemory → Access → ℕ → Unit {0} → Unit {0}
no_byte_rule memory access address account = account

abbrev pub thread_memory : Interface ThreadMemory (Unit {0})
thread_memory = record { byte = thread_memory_byte; stored = thread_memory_stored; rule = no_rule }
