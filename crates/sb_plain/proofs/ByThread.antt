-- What an instruction does over the memory of a thread is what it does over the plain memory of that thread and view.
use Rattle.std.proofs.Common.{◌≡◌, ◌∙◌, ap, ℕ, List, [], ◌∷◌, refl, Result, Ok, Err}
use Rattle.std.specs.Prelude.{IfOk}
use Rattle.sb_memory.specs.declared.address.Access.TheVariants.{Write}
use Rattle.sb_insn.specs.declared.insn.Insn.{Insn}
use Rattle.sb_insn.specs.declared.registers.Regs.{Regs}
use Rattle.sb_insn.specs.Grammar.{IsValid}
use Rattle.sb_bus.specs.declared.stop.BusStop.{BusStop}
use Rattle.sb_exec.specs.declared.action.Effect.{Effect}
use Rattle.sb_exec.specs.Access.{store_answer, byte_for, where_stored}
use Rattle.sb_exec.specs.Row.{Row, MemoryAccess, Loads, LoadsForWrite, Stores, accesses}
use Rattle.sb_exec.specs.Execution.{Run, run, run_on, access_answer, meaning_after, Execution, Executes, execution_by, execution_of}
use Rattle.sb_exec.specs.Fetching.{FetchesOn}
use Rattle.sb_state.specs.State.{State}
use Rattle.sb_state.specs.PlainMemory.{plain, plain_byte, plain_stored}
use Rattle.sb_state.specs.ThreadMemory.{ThreadMemory, memory_of, thread_memory}

-- a run over the plain memory of a thread in a view, with the two in its meaning
abbrev run_of : ℕ → ℕ → Run State (Unit {0}) → Run ThreadMemory (Unit {0})
run_of thread view ended =
    record { answer = ended.answer; meaning = memory_of thread view ended.meaning; account = ended.account }

abbrev execution_with : ℕ → ℕ → Execution State (Unit {0}) → Execution ThreadMemory (Unit {0})
execution_with thread view left = record {
  answer = left.answer;
  registers = left.registers;
  meaning = memory_of thread view left.meaning;
  account = left.account;
}

stored_by : (thread view : ℕ) (answer : Result (Unit {0}) BusStop) (new old : State)
    → where_stored answer (memory_of thread view new) (memory_of thread view old)
    ≡ memory_of thread view (where_stored answer new old)
stored_by thread view (Ok stored) new old = refl
stored_by thread view (Err stop) new old = refl

after_by : (thread view : ℕ) (access : MemoryAccess) (state : State) (loaded : ℕ)
    → meaning_after thread_memory access (memory_of thread view state) loaded
    ≡ memory_of thread view (meaning_after (plain thread view) access state loaded)
after_by thread view (Loads address size) state loaded = refl
after_by thread view (LoadsForWrite address size) state loaded = refl
after_by thread view (Stores address size value) state loaded =
    stored_by thread view (store_answer (byte_for (plain_byte thread view state) Write) address size)
    (plain_stored thread view state address size (value loaded)) state

answer_by : (thread view : ℕ) (access : MemoryAccess) (state : State) (loaded : ℕ)
    → access_answer thread_memory access (memory_of thread view state) loaded
    ≡ access_answer (plain thread view) access state loaded
answer_by thread view (Loads address size) state loaded = refl
answer_by thread view (LoadsForWrite address size) state loaded = refl
answer_by thread view (Stores address size value) state loaded = refl

on_by : (thread view : ℕ) (others : List MemoryAccess) (answer : Result ℕ BusStop) (state : State) (account : Unit {0})
    → ((loaded : ℕ)
    → run thread_memory others (memory_of thread view state) account loaded
    ≡ run_of thread view (run (plain thread view) others state account loaded))
    → run_on (run thread_memory others) answer (memory_of thread view state) account
    ≡ run_of thread view (run_on (run (plain thread view) others) answer state account)
on_by thread view others (Ok loaded) state account more = more loaded
on_by thread view others (Err stop) state account more = refl

runs_by : (thread view : ℕ) (list : List MemoryAccess) (state : State) (account : Unit {0}) (loaded : ℕ)
    → run thread_memory list (memory_of thread view state) account loaded
    ≡ run_of thread view (run (plain thread view) list state account loaded)
runs_by thread view [] state account loaded = refl
runs_by thread view (access ∷ others) state account loaded =
    rw (answer_by thread view access state loaded, after_by thread view access state loaded)
    (on_by thread view others (access_answer (plain thread view) access state loaded)
    (meaning_after (plain thread view) access state loaded) account
    (λ next. runs_by thread view others (meaning_after (plain thread view) access state loaded) account next))

pub executed_by : (thread view : ℕ) (row : Row) (regs : Regs) (state : State) (account : Unit {0})
    → execution_of thread_memory row regs (memory_of thread view state) account
    ≡ execution_with thread view (execution_of (plain thread view) row regs state account)
unfolding execution_of
executed_by thread view row regs state account =
    ap (λ (ended : Run ThreadMemory (Unit {0})). execution_by row regs ended) (runs_by thread view (accesses row) state account 0)

-- ---- fetching

one_unit : (first second : Unit {0}) → first ≡ second
one_unit first second = refl

pub fetched_by : (thread view : ℕ) (state : State) (address : ℕ) (old new : Unit {0}) (result : Result Insn BusStop)
    → FetchesOn thread_memory (memory_of thread view state) address old new result
    → FetchesOn (plain thread view) state address tt tt result
fetched_by thread view state address old new result fetches =
    record { asked = fetches.asked; fetched = fetches.fetched; account = one_unit _ _ }

-- an instruction that is fetched is valid
valid_by : (thread view : ℕ) (state : State) (address : ℕ) (result : Result Insn BusStop)
    → FetchesOn (plain thread view) state address tt tt result → IfOk result IsValid
valid_by thread view state address (Ok insn) fetches = fetches.fetched.ends.0.0
valid_by thread view state address (Err stop) fetches = tt

-- ---- executing

-- what is left is what the instruction leaves over the plain memory
pub record Performed (thread view : ℕ) (row : Row) (regs new_regs : Regs) (state : State) (after : ThreadMemory)
    (result : Result Effect BusStop) : Type 0 where
  pub answer : result ≡ (execution_of (plain thread view) row regs state tt).answer
  pub registers : new_regs ≡ (execution_of (plain thread view) row regs state tt).registers
  pub memory : after.state ≡ (execution_of (plain thread view) row regs state tt).meaning

pub performed : (thread view : ℕ) (row : Row) (regs new_regs : Regs) (state : State) (before after : ThreadMemory)
    (old new : Unit {0}) (result : Result Effect BusStop)
    → before ≡ memory_of thread view state → Executes thread_memory row regs new_regs before after old new result
    → Performed thread view row regs new_regs state after result
performed thread view row regs new_regs state before after old new result is executes =
    let same : execution_of thread_memory row regs before old
    ≡ execution_with thread view (execution_of (plain thread view) row regs state tt) =
    rw is (executed_by thread view row regs state old) in
    record {
      answer = executes.answer ∙ ap (λ (left : Execution ThreadMemory (Unit {0})). left.answer) same;
      registers = executes.registers ∙ ap (λ (left : Execution ThreadMemory (Unit {0})). left.registers) same;
      memory =
          ap (λ (memory : ThreadMemory). memory.state) (executes.meaning
          ∙ ap (λ (left : Execution ThreadMemory (Unit {0})). left.meaning) same);
    }
