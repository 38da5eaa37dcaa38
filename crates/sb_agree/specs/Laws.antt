-- The laws of memories that agree: what is fetched, executed and read over one comes over the other too.
use Rattle.std.specs.Prelude.{ℕ, ◌≡◌, ◌%◌, List, [], Result, Ok}
use Rattle.sb_memory.specs.Physical.{Physical, IsPhysical, HasAllFrames, frame_count}
use Rattle.sb_memory.specs.Accounts.{PhysCall, ReadWord}
use Rattle.sb_memory.specs.Reading.{word_read}
use Rattle.sb_insn.specs.declared.insn.Insn.{Insn}
use Rattle.sb_insn.specs.declared.registers.Regs.{Regs}
use Rattle.sb_bus.specs.declared.stop.BusStop.{BusStop}
use Rattle.sb_exec.specs.declared.action.Effect.{Effect}
use Rattle.sb_exec.specs.Execution.{Execution, execution_of}
use Rattle.sb_exec.specs.Fetching.{FetchesOn}
use Rattle.sb_exec.specs.Row.{Row}
use Rattle.sb_nested.specs.View.{View, view}
use Rattle.sb_nested.specs.Store.{view_interface}
use Rattle.sb_agree.specs.Noted.{Noted, noted_rule}
use Rattle.sb_agree.specs.Held.{Agrees, Covers, HoldsWords}

-- what a row leaves of what a core sees, with the account of the words
abbrev pub noted_execution : Row → Regs → View → Noted → Execution View Noted
noted_execution row regs core account = execution_of (view_interface noted_rule) row regs core account

-- ---- what agrees

-- A memory that has all its frames, as many as another, and holds some words of it, agrees with it at these words, before
-- anything is written.
abbrev pub HoldingMemoriesAgree : Type 0
HoldingMemoriesAgree =
    (words : List ℕ) (memory other : Physical) → frame_count other ≡ frame_count memory → IsPhysical memory
    → IsPhysical other → HasAllFrames other → HoldsWords memory words other → Agrees words other [] memory other

-- memories that agree hold the same values in the words that were written
abbrev pub WrittenWordsAreHeld : Type 0
WrittenWordsAreHeld =
    (all : List ℕ) (start : Physical) (writes : List ℕ) (memory changed : Physical) → Agrees all start writes memory changed
    → HoldsWords memory writes changed

-- ---- what is the same over memories that agree, where all that the account notes is among the words that are read in all

-- an instruction that is fetched over one memory is fetched over the other, with the same account, and they agree as before
abbrev pub FetchesAgree : Type 0
FetchesAgree =
    (all : List ℕ) (start memory changed : Physical) (eptp cr3 rip : ℕ) (account fetched : Noted) (insn : Insn)
    → Agrees all start account.writes memory changed
    → FetchesOn (view_interface noted_rule) (view memory eptp cr3) rip account fetched (Ok insn)
    → Covers all fetched.reads
    → FetchesOn (view_interface noted_rule) (view changed eptp cr3) rip account fetched (Ok insn)
    × Agrees all start fetched.writes memory changed

-- two executions have this effect, leave the same registers and the same account, and memories that agree again
pub record EndAlike (all : List ℕ) (start : Physical) (effect : Effect) (one two : Execution View Noted) : Type 0 where
  pub answer : two.answer ≡ Ok effect
  pub registers : two.registers ≡ one.registers
  pub account : two.account ≡ one.account
  pub agrees : Agrees all start one.account.writes one.meaning.physical two.meaning.physical

-- an execution that no access stops ends alike over both
abbrev pub ExecutionsAgree : Type 0
ExecutionsAgree =
    (all : List ℕ) (start memory changed : Physical) (eptp cr3 : ℕ) (account : Noted) (row : Row) (regs : Regs) (effect : Effect)
    → Agrees all start account.writes memory changed
    → (noted_execution row regs (view memory eptp cr3) account).answer ≡ Ok effect
    → Covers all (noted_execution row regs (view memory eptp cr3) account).account.reads
    → EndAlike all start effect (noted_execution row regs (view memory eptp cr3) account)
    (noted_execution row regs (view changed eptp cr3) account)

-- a word that is read at a multiple of 8 is read there over both, with the same account, and they agree as before
abbrev pub WordsAgree : Type 0
WordsAgree =
    (all : List ℕ) (start memory changed : Physical) (account : Noted) (place word : ℕ)
    → Agrees all start account.writes memory changed → place % 8 ≡ 0 → word_read memory place ≡ Ok word
    → Covers all (noted_rule (ReadWord place) memory account).reads
    → (word_read changed place ≡ Ok word)
    × (noted_rule (ReadWord place) changed account ≡ noted_rule (ReadWord place) memory account)
    × Agrees all start (noted_rule (ReadWord place) memory account).writes memory changed

-- ---- what was noted as read stays noted

-- by a fetch, whatever comes of it
abbrev pub AccountsGrowByFetches : Type 0
AccountsGrowByFetches =
    (all : List ℕ) (core : View) (rip : ℕ) (account fetched : Noted) (result : Result Insn BusStop)
    → FetchesOn (view_interface noted_rule) core rip account fetched result → Covers all fetched.reads
    → Covers all account.reads

-- by an execution, whatever comes of it
abbrev pub AccountsGrowByExecutions : Type 0
AccountsGrowByExecutions =
    (all : List ℕ) (core : View) (account : Noted) (row : Row) (regs : Regs)
    → Covers all (noted_execution row regs core account).account.reads → Covers all account.reads

-- by a call of physical memory
abbrev pub AccountsGrowByCalls : Type 0
AccountsGrowByCalls =
    (all : List ℕ) (memory : Physical) (call : PhysCall) (account : Noted)
    → Covers all (noted_rule call memory account).reads → Covers all account.reads

-- ---- what comes does not depend on what is noted: it is the same by a rule that keeps no account

-- of a fetch
abbrev pub FetchesWithoutAccount : Type 0
FetchesWithoutAccount =
    (rule : PhysCall → Physical → Unit {0} → Unit {0}) (core : View) (rip : ℕ) (account fetched : Noted)
    (result : Result Insn BusStop) → FetchesOn (view_interface noted_rule) core rip account fetched result
    → FetchesOn (view_interface rule) core rip tt tt result

-- two executions answer the same, and leave the same registers and the same memory
pub record SameButAccount (one : Execution View Noted) (two : Execution View (Unit {0})) : Type 0 where
  pub answer : two.answer ≡ one.answer
  pub registers : two.registers ≡ one.registers
  pub meaning : two.meaning ≡ one.meaning

-- of an execution
abbrev pub ExecutionsWithoutAccount : Type 0
ExecutionsWithoutAccount =
    (rule : PhysCall → Physical → Unit {0} → Unit {0}) (core : View) (account : Noted) (row : Row) (regs : Regs)
    → SameButAccount (noted_execution row regs core account) (execution_of (view_interface rule) row regs core tt)
