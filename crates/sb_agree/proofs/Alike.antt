-- A fetch, an execution and a word over memories that agree, and what an account is to a fetch and to an execution.
use Rattle.std.proofs.Common.{◌≡◌, ap, sym, subst, ℕ, zero, suc, true, List, refl}
use Rattle.sb_memory.specs.Physical.{Physical, has_frame, frame_of}
use Rattle.sb_memory.specs.Accounts.{PhysCall, ReadWord}
use Rattle.sb_insn.specs.declared.registers.Regs.{Regs}
use Rattle.sb_bus.specs.Interface.{FetchByte}
use Rattle.sb_exec.specs.Execution.{execution_of}
use Rattle.sb_exec.specs.Fetching.{after_fetches, bytes_from_fetch}
use Rattle.sb_exec.specs.Row.{Row}
use Rattle.sb_exec.specs.Simulation.{Alike}
use Rattle.sb_exec.proofs.Simulation.{rows_alike}
use Rattle.sb_nested.specs.View.{View}
use Rattle.sb_nested.specs.Store.{view_interface, view_stored}
use Rattle.sb_walks.proofs.Depends.{is_there}
use Rattle.sb_agree.specs.Noted.{Noted, noted_rule}
use Rattle.sb_agree.specs.Held.{Agrees, Covers}
use Rattle.sb_agree.specs.Laws.{AccountsGrowByFetches, ExecutionsAgree, ExecutionsWithoutAccount, FetchesAgree, FetchesWithoutAccount, WordsAgree, noted_execution}
use Rattle.sb_agree.proofs.Noting.{rule_known, rule_same, rule_writes}
use Rattle.sb_agree.proofs.Agreeing.{word_held}
use Rattle.sb_agree.proofs.Calls.{call_more}
use Rattle.sb_agree.proofs.Rows.{fetched_alike, row_alike}

-- ---- over memories that agree

-- what leaves the words that were written leaves the memories in agreement
still : (all : List ℕ) (start memory changed : Physical) (account after : Noted) → after.writes ≡ account.writes
    → Agrees all start account.writes memory changed → Agrees all start after.writes memory changed
still all start memory changed account after same agree =
    subst (λ (words : List ℕ). Agrees all start words memory changed) (sym same) agree

-- an instruction that is fetched
pub fetch_alike_on : FetchesAgree
fetch_alike_on all start memory changed eptp cr3 rip account fetched insn agree fetches covers =
    let same = fetched_alike all start eptp cr3 memory changed account agree rip insn fetched fetches covers in
    (same.0, still all start memory changed account fetched same.1 agree)

-- an execution that no access stops
pub execution_alike : ExecutionsAgree
execution_alike all start memory changed eptp cr3 account row regs effect agree e covers =
    row_alike all start eptp cr3 memory changed account row regs effect agree e covers

-- a word that is read
pub word_alike_on : WordsAgree
word_alike_on all start memory changed account place word agree even e covers =
    let there : has_frame memory (frame_of place) ≡ true = is_there memory changed agree.frames place word e in
    let known = rule_known all memory (ReadWord place) account there tt covers in (
      word_held all start account.writes memory changed agree place (λ _. known) even word e,
      rule_same memory changed (ReadWord place) account there (agree.there (frame_of place) there),
      still all start memory changed account (noted_rule (ReadWord place) memory account)
          (rule_writes memory (ReadWord place) account tt) agree,
    )

-- ---- accounts only grow

-- by bytes that are fetched one after another
bytes_grow : (all : List ℕ) (core : View) (account : Noted) (rip count : ℕ)
    → Covers all (after_fetches (view_interface noted_rule) core rip count account).reads → Covers all account.reads
bytes_grow all core account rip zero covers = covers
bytes_grow all core account rip (suc count) covers =
    bytes_grow all core account rip count
    (call_more all (FetchByte (bytes_from_fetch rip count)) core
    (after_fetches (view_interface noted_rule) core rip count account) covers)

-- by a fetch, whatever comes of it
pub fetch_more : AccountsGrowByFetches
fetch_more all core rip account fetched result fetches covers =
    bytes_grow all core account rip fetches.asked (subst (λ (after : Noted). Covers all after.reads) fetches.account covers)

-- ---- without an account

-- the same fetch
pub fetch_unnoted : FetchesWithoutAccount
fetch_unnoted rule core rip account fetched result fetches =
    record { asked = fetches.asked; fetched = fetches.fetched; account = refl }

-- the same view
abbrev SameView : View → View → Type 0
SameView one two = two ≡ one

-- an execution by two rules
execution_same : (rule : PhysCall → Physical → Unit {0} → Unit {0}) (core : View) (account : Noted) (row : Row) (regs : Regs)
    → Alike SameView (noted_execution row regs core account) (execution_of (view_interface rule) row regs core tt)
execution_same rule core account row regs =
    rows_alike SameView (view_interface noted_rule) (view_interface rule)
    (record {
      stored = λ first second same address size value anywhere here there.
          ap (λ (core : View). view_stored core address size value) same;
    })
    (λ first second same address how is_data. ap (λ (core : View). (view_interface rule).byte core address how) same)
    row regs core core account tt refl

-- the same execution
pub execution_unnoted : ExecutionsWithoutAccount
execution_unnoted rule core account row regs =
    let same = execution_same rule core account row regs in
    record { answer = same.answer; registers = same.registers; meaning = same.related }
