-- What a VMFUNC reads of the list of its core, over memories that agree.
use Rattle.std.proofs.Common.{◌≡◌, ap, sym, ◌∙◌, ℕ, ◌%◌, List, [], ◌∷◌, Bool, true, false, refl, arith}
use Rattle.std.specs.Prelude.{Result, Ok, Err, if◌then◌else◌, ◌==◌, ◌&&◌, not, nat_lt}
use Rattle.sb_memory.specs.Physical.{Physical}
use Rattle.sb_memory.specs.Accounts.{ReadWord, account_after_words}
use Rattle.sb_memory.specs.Reading.{word_read}
use Rattle.sb_memory.specs.declared.address.Missing.{Missing}
use Rattle.sb_walks.specs.Entry.{entry_in}
use Rattle.sb_root.specs.declared.switch_answer.Switch.{Switch}
use Rattle.sb_root.specs.declared.switch_answer.Switch.TheVariants as switch
use Rattle.sb_root.specs.Switch.{switch_result, switch_reads, switch_by_entry}
use Rattle.sb_state.specs.Registers.{eax, ecx}
use Rattle.sb_machine.specs.declared.processor.CoreState.{CoreState}
use Rattle.sb_agree.specs.Noted.{Noted, noted_rule}
use Rattle.sb_agree.specs.Held.{Agrees, Covers}
use Rattle.sb_agree.proofs.Alike.{word_alike_on}
use Rattle.sb_agree.proofs.Noting.{rule_more}
use Rattle.sb_block.proofs.Made.{list_answer, list_account}

-- words that are read keep what was noted as read
words_more : (all : List ℕ) (memory : Physical) (places : List ℕ) (account : Noted)
    → Covers all (account_after_words noted_rule memory places account).reads → Covers all account.reads
words_more all memory [] account covers = covers
words_more all memory (place ∷ places) account covers =
    rule_more all memory (ReadWord place) account
    (words_more all memory places (noted_rule (ReadWord place) memory account) covers)

-- so does the list that is read
pub list_more : (all : List ℕ) (core : CoreState) (memory : Physical) (account : Noted)
    → Covers all (list_account noted_rule core memory account).reads → Covers all account.reads
list_more all core memory account covers =
    words_more all memory (switch_reads core.list.0 (eax core.regs) (ecx core.regs)) account covers

-- what the list says by its entry, where this is the leaf function 0 and the index is one of the list
abbrev answer_by : Bool → Bool → Result ℕ Missing → Result Switch Missing
answer_by leaf below entry =
    if not leaf then Ok switch.BadLeaf else if not below then Ok switch.Unbound else switch_by_entry entry

-- the place that is read for it
abbrev reads_by : Bool → Bool → ℕ → List ℕ
reads_by leaf below place = if leaf && below then place ∷ [] else []

module _ (all : List ℕ) (start memory changed : Physical) (account : Noted)
    (agree : Agrees all start account.writes memory changed) where
  -- the answer is the same, the same is noted, and they agree as before
  abbrev SameReads : Result Switch Missing → Result Switch Missing → List ℕ → Type 0
  SameReads one two places =
      (two ≡ one)
      × (account_after_words noted_rule changed places account ≡ account_after_words noted_rule memory places account)
      × Agrees all start (account_after_words noted_rule memory places account).writes memory changed

  -- by the entry over the first
  entry_alike : (place : ℕ) (entry : Result ℕ Missing) (answer : Switch) → place % 8 ≡ 0 → word_read memory place ≡ entry
      → switch_by_entry (word_read memory place) ≡ Ok answer → Covers all (noted_rule (ReadWord place) memory account).reads
      → SameReads (switch_by_entry (word_read memory place)) (switch_by_entry (word_read changed place)) (place ∷ [])
  entry_alike place (Ok word) answer even is says covers =
      let same = word_alike_on all start memory changed account place word agree even is covers in
      (ap switch_by_entry (same.0 ∙ sym is), same.1, same.2)
  entry_alike place (Err gap) answer even is says covers = let none = sym (ap switch_by_entry is) ∙ says in cc

  -- by whether the list is read
  reads_alike : (leaf below : Bool) (place : ℕ) (answer : Switch) → place % 8 ≡ 0
      → answer_by leaf below (word_read memory place) ≡ Ok answer
      → Covers all (account_after_words noted_rule memory (reads_by leaf below place) account).reads
      → SameReads (answer_by leaf below (word_read memory place)) (answer_by leaf below (word_read changed place))
      (reads_by leaf below place)
  reads_alike true true place answer even says covers =
      entry_alike place (word_read memory place) answer even refl says covers
  reads_alike true false place answer even says covers = (refl, refl, agree)
  reads_alike false below place answer even says covers = (refl, refl, agree)

  -- the list says the same over both, the same is noted, and they agree as before
  pub record SameList (core : CoreState) : Type 0 where
    pub answer : list_answer core changed ≡ list_answer core memory
    pub account_is : list_account noted_rule core changed account ≡ list_account noted_rule core memory account
    pub agrees : Agrees all start (list_account noted_rule core memory account).writes memory changed

  -- what the list says over one memory it says over the other
  pub list_alike : (core : CoreState) (answer : Switch) → list_answer core memory ≡ Ok answer
      → Covers all (list_account noted_rule core memory account).reads → SameList core
  unfolding switch_result switch_reads
  list_alike core answer says covers =
      let same =
      reads_alike (eax core.regs == 0) (nat_lt (ecx core.regs) 512) (entry_in core.list.0 (ecx core.regs)) answer (omega arith)
      says covers in
      record { answer = same.0; account_is = same.1; agrees = same.2 }
