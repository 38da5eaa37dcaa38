-- The account after entries are read through the extended page tables.
use Rattle.std.proofs.Common.{◌≡◌, ℕ, List, [], ◌∷◌, refl, sym, ◌∙◌}
use Rattle.sb_memory.specs.Physical.{Physical}
use Rattle.sb_memory.specs.Accounts.{PhysCall, account_after_words}
use Rattle.sb_memory.proofs.Accounts.{after_words_append}
use Rattle.sb_walks.specs.Reads.{after_entries}
use Rattle.sb_walks.specs.Nested.{MemoryBehindEpt, entry_rule, guest_entry_reads, entries_reads}

-- entries one after another
pub after_entries_words : {Account : Type 0} (rule : PhysCall → Physical → Account
    → Account) (memory : MemoryBehindEpt) (places : List ℕ) (account : Account)
    → after_entries (entry_rule rule memory) places account
    ≡ account_after_words rule memory.physical (entries_reads memory places) account
unfolding entry_rule
after_entries_words rule memory [] account = refl
after_entries_words rule memory (place ∷ places) account =
    after_entries_words rule memory places (account_after_words rule memory.physical (guest_entry_reads memory place) account)
    ∙ sym (after_words_append rule memory.physical (guest_entry_reads memory place) (entries_reads memory places) account)
