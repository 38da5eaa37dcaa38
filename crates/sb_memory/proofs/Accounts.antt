-- Accounts after reads one after another.
use Rattle.std.proofs.Common.{◌≡◌, ℕ, List, [], ◌∷◌, ◌++◌, refl}
use Rattle.sb_memory.specs.Physical.{Physical}
use Rattle.sb_memory.specs.Accounts.{PhysCall, ReadWord, account_after_words, account_after_reads, word_calls}

-- words are read, and then further words
pub after_words_append : {Account : Type 0} (rule : PhysCall → Physical → Account → Account) (memory : Physical)
    (first more : List ℕ) (account : Account)
    → account_after_words rule memory (first ++ more) account
    ≡ account_after_words rule memory more (account_after_words rule memory first account)
after_words_append rule memory [] more account = refl
after_words_append rule memory (place ∷ first) more account =
    after_words_append rule memory first more (rule (ReadWord place) memory account)

-- words are read, and then other calls made
pub after_reads_words : {Account : Type 0} (rule : PhysCall → Physical → Account → Account) (memory : Physical)
    (places : List ℕ) (calls : List PhysCall) (account : Account)
    → account_after_reads rule memory (word_calls places ++ calls) account
    ≡ account_after_reads rule memory calls (account_after_words rule memory places account)
after_reads_words rule memory [] calls account = refl
after_reads_words rule memory (place ∷ places) calls account =
    after_reads_words rule memory places calls (rule (ReadWord place) memory account)

-- calls are made, and then further calls
pub after_reads_append : {Account : Type 0} (rule : PhysCall → Physical → Account → Account) (memory : Physical)
    (first more : List PhysCall) (account : Account)
    → account_after_reads rule memory (first ++ more) account
    ≡ account_after_reads rule memory more (account_after_reads rule memory first account)
after_reads_append rule memory [] more account = refl
after_reads_append rule memory (call ∷ first) more account = after_reads_append rule memory first more (rule call memory account)
