-- The calls that look up one address.
use Rattle.std.proofs.Common.{◌≡◌, ℕ, List, [], ap, sym, ◌∙◌}
use Rattle.std.proofs.lemmas.List.{append-nil}
use Rattle.sb_memory.specs.Physical.{Physical}
use Rattle.sb_memory.specs.Accounts.{PhysCall, account_after_reads, account_after_words, word_calls}
use Rattle.sb_memory.specs.declared.address.Access.{Access}
use Rattle.sb_memory.proofs.Accounts.{after_reads_words}
use Rattle.sb_walks.specs.Nested.{memory_behind, translation_reads}
use Rattle.sb_nested.specs.View.{View, walk_calls}

-- they read the words of the nested walk
pub calls_are_words : {Account : Type 0} (rule : PhysCall → Physical → Account → Account) (core : View) (access : Access)
    (at : ℕ) (account : Account)
    → account_after_reads rule core.physical (walk_calls core access at) account
    ≡ account_after_words rule core.physical
    (translation_reads (memory_behind core.physical core.eptp) core.cr3 at access) account
unfolding walk_calls
calls_are_words rule core access at account =
    let words = translation_reads (memory_behind core.physical core.eptp) core.cr3 at access in
    ap (λ (calls : List PhysCall). account_after_reads rule core.physical calls account) (sym (append-nil (word_calls words)))
    ∙ after_reads_words rule core.physical words [] account
