use Rattle.std.proofs.Common.{sym, ◌∙◌}
use Rattle.std.proofs.lemmas.Bool.{true≢false}
use Rattle.sb_load.proofs.Parts.{refused_core}
use Rattle.sb_load.proofs.entries.check_entries.Goals as goal

pub returns-then-not-has_entry : goal.returns-then-not-has_entry
returns-then-not-has_entry c =
    refused_core _ _ _ _ c.loop-number-test.true c.loop-number.invariant
    (λ held. true≢false (sym (c.has_entry.ensures.1 held) ∙ c.if-not-has_entry.true))
