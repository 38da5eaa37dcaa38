use Rattle.std.proofs.Common.{ℕ, ◌<◌, subst, sym}
use Rattle.sb_book.specs.History.{History, IsDone}
use Rattle.sb_book.proofs.threads.audited.Goals as goal

pub returns-clause-done : goal.returns-clause-done
returns-clause-done g c =
    let given = subst (λ (amount : ℕ). 0 < amount) (sym c.audit.ensures.share.1) c.requires.stopped in
    subst (λ (history : History). IsDone history) (sym c.into_history.ensures.same) (c.audit.ensures.done given)
