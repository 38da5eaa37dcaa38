-- What was made of all instructions of a text.
use Rattle.std.proofs.Common.{ℕ, List, sym, subst}
use Rattle.sb_rewrite.specs.RewrittenText.{RewrittenText, IsOrdered}
use Rattle.sb_rewrite.specs.Turns.{IsAllPut}
use Rattle.sb_rewrite.proofs.Ordered.{ordered}

pub made_ordered : (text : List ℕ) (draft : RewrittenText) → IsAllPut text draft → IsOrdered draft
made_ordered text draft (of_text, are, fits, is) =
    subst (λ (one : RewrittenText). IsOrdered one) (sym is) (ordered text of_text are)
