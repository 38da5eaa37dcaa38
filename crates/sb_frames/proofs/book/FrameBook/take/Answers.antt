use Rattle.std.proofs.Common.{refl}
use Rattle.sb_frames.proofs.Counting.{none_free}
use Rattle.sb_frames.proofs.book.FrameBook.take.Goals as goal

pub returns-in_default-clause-none : goal.returns-in_default-clause-none
returns-in_default-clause-none c =
    let after = rw c.deref.ensures.value at c.in_default.ensures.none in
    let none = none_free c.self.inside.holders.items c.self.inside.first c.self.invariant.before after in
    (λ _. rw (← c.self.view_is) none, λ _. refl)
