use Rattle.std.proofs.Common.{rules}
use Rattle.sb_book.proofs.Running.{not_done}
use Rattle.sb_book.proofs.book.Book.turn.Goals as goal

pub returns-in-Some-clause-full : goal.returns-in-Some-clause-full
returns-in-Some-clause-full g c same done =
    let next = c.in-Some.ensures.some in
    absurd (not_done c.args.self.now.history c.in-Some.next (search (rules, next)) (search (rules, next)) done)
