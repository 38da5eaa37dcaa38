use Rattle.sb_mapping.proofs.Taken.{tables_filled, stands_mapped, can_new}
use Rattle.sb_mapping.proofs.taking.add_page.Goals as goal

pub set_page-requires-clause-tables : goal.set_page-requires-clause-tables
set_page-requires-clause-tables c =
    tables_filled c.args.set.now c.args.root.now c.args.book.now c.args.memory.now c.fill.new.memory c.take_free-frame.result.0
    c.requires.can
    (c.take_free-frame.ensures.lowest.inside, c.take_free-frame.ensures.lowest.free) c.fill.ensures.same

pub expose-requires-clause-stands : goal.expose-requires-clause-stands
expose-requires-clause-stands c =
    stands_mapped c.args.set.now c.args.root.now c.args.book.now c.args.memory.now c.fill.new.memory c.take_free-frame.result.0
    c.requires.can (
      c.take_free-frame.ensures.lowest.inside,
      c.take_free-frame.ensures.lowest.free,
    ) c.fill.ensures.same c.set_page.new.memory c.args.at.0 _ c.set_page.ensures.entry

pub returns-clause-can : goal.returns-clause-can
returns-clause-can c =
    let stands = rw c.expose.ensures.root at c.expose.ensures.stands in
    rw c.expose.ensures.root
    (can_new c.args.set.now c.args.root.now c.args.book.now c.args.memory.now c.fill.new.memory c.take_free-frame.result.0
    c.requires.can (
      c.take_free-frame.ensures.lowest.inside,
      c.take_free-frame.ensures.lowest.free,
    ) c.fill.ensures.same c.set_page.new.memory c.args.at.0 _ c.set_page.ensures.entry
    c.expose.new.memory c.take_free-frame.new.self 3 _ c.set_page.ensures.tables c.expose.ensures.entry stands
    c.take_free-frame.ensures.taken)
