use Rattle.sb_mapping.proofs.StartPages.{part_window}
use Rattle.sb_mapping.proofs.Taken.{tables_filled, stands_mapped, can_new}
use Rattle.sb_mapping.proofs.pages.add_image_page.Goals as goal

pub set_page-requires-clause-window : goal.set_page-requires-clause-window
set_page-requires-clause-window c = rw c.address.ensures (part_window c.args.part c.args.page c.requires.page)

pub set_page-requires-clause-tables : goal.set_page-requires-clause-tables
set_page-requires-clause-tables c =
    tables_filled c.args.set.now c.args.root.now c.args.book.now c.args.memory.now c.fill_image.new.memory
    c.take_free-frame.result.0 c.requires.can
    (c.take_free-frame.ensures.lowest.inside, c.take_free-frame.ensures.lowest.free) c.fill_image.ensures.same

pub expose-requires-clause-stands : goal.expose-requires-clause-stands
expose-requires-clause-stands c =
    stands_mapped c.args.set.now c.args.root.now c.args.book.now c.args.memory.now c.fill_image.new.memory
    c.take_free-frame.result.0 c.requires.can (
      c.take_free-frame.ensures.lowest.inside,
      c.take_free-frame.ensures.lowest.free,
    ) c.fill_image.ensures.same c.set_page.new.memory c.address.result.0 _ c.set_page.ensures.entry

pub returns-clause-can : goal.returns-clause-can
returns-clause-can c =
    let stands = rw c.expose.ensures.root at c.expose.ensures.stands in
    rw c.expose.ensures.root
    (can_new c.args.set.now c.args.root.now c.args.book.now c.args.memory.now c.fill_image.new.memory c.take_free-frame.result.0
    c.requires.can (
      c.take_free-frame.ensures.lowest.inside,
      c.take_free-frame.ensures.lowest.free,
    ) c.fill_image.ensures.same c.set_page.new.memory c.address.result.0 _ c.set_page.ensures.entry
    c.expose.new.memory c.take_free-frame.new.self c.page_rights.result _ c.set_page.ensures.tables c.expose.ensures.entry stands
    c.take_free-frame.ensures.taken)
