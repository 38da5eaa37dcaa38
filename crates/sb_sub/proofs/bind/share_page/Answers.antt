use Rattle.sb_mapping.proofs.Taken.{tables_filled}
use Rattle.sb_sub.proofs.Sharing.{server_between, stands_both, can_again}
use Rattle.sb_sub.proofs.bind.share_page.Goals as goal

pub set_page-requires-clause-tables : goal.set_page-requires-clause-tables
set_page-requires-clause-tables c =
    tables_filled c.args.home.now c.args.root.now c.args.book.now c.args.memory.now c.fill.new.memory c.take_free-frame.result.0
    c.requires.can.at_home (c.take_free-frame.ensures.lowest.inside, c.take_free-frame.ensures.lowest.free) c.fill.ensures.same

pub set_page-requires-2-clause-tables : goal.set_page-requires-2-clause-tables
set_page-requires-2-clause-tables c =
    server_between c.args.home.now c.args.server.now c.args.root.now c.args.book.now c.args.memory.now c.fill.new.memory
    c.take_free-frame.result.0 c.requires.can
    (c.take_free-frame.ensures.lowest.inside, c.take_free-frame.ensures.lowest.free) c.fill.ensures.same
    c.set_page.new.memory c.args.at.0 _ c.set_page.ensures.entry

pub expose-requires-clause-stands : goal.expose-requires-clause-stands
expose-requires-clause-stands c =
    stands_both c.args.home.now c.args.server.now c.args.root.now c.args.book.now c.args.memory.now c.fill.new.memory
    c.take_free-frame.result.0 c.requires.can
    (c.take_free-frame.ensures.lowest.inside, c.take_free-frame.ensures.lowest.free) c.fill.ensures.same
    c.set_page.new.memory c.args.at.0 _ c.set_page.ensures.entry c.set_page-2.new.memory c.set_page-2.ensures.entry

pub returns-clause-can : goal.returns-clause-can
returns-clause-can c =
    let stands = rw c.expose.ensures.root at c.expose.ensures.stands in
    rw c.expose.ensures.root
    (can_again c.args.home.now c.args.server.now c.args.root.now c.args.book.now c.args.memory.now c.fill.new.memory
    c.take_free-frame.result.0 c.requires.can
    (c.take_free-frame.ensures.lowest.inside, c.take_free-frame.ensures.lowest.free) c.fill.ensures.same
    c.set_page.new.memory c.args.at.0 _ c.set_page.ensures.entry c.set_page-2.new.memory c.set_page-2.ensures.entry
    c.expose.new.memory c.take_free-frame.new.self 3 _ c.expose.ensures.entry stands c.take_free-frame.ensures.taken
    c.set_page.ensures.tables c.set_page-2.ensures.tables)
