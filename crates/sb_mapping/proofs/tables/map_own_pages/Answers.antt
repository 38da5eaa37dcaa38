use Rattle.sb_mapping.proofs.StartPages.{pool_window}
use Rattle.sb_mapping.proofs.StartTables.{own_pages_same}
use Rattle.sb_mapping.proofs.tables.map_own_pages.Goals as goal

pub set_page-requires-clause-window : goal.set_page-requires-clause-window
set_page-requires-clause-window c = pool_window

pub set_page-requires-2-clause-window : goal.set_page-requires-2-clause-window
set_page-requires-2-clause-window c = pool_window

pub set_page-requires-3-clause-window : goal.set_page-requires-3-clause-window
set_page-requires-3-clause-window c = pool_window

pub returns-clause-same : goal.returns-clause-same
returns-clause-same c =
    own_pages_same c.args.set.now c.args.memory.now c.set_page.new.memory c.set_page-2.new.memory c.set_page-3.new.memory
    0x70004000 0x70002000 0x70000000 c.page_entry.result c.page_entry-2.result c.page_entry-3.result c.requires.eleven
    c.set_page.ensures.entry c.set_page-2.ensures.entry c.set_page-3.ensures.entry
