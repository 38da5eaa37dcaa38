use Rattle.std.proofs.Common.{refl}
use Rattle.sb_state.specs.declared.page.PageName.TheVariants.{Pool}
use Rattle.sb_state.specs.declared.page.Mode.TheVariants.{ReadWrite}
use Rattle.sb_state.specs.PageWords.{zeros}
use Rattle.sb_mapping.proofs.StartPages.{page_adds_at, pool_number, pool_mode_is, pool_window}
use Rattle.sb_mapping.proofs.pages.add_pool.Goals as goal

pub add_page-requires-clause-window : goal.add_page-requires-clause-window
add_page-requires-clause-window c = pool_window

pub returns-clause-added : goal.returns-clause-added
returns-clause-added c =
    page_adds_at c.args.set.now c.args.root.now c.args.book.now c.add_page.new.book c.args.memory.now c.add_page.new.memory
    c.args.process c.args.process 0x70006000 ReadWrite (Pool c.args.process) zeros zeros c.requires.can c.add_page.ensures.added
    (pool_number c.args.process) (pool_mode_is c.args.process) refl
