use Rattle.std.proofs.Common.{◌∙◌, sym, subst, [], ◌∷◌, refl}
use Rattle.sb_pagewalk.specs.Windows.{IsInWindow}
use Rattle.sb_state.specs.declared.page.Mode.TheVariants.{ReadWrite}
use Rattle.sb_state.specs.declared.page.PageName.TheVariants.{Save}
use Rattle.sb_state.specs.PageWords.{zeros}
use Rattle.sb_state.specs.State.{page_with}
use Rattle.sb_state.specs.Start.{pages_from}
use Rattle.sb_shows.specs.Starts.{stack_page}
use Rattle.sb_mapping.proofs.StartPages.{both_added, page_adds_at}
use Rattle.sb_mapping.proofs.StartThreads.{save_window, save_number, save_mode}
use Rattle.sb_mapping.proofs.threads.add_save_and_stack.Goals as goal

pub add_page-requires-clause-window : goal.add_page-requires-clause-window
add_page-requires-clause-window c =
    subst IsInWindow (sym (c.save_address.ensures ∙ save_number c.args.thread)) (save_window c.args.thread c.requires.thread)

pub returns-clause-added : goal.returns-clause-added
returns-clause-added c =
    both_added c.args.set.now c.args.root.now c.args.home (page_with (Save c.args.thread) zeros ∷ [])
    (pages_from (stack_page c.args.thread) 0 4) c.args.book.now c.add_page.new.book c.add_stack.new.book c.args.memory.now
    c.add_page.new.memory c.add_stack.new.memory
    (page_adds_at c.args.set.now c.args.root.now c.args.book.now c.add_page.new.book c.args.memory.now c.add_page.new.memory
    c.args.home c.args.home c.save_address.result ReadWrite (Save c.args.thread) zeros zeros c.requires.can
    c.add_page.ensures.added (c.save_address.ensures ∙ save_number c.args.thread) (save_mode c.args.thread) refl)
    (rw c.add_page.ensures.root at c.add_stack.ensures.added)
