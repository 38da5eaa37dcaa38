use Rattle.std.proofs.Common.{[], ◌∷◌, subst, sym}
use Rattle.sb_pagewalk.specs.TableSet.{table_frame}
use Rattle.sb_root.specs.Standing.{IsApart}
use Rattle.sb_root.proofs.Kept.{stands_kept}
use Rattle.sb_sub.specs.Kernel.{Entry}
use Rattle.sb_sub.proofs.Moving.{table_word, window_at}
use Rattle.sb_sub.proofs.protect.set_mode.Goals as goal

pub set_page-requires-clause-window : goal.set_page-requires-clause-window
set_page-requires-clause-window c = rw c.heap_address.ensures (window_at c.args.page _ c.requires.page c.requires.finds.few)

pub expose-requires-clause-stands : goal.expose-requires-clause-stands
expose-requires-clause-stands c =
    let apart =
    subst (λ (entry : Entry). IsApart c.args.root.now (table_frame entry.set 7 ∷ []))
    (sym c.process.view_is) c.requires.apart in
    let held = rw (← c.process-inside.view_is) at apart in
    let written = rw (c.heap_address.ensures, c.page_frame-frame.ensures.same) at c.set_page.ensures.entry in
    stands_kept c.args.root.now _ c.args.memory.now c.set_page.new.memory c.requires.stands
    (table_word _ c.args.memory.now c.set_page.new.memory c.args.page _ _ c.requires.page c.requires.finds.few written) held
