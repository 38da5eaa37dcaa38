use Rattle.std.proofs.Common.{◌∙◌, refl, arith}
use Rattle.sb_state.specs.declared.page.Mode.TheVariants.{ReadWrite}
use Rattle.sb_state.specs.declared.page.PageName.TheVariants.{Heap}
use Rattle.sb_state.specs.PageWords.{zeros}
use Rattle.sb_state.specs.Start.{heap_page}
use Rattle.sb_shows.proofs.Protecting.{heap_window}
use Rattle.sb_mapping.proofs.StartPages.{page_adds_at, page_more, heap_number, heap_mode_is}
use Rattle.sb_mapping.proofs.pages.add_heap.Goals as goal

pub add_page-requires-clause-window : goal.add_page-requires-clause-window
add_page-requires-clause-window c =
    let below = c.loop-page-test.true in
    let few = c.requires.few in
    rw c.heap_address.ensures (heap_window c.loop-page.page (omega (arith, below, few)))

pub loop-page-preserved : goal.loop-page-preserved
loop-page-preserved c =
    let takes = c.add_page.ensures.added in
    let moved = rw c.loop-page.invariant.root at c.add_page.ensures.added in
    let can = rw c.loop-page.invariant.root at c.loop-page.invariant.can in
    let fewer = takes.fewer in
    let before = c.loop-page.invariant.fewer in
    record {
      root = c.add_page.ensures.root ∙ c.loop-page.invariant.root;
      added = page_more c.args.set.now c.args.root.now c.args.process (heap_page c.args.process) c.loop-page.page
          c.args.book.now c.loop-page.book c.add_page.new.book c.args.memory.now c.loop-page.memory c.add_page.new.memory
          c.loop-page.invariant.added
          (page_adds_at c.args.set.now c.args.root.now c.loop-page.book c.add_page.new.book c.loop-page.memory
          c.add_page.new.memory c.args.process c.args.process c.heap_address.result.0 ReadWrite
          (Heap c.args.process c.loop-page.page) zeros zeros can moved
          (c.heap_address.ensures ∙ heap_number c.args.process c.loop-page.page)
          (heap_mode_is c.args.process c.loop-page.page) refl);
      fewer = omega (arith, fewer, before);
      can = c.add_page.ensures.can;
    }
