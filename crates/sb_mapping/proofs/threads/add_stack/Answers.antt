use Rattle.std.proofs.Common.{◌≡◌, ◌∙◌, subst, ℕ, refl, arith, rules}
use Rattle.sb_state.specs.declared.page.Mode.TheVariants.{ReadWrite}
use Rattle.sb_state.specs.declared.page.PageName.TheVariants.{Stack}
use Rattle.sb_state.specs.PageWords.{zeros}
use Rattle.sb_state.specs.Start.{pages_from}
use Rattle.sb_shows.specs.Starts.{stack_page}
use Rattle.sb_mapping.specs.StartPages.{AddsAll}
use Rattle.sb_mapping.proofs.StartPages.{page_adds_at, page_more}
use Rattle.sb_mapping.proofs.StartThreads.{stack_window, stack_mode}
use Rattle.sb_mapping.proofs.threads.add_stack.Goals as goal

pub add_page-requires-clause-window : goal.add_page-requires-clause-window
add_page-requires-clause-window c =
    let below = c.loop-page-test.true in
    rw c.stack_address.ensures (stack_window c.args.thread c.loop-page.page c.requires.thread (omega (arith, below)))

pub loop-page-preserved : goal.loop-page-preserved
loop-page-preserved c =
    let takes = c.add_page.ensures.added in
    let moved = rw c.loop-page.invariant.root at c.add_page.ensures.added in
    let can = rw c.loop-page.invariant.root at c.loop-page.invariant.can in
    let fewer = takes.fewer in
    let before = c.loop-page.invariant.fewer in
    record {
      root = c.add_page.ensures.root ∙ c.loop-page.invariant.root;
      added = page_more c.args.set.now c.args.root.now c.args.home (stack_page c.args.thread) c.loop-page.page
          c.args.book.now c.loop-page.book c.add_page.new.book c.args.memory.now c.loop-page.memory c.add_page.new.memory
          c.loop-page.invariant.added
          (page_adds_at c.args.set.now c.args.root.now c.loop-page.book c.add_page.new.book c.loop-page.memory
          c.add_page.new.memory c.args.home c.args.home c.stack_address.result.0 ReadWrite
          (Stack c.args.thread c.loop-page.page) zeros zeros can moved c.stack_address.ensures
          (stack_mode c.args.thread c.loop-page.page) refl);
      fewer = omega (arith, fewer, before);
      can = c.add_page.ensures.can;
    }

pub returns-clause-added : goal.returns-clause-added
returns-clause-added c =
    let all : c.loop-page.page ≡ 4 = search rules in
    subst (λ (count : ℕ). AddsAll c.args.set.now c.args.root.now c.args.home (pages_from (stack_page c.args.thread) 0 count)
    c.args.book.now c.loop-page.book c.args.memory.now c.loop-page.memory) all c.loop-page.invariant.added
