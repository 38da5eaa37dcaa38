use Rattle.std.proofs.Common.{◌∙◌, arith}
use Rattle.sb_sub.proofs.Sharing.{buffer_in_window, shares_next}
use Rattle.sb_sub.proofs.bind.share_buffer.Goals as goal

pub share_page-requires-clause-window : goal.share_page-requires-clause-window
share_page-requires-clause-window c =
    rw c.buffer_page_at.ensures
    (buffer_in_window c.args.thread c.args.index c.loop-page.page c.requires.served c.requires.few c.loop-page-test.true)

pub loop-page-preserved : goal.loop-page-preserved
loop-page-preserved c =
    let shared = rw (c.buffer_page_at.ensures, c.loop-page.invariant.root) at c.share_page.ensures.shared in
    let one = c.share_page.ensures.shared.fewer in
    let before = c.loop-page.invariant.fewer in
    record {
      root = c.share_page.ensures.root ∙ c.loop-page.invariant.root;
      shared = shares_next c.loop-page.page c.args.home.now c.args.server.now c.args.root.now c.args.book.now c.loop-page.book
          c.share_page.new.book c.args.memory.now c.loop-page.memory c.share_page.new.memory c.args.owner c.args.thread
          c.args.index c.loop-page.invariant.shared shared;
      fewer = omega (arith, one, before);
      can = c.share_page.ensures.can;
    }
