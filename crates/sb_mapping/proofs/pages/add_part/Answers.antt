use Rattle.std.proofs.Common.{◌∙◌, sym, ap, ℕ, List, arith}
use Rattle.sb_state.specs.Start.{padded_page, page_of, page_padded}
use Rattle.sb_mapping.specs.StartPages.{part_name, part_filler, part_mode, part_at}
use Rattle.sb_mapping.proofs.StartPages.{page_adds_at, page_more, part_number, part_mode_is}
use Rattle.sb_mapping.proofs.pages.add_part.Goals as goal

pub loop-page-preserved : goal.loop-page-preserved
loop-page-preserved c =
    let takes = c.add_image_page.ensures.added in
    let moved = rw c.loop-page.invariant.root at c.add_image_page.ensures.added in
    let can = rw c.loop-page.invariant.root at c.loop-page.invariant.can in
    let fewer = takes.fewer in
    let before = c.loop-page.invariant.fewer in
    record {
      root = c.add_image_page.ensures.root ∙ c.loop-page.invariant.root;
      added = page_more c.args.set.now c.args.root.now c.args.process
          (padded_page (part_name c.args.part c.args.process) (part_filler c.args.part) c.args.bytes.now) c.loop-page.page
          c.args.book.now c.loop-page.book c.add_image_page.new.book c.args.memory.now c.loop-page.memory
          c.add_image_page.new.memory c.loop-page.invariant.added
          (page_adds_at c.args.set.now c.args.root.now c.loop-page.book c.add_image_page.new.book c.loop-page.memory
          c.add_image_page.new.memory c.args.process c.args.process (part_at c.args.part c.loop-page.page)
          (part_mode c.args.part) (part_name c.args.part c.args.process c.loop-page.page)
          (page_padded (part_filler c.args.part) c.page_bytes.result.now)
          (page_of (part_filler c.args.part) c.args.bytes.now c.loop-page.page) can moved
          (sym (part_number c.args.part c.args.process c.loop-page.page))
          (part_mode_is c.args.part c.args.process c.loop-page.page)
          (ap (λ (bytes : List ℕ). page_padded (part_filler c.args.part) bytes) c.page_bytes.ensures.bytes));
      fewer = omega (arith, fewer, before);
      can = c.add_image_page.ensures.can;
    }
