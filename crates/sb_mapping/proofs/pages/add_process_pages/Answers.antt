use Rattle.sb_load.specs.FirstState.{image_of}
use Rattle.sb_mapping.proofs.StartPages.{process_pages_added}
use Rattle.sb_mapping.proofs.pages.add_process_pages.Goals as goal

pub returns-clause-added : goal.returns-clause-added
returns-clause-added c =
    process_pages_added c.args.set.now c.args.root.now c.add_part.new.root c.add_part-2.new.root c.add_part-3.new.root
    c.add_heap.new.root c.args.process (image_of c.args.image.now c.args.made.now) c.args.book.now c.add_part.new.book
    c.add_part-2.new.book c.add_part-3.new.book c.add_heap.new.book c.add_pool.new.book c.args.memory.now c.add_part.new.memory
    c.add_part-2.new.memory c.add_part-3.new.memory c.add_heap.new.memory c.add_pool.new.memory c.add_part.ensures.root
    c.add_part-2.ensures.root c.add_part-3.ensures.root c.add_heap.ensures.root
    (rw c.text.ensures at c.add_part.ensures.added) (rw c.area.ensures at c.add_part-2.ensures.added)
    (rw c.items.ensures at c.add_part-3.ensures.added) c.add_heap.ensures.added c.add_pool.ensures.added
