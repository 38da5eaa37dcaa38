use Rattle.sb_load.specs.FirstState.{image_of}
use Rattle.sb_mapping.proofs.Frames.{process_frames}
use Rattle.sb_mapping.proofs.StartProcesses.{over_of, can_take_new, process_added}
use Rattle.sb_mapping.proofs.processes.add_process.Goals as goal

pub add_process_pages-requires-clause-can : goal.add_process_pages-requires-clause-can
add_process_pages-requires-clause-can c =
    let ready = c.requires.ready.2 in
    let booked = rw c.add_tables-set.ensures.root at c.add_tables-set.ensures.booked in
    rw c.add_tables-set.ensures.root
    (can_take_new c.requires.ready.0 c.args.root.now c.args.book.now c.add_tables-set.new.book c.args.memory.now
    c.add_tables-set.new.memory c.requires.ready.1 c.args.process c.add_tables-set.result ready
    (c.add_tables-set.ensures.tables c.requires.ready.0
    (over_of c.requires.ready.0 c.args.root.now c.args.book.now c.args.memory.now c.requires.ready.1 ready.carries) ready.roots)
    booked)

pub returns-clause-added : goal.returns-clause-added
returns-clause-added c = λ placement state ready.
    let booked = rw c.add_tables-set.ensures.root at c.add_tables-set.ensures.booked in
    let pages = rw c.add_tables-set.ensures.root at c.add_process_pages.ensures.added in
    let after = rw (c.add_process_pages.ensures.root, c.add_tables-set.ensures.root) at c.add_process_pages.ensures.can in
    rw (c.add_process_pages.ensures.root, c.add_tables-set.ensures.root)
    (process_added placement c.args.root.now c.args.book.now c.add_tables-set.new.book c.add_process_pages.new.book
    c.args.memory.now c.add_tables-set.new.memory c.add_process_pages.new.memory state c.args.process c.add_tables-set.result
    (image_of c.args.image.now c.args.made.now) ready c.requires.fits
    (c.add_tables-set.ensures.tables placement
    (over_of placement c.args.root.now c.args.book.now c.args.memory.now state ready.carries) ready.roots)
    booked pages after.booked)

pub returns-clause-frames : goal.returns-clause-frames
returns-clause-frames c =
    let ready = c.requires.ready.2 in
    let pages = rw c.add_tables-set.ensures.root at c.add_process_pages.ensures.added in
    process_frames c.requires.ready.0 c.args.root.now c.add_tables-set.new.book c.add_process_pages.new.book c.args.memory.now
    c.add_tables-set.new.memory c.add_process_pages.new.memory c.args.process c.add_tables-set.result
    (image_of c.args.image.now c.args.made.now)
    (c.add_tables-set.ensures.tables c.requires.ready.0
    (over_of c.requires.ready.0 c.args.root.now c.args.book.now c.args.memory.now c.requires.ready.1 ready.carries) ready.roots)
    pages
