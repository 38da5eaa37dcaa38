use Rattle.sb_mapping.proofs.Frames.{thread_frames}
use Rattle.sb_mapping.proofs.StartProcesses.{over_of}
use Rattle.sb_mapping.proofs.StartThreads.{can_take_home, thread_added}
use Rattle.sb_mapping.proofs.threads.add_thread.Goals as goal

pub add_save_and_stack-requires-clause-can : goal.add_save_and_stack-requires-clause-can
add_save_and_stack-requires-clause-can c =
    let ready = c.requires.ready.2 in
    can_take_home c.requires.ready.0 c.args.root.now c.add_home_view.new.root c.args.book.now c.add_home_view.new.book
    c.args.memory.now c.add_home_view.new.memory c.requires.ready.1 c.args.thread c.args.home c.args.set.now ready
    c.requires.thread
    (c.add_home_view.ensures.added c.requires.ready.0
    (over_of c.requires.ready.0 c.args.root.now c.args.book.now c.args.memory.now c.requires.ready.1 ready.carries))
    c.add_home_view.ensures.booked

pub returns-clause-added : goal.returns-clause-added
returns-clause-added c = λ placement state address ready.
    let after = rw c.add_save_and_stack.ensures.root at c.add_save_and_stack.ensures.can in
    rw c.add_save_and_stack.ensures.root
    (thread_added placement c.args.root.now c.add_home_view.new.root c.args.book.now c.add_home_view.new.book
    c.add_save_and_stack.new.book c.args.memory.now c.add_home_view.new.memory c.add_save_and_stack.new.memory state
    c.args.thread c.args.home address c.args.set.now ready c.requires.thread
    (c.add_home_view.ensures.added placement
    (over_of placement c.args.root.now c.args.book.now c.args.memory.now state ready.carries))
    c.add_home_view.ensures.booked c.add_save_and_stack.ensures.added after.booked)

pub returns-clause-frames : goal.returns-clause-frames
returns-clause-frames c =
    let ready = c.requires.ready.2 in
    thread_frames c.requires.ready.0 c.add_home_view.new.root c.add_home_view.new.book c.add_save_and_stack.new.book
    c.args.memory.now c.add_home_view.new.memory c.add_save_and_stack.new.memory c.args.thread c.args.home c.args.set.now
    (c.add_home_view.ensures.added c.requires.ready.0
    (over_of c.requires.ready.0 c.args.root.now c.args.book.now c.args.memory.now c.requires.ready.1 ready.carries))
    ready.set_is c.add_save_and_stack.ensures.added
