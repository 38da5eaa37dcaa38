use Rattle.sb_sub_tests.proofs.Standing.{seats_after, stands_after}
use Rattle.sb_sub_tests.proofs.nested.serve.Goals as goal

pub returns-clause-stands : goal.returns-clause-stands
returns-clause-stands c =
    stands_after c.args.kernel.now c.args.root.now c.args.book.now c.args.memory.now c.requires.stands c.args.view.thread
    c.requires.thread c.args.view.index c.serve.new.self c.serve.new.root c.serve.new.book c.serve.new.memory c.serve.result
    c.args.regs.now c.serve.new.regs c.serve.ensures.served

pub returns-clause-seats : goal.returns-clause-seats
returns-clause-seats c =
    seats_after c.args.kernel.now c.args.root.now c.args.book.now c.args.memory.now c.requires.stands c.args.view.thread
    c.requires.thread c.args.view.index c.serve.new.self c.serve.new.root c.serve.new.book c.serve.new.memory c.serve.result
    c.args.regs.now c.serve.new.regs c.serve.ensures.served
