use Rattle.std.proofs.Common.{subst}
use Rattle.sb_memory.specs.Physical.{HasAllFrames, IsPhysical}
use Rattle.sb_machine.specs.Machine.{Machine}
use Rattle.sb_book.proofs.Holding.{leads_behind}
use Rattle.sb_book.proofs.history.History.commit.Goals as goal

pub make-requires-clause-leads : goal.make-requires-clause-leads
make-requires-clause-leads c =
    let block = c.args.block.now in
    let same = c.machine-2.ensures in
    let held = c.in_default.ensures.none in
    leads_behind c.args.self.now.machine block.core block.before block.after block.steps block.reads block.writes c.requires.block
    c.requires.core c.requires.running c.requires.state
    (subst (λ (machine : Machine). IsPhysical machine.memory) same c.frames.ensures.sound)
    (subst (λ (machine : Machine). HasAllFrames machine.memory) same c.frames.ensures.all)
    (rw (← c.machine.ensures, ← c.items-2.ensures) held)
