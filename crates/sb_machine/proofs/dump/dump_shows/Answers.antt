use Rattle.std.proofs.Common.{ap, subst}
use Rattle.sb_memory.specs.Physical.{HasAllFrames, IsPhysical}
use Rattle.sb_machine.specs.Machine.{Machine}
use Rattle.sb_machine.proofs.Dumped.{dump_shows}
use Rattle.sb_machine.proofs.dump.dump_shows.Goals as goal

pub returns : goal.returns
returns c =
    let memory = ap (λ (machine : Machine). machine.memory) c.parts.view_is in
    dump_shows c.args.parts.now (subst IsPhysical memory c.frames.ensures.sound)
    (subst HasAllFrames memory c.frames.ensures.all)
