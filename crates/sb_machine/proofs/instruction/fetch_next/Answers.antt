use Rattle.std.proofs.Common.{rules, sym, subst, ◌<◌}
use Rattle.sb_memory.specs.Physical.{frame_count}
use Rattle.sb_walks.specs.Entry.{frame_in}
use Rattle.sb_machine.specs.Machine.{Machine}
use Rattle.sb_machine.specs.Written.{FetchesNext}
use Rattle.sb_machine.proofs.Places.{is_pointer, root_inside, fetch_is_fault}
use Rattle.sb_machine.proofs.instruction.fetch_next.Goals as goal

pub fetch_next-requires-clause-eptp : goal.fetch_next-requires-clause-eptp
fetch_next-requires-clause-eptp c =
    rw c.core.ensures (is_pointer c.args.parts.now c.args.number c.requires.stands c.requires.there)

pub fetch_next-requires-clause-root : goal.fetch_next-requires-clause-root
fetch_next-requires-clause-root c =
    subst (λ (machine : Machine). frame_in c.core.result.state.eptp < frame_count machine.memory) (sym c.parts.view_is)
    (rw c.core.ensures (root_inside c.args.parts.now c.args.number c.requires.stands c.requires.there))

pub returns-clause-fault : goal.returns-clause-fault
returns-clause-fault c =
    let fetched : FetchesNext c.args.parts.now c.args.number c.fetch_next.result = search rules in
    fetch_is_fault c.args.parts.now c.args.number c.requires.stands c.requires.there c.fetch_next.result fetched
