use Rattle.std.proofs.Common.{sym, subst, ◌<◌, length}
use Rattle.sb_memory.specs.Physical.{frame_count}
use Rattle.sb_machine.specs.declared.processor.Core.{Core}
use Rattle.sb_machine.specs.Machine.{Machine}
use Rattle.sb_machine.specs.OwnSteps.{HasWalks}
use Rattle.sb_machine.proofs.Places.{has_walks}
use Rattle.sb_machine.proofs.machine.Machine.core_state.Goals as goal

pub returns-clause-walks : goal.returns-clause-walks
returns-clause-walks c =
    let there = subst (λ (machine : Machine). c.args.core < length machine.cores) (sym c.self.view_is) c.requires in
    subst (λ (machine : Machine). HasWalks (frame_count machine.memory) c.core.result.state) c.self.view_is
    (subst (λ (core : Core). HasWalks (frame_count c.self.inside.parts.memory) core.state) (sym c.core.ensures)
    (has_walks c.self.inside.parts c.args.core (c.self.invariant.0, c.self.invariant.1) there))
