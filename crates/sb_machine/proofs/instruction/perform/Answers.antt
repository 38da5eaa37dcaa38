use Rattle.std.proofs.Common.{rules, ◌≡◌, sym, subst, ◌<◌, Result}
use Rattle.std.specs.Prelude.{IfErr}
use Rattle.sb_memory.specs.Physical.{frame_count}
use Rattle.sb_bus.specs.declared.stop.BusStop.{BusStop}
use Rattle.sb_exec.specs.declared.action.Effect.{Effect}
use Rattle.sb_walks.specs.Entry.{frame_in}
use Rattle.sb_trace.specs.Faults.{IsFault}
use Rattle.sb_machine.specs.Machine.{Machine}
use Rattle.sb_machine.specs.Written.{execution_on}
use Rattle.sb_machine.proofs.Places.{is_pointer, root_inside, execution_is_fault}
use Rattle.sb_machine.proofs.instruction.perform.Goals as goal

pub new-requires-clause-eptp : goal.new-requires-clause-eptp
new-requires-clause-eptp c =
    rw c.core.ensures (is_pointer c.args.parts.now c.args.number c.requires.stands c.requires.there)

pub new-requires-clause-root : goal.new-requires-clause-root
new-requires-clause-root c =
    subst (λ (machine : Machine). frame_in c.core.result.state.eptp < frame_count machine.memory) (sym c.parts.view_is)
    (rw c.core.ensures (root_inside c.args.parts.now c.args.number c.requires.stands c.requires.there))

pub returns-clause-fault : goal.returns-clause-fault
returns-clause-fault c =
    let answer : c.execute.result ≡ (execution_on c.args.parts.now c.args.number c.args.insn.now).answer = search rules in
    subst (λ (one : Result Effect BusStop). IfErr one IsFault) (sym answer)
    (execution_is_fault c.args.parts.now c.args.number c.requires.stands c.requires.there c.args.insn.now)
