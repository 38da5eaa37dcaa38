use Rattle.std.proofs.Common.{◌≡◌, subst, IfOk}
use Rattle.sb_trace.specs.End.{end_of}
use Rattle.sb_trace.specs.State.{State}
use Rattle.sb_machine.specs.Machine.{Machine}
use Rattle.sb_machine.specs.StandsFor.{IsMachineOf}
use Rattle.sb_machine.proofs.Ending.{end_told, seats_there}
use Rattle.sb_machine.proofs.machine.Machine.end.Goals as goal

pub machine_end-requires-clause-seats : goal.machine_end-requires-clause-seats
machine_end-requires-clause-seats c = seats_there c.self.inside.parts (c.self.invariant.0, c.self.invariant.1)

pub returns : goal.returns
returns c =
    subst (λ (machine : Machine).
    IfOk c.machine_end.result (λ end. (state : State) → IsMachineOf machine state → end ≡ end_of state)) c.self.view_is
    (end_told c.self.inside.parts c.machine_end.result c.machine_end.ensures)
