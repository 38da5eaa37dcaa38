use Rattle.std.proofs.Common.{◌≤◌, length, subst}
use Rattle.sb_state.specs.State.{State, process_at}
use Rattle.sb_plain.proofs.Scratch.{none_shown}
use Rattle.sb_plain.proofs.step.mark_in.Goals as goal

pub returns-in-None : goal.returns-in-None
unfolding process_at
returns-in-None c =
    let here = rw c.deref.ensures.value at c.in-None.ensures.lookup.3 in
    none_shown c.args.state.now.processes c.args.process c.args.rip c.args.next c.args.scratch c.mark_without_text.result
    (subst (λ (state : State). length state.processes ≤ c.args.process) c.state.view_is here) c.mark_without_text.ensures
