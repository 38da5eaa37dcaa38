use Rattle.std.proofs.Common.{◌≡◌, string_bytes, subst, sym}
use Rattle.sb_machine.specs.Machine.{Machine}
use Rattle.sb_machine.specs.StandsFor.{IsMachineOf}
use Rattle.sb_state.specs.State.{State}
use Rattle.sb_trace.specs.End.{end_of}
use Rattle.skycores.specs.Text.{IsOutputFor}
use Rattle.skycores.proofs.Outputs.{is_output}
use Rattle.skycores.proofs.text.output_text.Goals as goal

pub returns : goal.returns
returns c =
    let shown = subst
    (λ (machine : Machine). (state : State) → IsMachineOf machine state → c.in_ok-end.end ≡ end_of state)
    c.machine.ensures c.in_ok-end.ensures in
    subst (λ (machine : Machine). IsOutputFor c.args.history.load c.args.run.now (string_bytes c.in_ok-text.text) machine)
    (sym c.into_parts-journal.ensures.machine)
    (is_output c.args.history c.all_ended-ended.result c.args.run.now c.in_ok-end.end (string_bytes c.in_ok-text.text) c.lines.ensures.run c.requires.done
    c.requires.limit c.all_ended-ended.ensures shown
    (cc (c.in_ok-text.ensures, c.into_parts-journal.ensures.journal, c.into_parts-journal.ensures.lines)))
