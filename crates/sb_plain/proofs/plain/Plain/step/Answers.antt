use Rattle.std.proofs.Common.{◌∙◌, ap}
use Rattle.sb_state.specs.Windows.{process_now}
use Rattle.sb_trace.proofs.Marks.{alike_with_mark, changes_with_mark}
use Rattle.sb_trace.proofs.Landings.{steps_drop}
use Rattle.sb_trace.proofs.Steps.{steps_change}
use Rattle.sb_trace.proofs.SoundRuns.{steps_keep_sound}
use Rattle.sb_plain.proofs.RefusedCall.{steps_leave}
use Rattle.sb_plain.proofs.Lawful.{one_switch, steps_from}
use Rattle.sb_plain.proofs.Scratch.{refused_unmarked, steps_with_mark}
use Rattle.sb_plain.proofs.plain.Plain.step.Goals as goal

pub returns-clause-step : goal.returns-clause-step
returns-clause-step c =
    steps_with_mark _ _ _ c.process_now-process.result _ _ _ _ c.self.view_is
    (c.process_now-process.ensures ∙ ap process_now c.thread.ensures) c.next_event-step.ensures.step
    c.next_event-step.ensures.scratch c.with_mark-event.ensures

pub returns-clause-at_once : goal.returns-clause-at_once
returns-clause-at_once c sound =
    let marked = returns-clause-step c in
    alike_with_mark _ _ _ _ _ (steps_drop _ _ _ _ sound marked.1) marked.2

pub returns-clause-count : goal.returns-clause-count
returns-clause-count c = (steps_change _ _ _ _ (returns-clause-step c).1).thread.count

pub returns-clause-refused : goal.returns-clause-refused
returns-clause-refused c refused =
    let marked = returns-clause-step c in
    steps_leave _ _ _ _ marked.1 (refused_unmarked _ _ _ _ _ marked.2 refused)

pub returns-clause-changes : goal.returns-clause-changes
returns-clause-changes c =
    let marked = returns-clause-step c in
    changes_with_mark _ _ _ _ _ (steps_change _ _ _ _ marked.1) marked.2

pub returns-clause-one_switch : goal.returns-clause-one_switch
returns-clause-one_switch c sound = one_switch _ _ _ _ sound (returns-clause-step c).1

pub returns-clause-sound : goal.returns-clause-sound
returns-clause-sound c sound = steps_keep_sound _ _ _ _ sound (returns-clause-step c).1
