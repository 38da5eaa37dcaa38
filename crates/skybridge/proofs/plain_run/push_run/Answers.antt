use Rattle.std.proofs.Common.{ℕ, [], ◌∷◌, ◌++◌, rules, sym, subst}
use Rattle.sb_state.specs.State.{State}
use Rattle.sb_trace.proofs.Runs.{run_more}
use Rattle.sb_trace.specs.Marks.{StepsWithMark}
use Rattle.skybridge.proofs.LineTexts.{text_more}
use Rattle.skybridge.proofs.plain_run.push_run.Goals as goal

pub loop-core-preserved : goal.loop-core-preserved
loop-core-preserved c =
    let (lines, run, text) = c.loop-core.invariant in
    let line = c.step.result in
    let last = subst (λ (core : ℕ). StepsWithMark c.loop-core.plain core line.event c.step.new.self) (sym c.step.ensures.core) c.step.ensures.step in (
      lines ++ line ∷ [],
      run_more State StepsWithMark _ _ _ _ _ lines line (search rules) c.step.ensures.core run last,
      text_more _ _ _ lines line text c.in_ok-push_line.ensures,
    )
