-- The text of a run: there is one, and the laws hold of the run.
use Rattle.std.proofs.Common.{◌∙◌, sym, ap, subst, ℕ, List, take}
use Rattle.sb_trace.specs.declared.event.Line.{Line}
use Rattle.sb_state.specs.State.{State}
use Rattle.sb_trace.specs.End.{end_of}
use Rattle.sb_trace.specs.Laws.{RunsKeepOneSwitch, HasOneText, TextsAreOfLawfulRuns, ReportsAreOfLawfulRuns, ReportsAtOnce}
use Rattle.sb_trace.proofs.RunsWithMarks.{steps_run_once, landings_drop}
use Rattle.sb_trace.proofs.SoundRuns.{runs_keep_sound}
use Rattle.sb_trace.proofs.LandingTexts.{reports_drop}
use Rattle.sb_trace.proofs.Fetchable.{one_pattern}

-- two runs have the same lines and the same last state, and so the same text
pub one_text : HasOneText
one_text text_of first schedule text other (lines, end, runs, is) (lines', end', runs', is') =
    let same = steps_run_once first end end' schedule lines lines' runs runs' in
    is ∙ (ap (λ (lines : List Line). text_of lines (end_of end)) same.0
    ∙ (ap (λ (end : State). text_of lines' (end_of end)) same.1 ∙ sym is'))

-- each state of a run from a sound one is sound
pub runs_keep_one_switch : RunsKeepOneSwitch
runs_keep_one_switch first schedule lines sound count state run thread view address stands =
    let kept = runs_keep_sound first (take count schedule) (take count lines) state sound run in
    one_pattern state thread view address kept.pages stands

pub texts_are_of_lawful_runs : TextsAreOfLawfulRuns
texts_are_of_lawful_runs text_of first schedule text sound (lines, end, runs, is) = (
  lines,
  end,
  runs,
  is,
  landings_drop first schedule lines end sound runs,
  runs_keep_one_switch first schedule lines sound,
)

pub reports_are_of_lawful_runs : ReportsAreOfLawfulRuns
reports_are_of_lawful_runs first schedule text sound (lines, end, runs, is) = (
  lines,
  end,
  runs,
  is,
  landings_drop first schedule lines end sound runs,
  subst (λ (text : List ℕ). ReportsAtOnce text lines end) (sym is) (reports_drop lines end),
  runs_keep_one_switch first schedule lines sound,
)
