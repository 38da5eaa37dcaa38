-- Runs, whose lines have marks: from a state there is one, and without its landing lines it is one of the machine that calls in
-- one step.
use Rattle.std.proofs.Common.{ap, subst, sym, ℕ, List, [], ◌∷◌, refl}
use Rattle.std.specs.Prelude.{map}
use Rattle.sb_trace.specs.declared.event.Event.{Event}
use Rattle.sb_trace.specs.declared.event.Event.TheVariants.{Landing}
use Rattle.sb_trace.specs.declared.event.Line.{Line}
use Rattle.sb_state.specs.State.{State}
use Rattle.sb_trace.specs.Laws.{HasOneRun, LandingsDrop}
use Rattle.sb_trace.specs.Marks.{StepsWithMark, StepsOnceWithMark, StepsAlikeWithMark}
use Rattle.sb_trace.specs.OneStep.{without_flights, with_line, without_landings, core_of}
use Rattle.sb_trace.specs.Run.{RunBy}
use Rattle.sb_trace.proofs.Marks.{steps_with_mark_once, one_steps_with_mark_once, steps_with_mark_drop}
use Rattle.sb_trace.proofs.Runs.{one_run}
use Rattle.sb_trace.proofs.SoundRuns.{steps_keep_sound}

pub steps_run_once : HasOneRun StepsWithMark
steps_run_once = one_run State StepsWithMark steps_with_mark_once

pub one_steps_run_once : HasOneRun StepsOnceWithMark
one_steps_run_once = one_run State StepsOnceWithMark one_steps_with_mark_once

abbrev line_of : ℕ → Event → Line
line_of core event = record { core = core; event = event }

-- a step before a run
step_before : (old next new : State) (core : ℕ) (event : Event) (lines : List Line) → StepsAlikeWithMark old core event next
    → RunBy StepsOnceWithMark (without_flights next) (map core_of lines) lines (without_flights new)
    → RunBy StepsOnceWithMark (without_flights old) (map core_of (with_line (line_of core event) event lines))
    (with_line (line_of core event) event lines) (without_flights new)
step_before old next new core (Landing phase) lines alike run =
    subst (λ (state : State). RunBy StepsOnceWithMark state (map core_of lines) lines (without_flights new)) alike run
step_before old next new core _ lines alike run = (refl, (without_flights next, alike, run))

pub landings_drop : LandingsDrop
landings_drop old [] [] new sound run = ap without_flights run
landings_drop old (core ∷ cores) (line ∷ lines) new sound (same, (next, step, rest)) =
    step_before old next new line.core line.event (without_landings lines)
    (subst (λ n. StepsAlikeWithMark old n line.event next) (sym same) (steps_with_mark_drop old core line.event next sound step))
    (landings_drop next cores lines new (steps_keep_sound old core step.0 next sound step.1) rest)
landings_drop old [] (line ∷ lines) new sound run = absurd run
landings_drop old (core ∷ cores) [] new sound run = absurd run
