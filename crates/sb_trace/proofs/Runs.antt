-- Runs of any machine: a run goes on by one step, and a machine whose step has one outcome has one run.
use Rattle.std.proofs.Common.{◌≡◌, ℕ, ◌+◌, ◌<◌, ◌++◌, List, [], ◌∷◌, take, length, get_or, refl, ap, sym, ◌∙◌, subst}
use Rattle.std.proofs.lemmas.List.{take_more}
use Rattle.sb_trace.specs.declared.event.Event.{Event}
use Rattle.sb_trace.specs.declared.event.Line.{Line}
use Rattle.sb_trace.specs.Run.{RunBy}

-- ---- one more step

pub run_push : (S : Type 0) (step : S → ℕ → Event → S
    → Type 0) (old mid new : S) (cores : List ℕ) (lines : List Line) (line : Line)
    → RunBy step old cores lines mid → step mid line.core line.event new
    → RunBy step old (cores ++ line.core ∷ []) (lines ++ line ∷ []) new
run_push S step old mid new [] [] line run last =
    (refl, (new, subst (λ (state : S). step state line.core line.event new) run last, refl))
run_push S step old mid new (core ∷ cores) (first ∷ lines) line (same, (next, begun, rest)) last =
    (same, (next, begun, run_push S step next mid new cores lines line rest last))
run_push S step old mid new [] (first ∷ lines) line run last = absurd run
run_push S step old mid new (core ∷ cores) [] line run last = absurd run

-- the step of the next entry of a schedule
pub run_more : (S : Type 0) (step : S → ℕ → Event → S
    → Type 0) (old mid new : S) (schedule : List ℕ) (index : ℕ) (lines : List Line) (line : Line)
    → index < length schedule → line.core ≡ get_or schedule index 0
    → RunBy step old (take index schedule) lines mid → step mid line.core line.event new
    → RunBy step old (take (index + 1) schedule) (lines ++ line ∷ []) new
run_more S step old mid new schedule index lines line inside core run last =
    let longer = run_push S step old mid new (take index schedule) lines line run last in
    let entries = ap (λ (one : ℕ). take index schedule ++ one ∷ []) core ∙ sym (take_more schedule index 0 inside) in
    subst (λ (cores : List ℕ). RunBy step old cores (lines ++ line ∷ []) new) entries longer

-- ---- one outcome

-- a step that has one outcome
abbrev pub HasOneOutcome : (S : Type 0) → (S → ℕ → Event → S → Type 0) → Type 0
HasOneOutcome S step =
    (old : S) (core : ℕ) (event other : Event) (new another : S) → step old core event new → step old core other another
    → (event ≡ other) × (new ≡ another)

abbrev line_of : ℕ → Event → Line
line_of core event = record { core = core; event = event }

same_line : (line other : Line) → line.core ≡ other.core → line.event ≡ other.event → line ≡ other
same_line line other cores events =
    ap (λ (core : ℕ). line_of core line.event) cores ∙ ap (λ (event : Event). line_of other.core event) events

pub one_run : (S : Type 0) (step : S → ℕ → Event → S → Type 0) → HasOneOutcome S step
    → (old new another : S) (cores : List ℕ) (lines others : List Line)
    → RunBy step old cores lines new → RunBy step old cores others another → (lines ≡ others) × (new ≡ another)
one_run S step one old new another [] [] [] run second = (refl, run ∙ sym second)
one_run S step one old new another (core ∷ cores) (line ∷ lines) (other ∷ others) (at, (mid, first, rest)) (
  at',
  (mid', first', rest'),
) =
    let step_one = one old core line.event other.event mid mid' first first' in
    let rest_one = one_run S step one mid new another cores lines others rest
    (subst (λ (state : S). RunBy step state cores others another) (sym step_one.1) rest') in
    let heads : line ≡ other = same_line line other (at ∙ sym at') step_one.0 in
    (ap (λ (head : Line). head ∷ lines) heads ∙ ap (λ (tail : List Line). other ∷ tail) rest_one.0, rest_one.1)
one_run S step one old new another [] (line ∷ lines) others run second = absurd run
one_run S step one old new another [] [] (other ∷ others) run second = absurd second
one_run S step one old new another (core ∷ cores) [] others run second = absurd run
one_run S step one old new another (core ∷ cores) (line ∷ lines) [] run second = absurd second
