-- A machine that has made a run and makes one step more has made the longer run.
use Rattle.std.proofs.Common.{◌≡◌, ◌≢◌, ◌∙◌, sym, ap, subst, ℕ, ◌+◌, ◌-◌, ◌^◌, ◌%◌, ◌<◌, ◌≤◌, ◌==◌, Bool, not, cond, List, [], ◌∷◌, ◌++◌, length, take, get_or, refl, arith, inl, inr}
use Rattle.std.specs.Prelude.{filter}
use Rattle.std.proofs.Math.Nat.{mod-eq_of_lt}
use Rattle.std.proofs.lemmas.Bool.{cases_eq, ne_eqb}
use Rattle.std.proofs.lemmas.Bool.Decides.{Decides-eqb}
use Rattle.std.proofs.lemmas.List.{length-append, length-take-le, take_more}
use Rattle.std.proofs.lemmas.List.Elements.{filter-append}
use Rattle.std.proofs.lemmas.List.Filters.{length-filter_both}
use Rattle.sb_memory.specs.Physical.{frame_count}
use Rattle.sb_load.specs.FirstState.{first_state}
use Rattle.sb_load.specs.Loading.{Load}
use Rattle.sb_trace.specs.declared.event.Line.{Line}
use Rattle.sb_trace.specs.Run.{RunBy}
use Rattle.sb_trace.specs.State.{State}
use Rattle.sb_trace.specs.Marks.{StepsWithMark}
use Rattle.sb_load.proofs.FirstState.{first_threads}
use Rattle.sb_trace.proofs.Runs.{run_push}
use Rattle.sb_trace.proofs.Steps.{steps_change}
use Rattle.sb_machine.specs.Counts.{CountsLine, made_by, entries_of}
use Rattle.sb_machine.specs.Laws.{FollowsWithMark}
use Rattle.sb_machine.specs.Machine.{Machine}
use Rattle.sb_machine.specs.Ran.{HasRun}

-- ---- entries of a core

-- an entry behind a schedule counts for a core as it does alone
entries_pushed : (core entry : ℕ) (schedule : List ℕ)
    → entries_of core (schedule ++ entry ∷ []) ≡ entries_of core schedule + entries_of core (entry ∷ [])
entries_pushed core entry schedule =
    ap (λ (kept : List ℕ). length kept) (filter-append (λ one. one == core) schedule (entry ∷ []))
    ∙ length-append (filter (λ one. one == core) schedule) (filter (λ one. one == core) (entry ∷ []))

-- it is one of its own core
own_entry : (core : ℕ) → entries_of core (core ∷ []) ≡ 1
own_entry core = ap (λ (test : Bool). length (cond test (core ∷ []) [])) ((Decides-eqb core core).1 refl)

-- and none of another
other_entry : (core entry : ℕ) → core ≢ entry → entries_of core (entry ∷ []) ≡ 0
other_entry core entry apart =
    ap (λ (test : Bool). length (cond test (entry ∷ []) [])) (ne_eqb entry core (λ same. apart (sym same)))

-- a schedule has at most as many entries of a core as of all
entries_few : (core : ℕ) (schedule : List ℕ) → entries_of core schedule ≤ length schedule
entries_few core schedule =
    let both = length-filter_both (λ one. one == core) (λ one. not (one == core)) (λ one. refl) schedule in omega (arith, both)

-- ---- a run

-- Each core has made as many lines as the longer schedule has entries of it.
made_more : (machine new : Machine) (schedule : List ℕ) (core : ℕ) → CountsLine machine core new
    → ((one : ℕ) → made_by machine one ≡ entries_of one schedule) → length schedule < 2 ^ 64 - 1
    → (one : ℕ) → made_by new one ≡ entries_of one (schedule ++ core ∷ [])
made_more machine new schedule core counts made few one = elim (cases_eq one core) [
  | inl same ↦
      let most = entries_few core schedule in
      let small : entries_of core schedule + 1 < 2 ^ 64 = omega (arith, most, few) in
      let pushed : entries_of core (schedule ++ core ∷ []) ≡ entries_of core schedule + 1 =
      entries_pushed core core schedule ∙ ap (λ (n : ℕ). entries_of core schedule + n) (own_entry core) in
      subst (λ (one : ℕ). made_by new one ≡ entries_of one (schedule ++ core ∷ [])) (sym same)
      (counts.own ∙ (ap (λ (n : ℕ). (n + 1) % 2 ^ 64) (made core) ∙ (mod-eq_of_lt small ∙ sym pushed)))
  | inr apart ↦
      let pushed = entries_pushed one core schedule in
      let none = other_entry one core apart in
      let same : entries_of one (schedule ++ core ∷ []) ≡ entries_of one schedule = omega (arith, pushed, none) in
      counts.others one apart ∙ (made one ∙ sym same)
]

-- A machine that has made the run of a schedule, and steps a core, has then made the run of the schedule with that core behind.
pub run_goes_on : (machine new : Machine) (load : Load) (schedule : List ℕ) (lines : List Line) (end : State) (core : ℕ)
    (line : Line) → length schedule < 2 ^ 64 - 1 → line.core ≡ core → HasRun machine load schedule lines end
    → (follows : FollowsWithMark new end core line.event) → CountsLine machine core new
    → frame_count new.memory ≡ frame_count machine.memory
    → HasRun new load (schedule ++ core ∷ []) (lines ++ line ∷ []) follows.next
run_goes_on machine new load schedule lines end core line few same run follows counts frames = record {
  runs = subst (λ (one : ℕ). RunBy StepsWithMark (first_state load) (schedule ++ one ∷ []) (lines ++ line ∷ []) follows.next) same
      (run_push State StepsWithMark (first_state load) end follows.next schedule lines line run.runs
      (subst (λ (one : ℕ). StepsWithMark end one line.event follows.next) (sym same) follows.steps));
  stands = follows.stands;
  made = made_more machine new schedule core counts run.made few;
  frames = frames ∙ run.frames;
}

-- the same for the next entry of a schedule
pub run_goes_on_at : (machine new : Machine) (load : Load) (schedule : List ℕ) (index : ℕ) (lines : List Line) (end : State)
    (line : Line) → index < length schedule → length schedule < 2 ^ 64 → line.core ≡ get_or schedule index 0
    → HasRun machine load (take index schedule) lines end
    → (follows : FollowsWithMark new end (get_or schedule index 0) line.event) → CountsLine machine (get_or schedule index 0) new
    → frame_count new.memory ≡ frame_count machine.memory
    → HasRun new load (take (index + 1) schedule) (lines ++ line ∷ []) follows.next
run_goes_on_at machine new load schedule index lines end line inside few same run follows counts frames =
    let count = length-take-le index schedule (omega (arith, inside)) in
    subst (λ (cores : List ℕ). HasRun new load cores (lines ++ line ∷ []) follows.next) (sym (take_more schedule index 0 inside))
    (run_goes_on machine new load (take index schedule) lines end (get_or schedule index 0) line
    (omega (arith, count, inside, few)) same run follows counts frames)

-- ---- cores

threads_stay : (first : State) (schedule : List ℕ) (lines : List Line) (end : State) → RunBy StepsWithMark first schedule lines end
    → length end.threads ≡ length first.threads
threads_stay first [] [] end same = ap (λ (state : State). length state.threads) same
threads_stay first (core ∷ schedule) (line ∷ lines) end (at, (next, step, rest)) =
    threads_stay next schedule lines end rest ∙ (steps_change first core step.0 next step.1).thread.count
threads_stay first [] (line ∷ lines) end run = absurd run
threads_stay first (core ∷ schedule) [] end run = absurd run

-- A machine that has made a run has a core for each one of the bundle.
pub run_cores : (machine : Machine) (load : Load) (schedule : List ℕ) (lines : List Line) (end : State)
    → HasRun machine load schedule lines end → length machine.cores ≡ length load.bundle.cores
run_cores machine load schedule lines end run =
    run.stands.count ∙ (threads_stay (first_state load) schedule lines end run.runs ∙ first_threads load)
