-- A history goes on by the steps of a block.
use Rattle.std.proofs.Common.{◌≡◌, ◌≢◌, ◌∙◌, sym, ap, subst, ℕ, zero, suc, ◌+◌, ◌^◌, ◌%◌, ◌<◌, ◌≤◌, ◌==◌, Bool, cond, List, [], ◌∷◌, ◌++◌, length, length-append, refl, arith, inl, inr, not, replicate}
use Rattle.std.specs.Prelude.{filter}
use Rattle.std.proofs.Math.Nat.{mod-eq_of_lt}
use Rattle.std.proofs.lemmas.Bool.{cases_eq, ne_eqb}
use Rattle.std.proofs.lemmas.Bool.Decides.{Decides-eqb}
use Rattle.std.proofs.lemmas.List.{length-map}
use Rattle.std.proofs.lemmas.List.Elements.{All-append, filter-append}
use Rattle.std.proofs.lemmas.List.Filters.{length-filter_both}
use Rattle.sb_load.specs.FirstState.{first_state}
use Rattle.sb_load.specs.Loading.{Load}
use Rattle.sb_trace.specs.declared.event.Event.{Event}
use Rattle.sb_trace.specs.declared.event.Event.TheVariants.{Idle}
use Rattle.sb_trace.specs.declared.event.Line.{Line}
use Rattle.sb_trace.specs.Runs.{Runs}
use Rattle.sb_trace.specs.State.{State}
use Rattle.sb_machine.specs.Counts.{made_by, entries_of}
use Rattle.sb_machine.specs.Laws.{FollowsRunWithMarks, OwnStepsWithMarksArePlain}
use Rattle.sb_machine.specs.Machine.{Machine}
use Rattle.sb_machine.specs.Marks.{OwnStepsWithMarks}
use Rattle.sb_machine.specs.OwnSteps.{lines_of_core}
use Rattle.sb_machine.specs.Ran.{HasRun}
use Rattle.sb_block.specs.declared.fact.MadeStep.{MadeStep}
use Rattle.sb_block.specs.Marked.{event_marked, events_marked}
use Rattle.sb_book.specs.Commit.{line_marked, lines_marked}
use Rattle.sb_book.specs.History.{History, IsRun}

-- ---- entries of a core

entries_append : (core : ℕ) (schedule more : List ℕ)
    → entries_of core (schedule ++ more) ≡ entries_of core schedule + entries_of core more
entries_append core schedule more =
    ap (λ (kept : List ℕ). length kept) (filter-append (λ one. one == core) schedule more)
    ∙ length-append (filter (λ one. one == core) schedule) (filter (λ one. one == core) more)

-- a schedule has at most as many entries of a core as of all
entries_few : (core : ℕ) (schedule : List ℕ) → entries_of core schedule ≤ length schedule
entries_few core schedule =
    let both = length-filter_both (λ one. one == core) (λ one. not (one == core)) (λ one. refl) schedule in omega (arith, both)

own_entries : (core count : ℕ) → entries_of core (replicate count core) ≡ count
own_entries core zero = refl
own_entries core (suc count) =
    ap (λ (test : Bool). length (cond test (core ∷ filter (λ one. one == core) (replicate count core))
    (filter (λ one. one == core) (replicate count core)))) ((Decides-eqb core core).1 refl)
    ∙ ap (λ (n : ℕ). suc n) (own_entries core count)

other_entries : (core entry count : ℕ) → core ≢ entry → entries_of core (replicate count entry) ≡ 0
other_entries core entry zero apart = refl
other_entries core entry (suc count) apart =
    ap (λ (test : Bool). length (cond test (entry ∷ filter (λ one. one == core) (replicate count entry))
    (filter (λ one. one == core) (replicate count entry)))) (ne_eqb entry core (λ same. apart (sym same)))
    ∙ other_entries core entry count apart

-- ---- a run

-- a run, and behind it another
runs_append : (first mid last : State) (cores others : List ℕ) (lines more : List Line) → Runs first cores lines mid
    → Runs mid others more last → Runs first (cores ++ others) (lines ++ more) last
runs_append first mid last [] others [] more run rest = subst (λ (state : State). Runs state others more last) run rest
runs_append first mid last (core ∷ cores) others (line ∷ lines) more (same, (next, step, run)) rest =
    (same, (next, step, runs_append next mid last cores others lines more run rest))
runs_append first mid last [] others (line ∷ lines) more run rest = absurd run
runs_append first mid last (core ∷ cores) others [] more run rest = absurd run

module _ (machine new : Machine) (load : Load) (schedule : List ℕ) (lines : List Line) (end : State) (core : ℕ)
    (events : List Event) (few : length schedule + length events < 2 ^ 64) (ran : HasRun machine load schedule lines end)
    (follows : FollowsRunWithMarks machine end core events new) where
  abbrev longer : List ℕ
  longer = schedule ++ replicate (length events) core

  made_own : made_by new core ≡ entries_of core longer
  made_own =
      let most = entries_few core schedule in
      let small : entries_of core schedule + length events < 2 ^ 64 = omega (arith, most, few) in
      let before : made_by machine core < 2 ^ 64 =
      subst (λ (n : ℕ). n < 2 ^ 64) (sym (ran.made core)) (omega (arith, small)) in
      let all : entries_of core longer ≡ entries_of core schedule + length events =
      entries_append core schedule (replicate (length events) core)
      ∙ ap (λ (n : ℕ). entries_of core schedule + n) (own_entries core (length events)) in
      follows.made before
      ∙ (ap (λ (n : ℕ). (n + length events) % 2 ^ 64) (ran.made core) ∙ (mod-eq_of_lt small ∙ sym all))

  made_other : (other : ℕ) → other ≢ core → made_by new other ≡ entries_of other longer
  made_other other apart =
      let all = entries_append other schedule (replicate (length events) core) in
      let none = other_entries other core (length events) apart in
      let same : entries_of other longer ≡ entries_of other schedule = omega (arith, all, none) in
      follows.others other apart ∙ (ran.made other ∙ sym same)

  -- a machine that has made a run, and then steps of a core that it makes by itself, has made the longer run
  run_behind : HasRun new load longer (lines ++ lines_of_core core events) follows.end
  run_behind = record {
    runs = runs_append (first_state load) end follows.end schedule (replicate (length events) core) lines
        (lines_of_core core events) ran.runs follows.runs;
    stands = follows.stands;
    made = λ one. elim (cases_eq one core) [
      | inl same ↦ subst (λ (one : ℕ). made_by new one ≡ entries_of one longer) (sym same) made_own
      | inr apart ↦ made_other one apart
    ];
    frames = follows.frames ∙ ran.frames;
  }

-- the lines of steps with their marks, one by one and by their events
pub lines_of_marked : (machine : Machine) (core : ℕ) (steps : List MadeStep)
    → lines_marked machine core steps ≡ lines_of_core core (events_marked machine core steps)
lines_of_marked machine core [] = refl
lines_of_marked machine core (step ∷ steps) =
    ap (λ (lines : List Line). line_marked machine core step ∷ lines) (lines_of_marked machine core steps)

-- there are as many as steps
pub marked_count : (machine : Machine) (core : ℕ) (steps : List MadeStep)
    → length (events_marked machine core steps) ≡ length steps
marked_count machine core steps = length-map steps (event_marked machine core)

-- a history of a run, with the steps of a block behind it, is that of the longer run
pub run_by_steps : OwnStepsWithMarksArePlain → (old new : History) (core : ℕ) (steps : List MadeStep) → IsRun old
    → core < length old.machine.cores → length old.journal + length steps < 2 ^ 64
    → OwnStepsWithMarks old.machine core (events_marked old.machine core steps) new.machine → new.load ≡ old.load
    → new.journal ≡ old.journal ++ replicate (length steps) core → new.lines ≡ old.lines ++ lines_marked old.machine core steps
    → IsRun new
run_by_steps law old new core steps run there few made load journal lines =
    let events = events_marked old.machine core steps in
    let follows = law old.machine core events new.machine run.end there run.ran.stands made in
    let count = marked_count old.machine core steps in
    let few' : length old.journal + length events < 2 ^ 64 = omega (arith, few, count) in
    let ran = run_behind old.machine new.machine old.load old.journal old.lines run.end core events few' run.ran follows in
    let journal' : new.journal ≡ old.journal ++ replicate (length events) core =
    journal ∙ ap (λ (n : ℕ). old.journal ++ replicate n core) (sym count) in
    let lines' : new.lines ≡ old.lines ++ lines_of_core core events =
    lines ∙ ap (λ (list : List Line). old.lines ++ list) (lines_of_marked old.machine core steps) in
    record {
      end = follows.end;
      ran = rw (load, journal', lines') ran;
      busy = rw lines'
          (All-append (λ (one : Line). one.event ≢ Idle) old.lines (lines_of_core core events) run.busy follows.busy);
      cores = follows.cores ∙ (run.cores ∙ ap (λ (one : Load). length one.bundle.cores) (sym load));
    }
