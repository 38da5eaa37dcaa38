-- Steps of a core over the memory of a machine are steps of the machine that the core makes by itself.
use Rattle.std.proofs.Common.{◌≡◌, ap, sym, subst, ◌∙◌, ℕ, ◌<◌, ◌==◌, ◌&&◌, not, Bool, true, false, List, [], ◌∷◌, inl, inr, refl}
use Rattle.std.specs.Prelude.{Option, Some, None, Result, Ok, Err, IsTrue, if◌then◌else◌, slice_index}
use Rattle.std.proofs.lemmas.List.{length-set}
use Rattle.sb_abi.specs.declared.trampoline.TheConstants.{COMPARE_KEY, LOAD_POOL, EXCHANGE_POOL}
use Rattle.sb_memory.specs.Physical.{Physical}
use Rattle.sb_insn.specs.declared.insn.Insn.{Insn}
use Rattle.sb_insn.specs.declared.registers.Regs.{Regs}
use Rattle.sb_bus.specs.declared.stop.BusStop.{BusStop}
use Rattle.sb_exec.specs.declared.action.Effect.{Effect}
use Rattle.sb_exec.specs.Execution.{Execution}
use Rattle.sb_nested.specs.View.{View}
use Rattle.sb_state.specs.Registers.{ecx}
use Rattle.sb_state.specs.declared.end_kind.EndKind.{EndKind}
use Rattle.sb_state.proofs.Cases.{claim_if}
use Rattle.sb_slots.specs.declared.mark.Mark.{Mark}
use Rattle.sb_slots.specs.declared.mark.Mark.TheVariants as mark_of
use Rattle.sb_slots.specs.Marks.{mark}
use Rattle.sb_slots.specs.TextMap.{TextMap}
use Rattle.sb_trace.specs.declared.event.Event.{Event}
use Rattle.sb_trace.specs.declared.event.Event.TheVariants as event
use Rattle.sb_trace.specs.Marks.{event_with_mark, line_of_mark}
use Rattle.sb_machine.specs.declared.processor.Core.{Core}
use Rattle.sb_machine.specs.declared.processor.CoreState.{CoreState}
use Rattle.sb_machine.specs.declared.processor.Origin.{Origin}
use Rattle.sb_machine.specs.Machine.{Machine, core_at, state_at, no_account}
use Rattle.sb_machine.specs.Outcomes.{Outcome, line_by, core_behind, home_line, home_state, regs_behind, core_in_flight, switch_outcome_by, count_made}
use Rattle.sb_machine.specs.Marks.{HasMark, OwnStepsWithMarks, map_shown}
use Rattle.sb_machine.specs.OwnSteps.{is_own, OwnSteps, HasRunningCore}
use Rattle.sb_machine.specs.Written.{FetchesNext, PerformsBy, RunsOn, StepsBy, Steps}
use Rattle.sb_block.specs.Step.{At, CoreOutcome, Made, CoreSteps, core_execution, fetch_outcome}
use Rattle.sb_block.specs.declared.fact.Fact.{Fact}
use Rattle.sb_block.specs.declared.fact.MadeStep.{MadeStep}
use Rattle.sb_block.specs.Facts.{IsFact}
use Rattle.sb_block.specs.Marked.{events_marked}
use Rattle.sb_block.specs.Run.{CoreRuns, events_of}
use Rattle.sb_block.specs.Block.{BlocksHold}
use Rattle.sb_block.proofs.Made.{view_line, GoesOn, Switches, IsMade, made_by, not_stopped}
use Rattle.sb_block.proofs.Puts.{machine_with, core_with, put_back, core_put, put_over, line_counted}
use Rattle.sb_block.proofs.Unnoted.{alone}
use Rattle.sb_block.proofs.Blocks.{block_runs}

-- ---- the lines of such steps

-- that of an instruction has the address at which it stood
abbrev StoodAt : ℕ → Event → Type 0
StoodAt rip (event.Step at) = at ≡ rip
StoodAt rip line = Unit {0}

-- one of a step that a core makes by itself, where the instruction stood at this address
abbrev IsOwn : ℕ → Event → Type 0
IsOwn rip line = IsTrue (is_own line) × StoodAt rip line

-- the line of an instruction that goes on
own_line : (phase : Option ℕ) (view rip : ℕ) (regs : Regs) → IsOwn rip (line_by phase view rip regs)
own_line None view rip regs = (refl, refl)
own_line (Some phase) view rip regs =
    claim_if (IsOwn rip) ((phase == COMPARE_KEY) && not regs.flags.zf) _ _ (λ _. (refl, tt))
    (λ _. claim_if (IsOwn rip) ((phase == LOAD_POOL) && (slice_index regs.general 0 == 0)) _ _ (λ _. (refl, tt))
    (λ _. claim_if (IsOwn rip) ((phase == EXCHANGE_POOL) && regs.flags.zf) _ _ (λ _. (refl, tt)) (λ _. (refl, tt))))

-- the line of a way into the home view
own_home : (phase : Option ℕ) (view rip : ℕ) → IsOwn rip (home_line phase view)
own_home None view rip = claim_if (IsOwn rip) (view == 0) _ _ (λ _. (refl, tt)) (λ _. (refl, tt))
own_home (Some phase) view rip = (refl, tt)

-- the line of a VMFUNC into a view
own_view : (core : CoreState) (index rip : ℕ) → IsOwn rip (view_line core index)
own_view core index rip = claim_if (IsOwn rip) (index == 0) _ _ (λ _. own_home core.phase core.view rip) (λ _. (refl, tt))

-- ---- one step

-- The machine makes the step: it leaves the core in this state and this memory, and nothing else is changed but what is kept of
-- where the thread stood.
pub record Lifts (machine : Machine) (number : ℕ) (line : Event) (next : At (Unit {0})) : Type 0 where
  pub own : IsOwn (state_at machine number).regs.rip line
  pub origin : Option Origin
  pub steps : Steps machine number line
      (machine_with machine number (core_with (core_at machine number) next.core origin) next.memory)

module _ (machine : Machine) (number : ℕ) (running : HasRunningCore machine number) (line : Event) (next : At (Unit {0})) where
  -- a line, and the machine with this core and this memory
  abbrev told : Event → Core → Physical → Outcome
  told one core memory = (one, machine_with machine number core memory)

  module _ (insn : Insn) (fetches : FetchesNext machine number (Ok insn)) where
    -- what the instruction leaves
    abbrev execution : Execution View (Unit {0})
    execution = core_execution no_account (state_at machine number) insn machine.memory tt

    -- that the instruction comes to an outcome, by its answer
    abbrev Performed : Result Effect BusStop → Outcome → Type 0
    Performed answer outcome =
        PerformsBy machine number insn answer execution.registers execution.meaning.physical outcome

    -- an outcome that puts a core and a memory, after which the line is counted
    lifts_by : (core : Core) (origin : Option Origin) (memory : Physical) → Performed execution.answer (told line core memory)
        → IsOwn (state_at machine number).regs.rip line → count_made core ≡ core_with (core_at machine number) next.core origin
        → memory ≡ next.memory → Lifts machine number line next
    lifts_by core origin memory performed own counted same =
        let runs : RunsOn machine number (told line core memory) = (Ok insn, fetches, performed) in
        record {
          own = own;
          origin = origin;
          steps = (
            machine_with machine number core memory,
            subst (λ (end : EndKind). StepsBy machine number end (told line core memory)) (sym running.running) runs,
            ap (λ (memory : Physical). machine_with machine number (core_with (core_at machine number) next.core origin) memory)
                (sym same)
                ∙ (ap (λ (one : Core). machine_with machine number one memory) (sym counted)
                ∙ sym (line_counted machine number running.there core memory)),
          );
        }

    -- an instruction that goes on
    goes_lifts : GoesOn (state_at machine number) execution line next → Lifts machine number line next
    goes_lifts goes =
        let core = core_behind (core_at machine number) execution.registers in
        let memory = execution.meaning.physical in
        lifts_by core core.origin memory
        (subst (λ (answer : Result Effect BusStop). Performed answer (told line core memory)) (sym goes.answer)
        (ap (λ (one : Event). told one core memory) goes.line))
        (subst (IsOwn (state_at machine number).regs.rip) (sym goes.line)
        (own_line (state_at machine number).phase (state_at machine number).view (state_at machine number).regs.rip
        execution.registers))
        (ap (λ (one : At (Unit {0})). core_with (core_at machine number) one.core core.origin) (sym goes.next_is))
        (ap (λ (one : At (Unit {0})). one.memory) (sym goes.next_is))

    -- the core that a VMFUNC puts, in the home view
    abbrev core_at_home : ℕ → Core
    core_at_home eptp =
        record (core_at machine number) {
          state = home_state eptp (state_at machine number) (regs_behind insn (state_at machine number).regs);
        }

    -- the core that it puts in the view of this index
    abbrev core_in_view : ℕ → ℕ → Core
    core_in_view index eptp =
        if index == 0 then core_at_home eptp else core_in_flight (core_at machine number) insn index eptp

    -- a line and a core by a test are told where each is told by it
    told_if : (test : Bool) (one other : Event) (home server : Core)
        → told (if test then one else other) (if test then home else server) machine.memory
        ≡ (if test then told one home machine.memory else told other server machine.memory)
    told_if true one other home server = refl
    told_if false one other home server = refl

    -- so is a line that is counted
    counted_if : (test : Bool) (home server : Core) (one other : CoreState)
        → count_made home ≡ core_with (core_at machine number) one home.origin
        → count_made server ≡ core_with (core_at machine number) other server.origin
        → count_made (if test then home else server)
        ≡ core_with (core_at machine number) (if test then one else other) (if test then home else server).origin
    counted_if true home server one other first second = first
    counted_if false home server one other first second = second

    -- a VMFUNC into a view
    switches_lift : Switches no_account (state_at machine number) insn machine.memory execution line next
        → Lifts machine number line next
    switches_lift switches =
        let index = ecx (state_at machine number).regs in
        let core = core_in_view index switches.eptp in
        lifts_by core core.origin machine.memory
        (subst (λ (answer : Result Effect BusStop). Performed answer (told line core machine.memory)) (sym switches.answer)
        (ap (λ (one : Event). told one core machine.memory) switches.line
        ∙ (told_if (index == 0) _ _ _ _
        ∙ ap (switch_outcome_by machine number insn index) (sym switches.list))))
        (subst (IsOwn (state_at machine number).regs.rip) (sym switches.line)
        (own_view (state_at machine number) index (state_at machine number).regs.rip))
        (counted_if (index == 0) _ _ _ _ refl refl
        ∙ ap (λ (one : At (Unit {0})). core_with (core_at machine number) one.core core.origin) (sym switches.next_is))
        (ap (λ (one : At (Unit {0})). one.memory) (sym switches.next_is))

    made_lifts : IsMade no_account (state_at machine number) insn machine.memory execution line next
        → Lifts machine number line next
    made_lifts (inl goes) = goes_lifts goes
    made_lifts (inr switches) = switches_lift switches

  -- by what was fetched
  fetch_lifts : (fetched : Result Insn BusStop) → FetchesNext machine number fetched
      → Path (CoreOutcome (Unit {0})) (Made line next)
      (fetch_outcome no_account (state_at machine number) machine.memory tt fetched)
      → Lifts machine number line next
  fetch_lifts (Ok insn) fetches made =
      let ended = execution insn fetches in
      made_lifts insn fetches
      (made_by line next no_account (state_at machine number) insn machine.memory ended ended.answer refl made)
  fetch_lifts (Err why) fetches made = absurd (not_stopped line next why made)

  -- a step of the core is one of the machine
  pub step_lifts : CoreSteps no_account (alone (state_at machine number) machine.memory) (Made line next)
      → Lifts machine number line next
  step_lifts step = fetch_lifts step.fetched step.fetches step.comes

-- ---- its mark

-- a line with its mark is one of a step that a core makes by itself, as it is without
own_mark : (one : Mark) (rip : ℕ) → IsTrue (is_own (line_of_mark one rip))
own_mark mark_of.Step rip = refl
own_mark mark_of.Extra rip = refl
own_mark mark_of.Stray rip = refl

own_marked : (map : TextMap) (next : ℕ) (scratch : Bool) (line : Event) → IsTrue (is_own line)
    → IsTrue (is_own (event_with_mark map next scratch line))
own_marked map next scratch (event.Step rip) own = own_mark (mark map rip next scratch) rip
own_marked map next scratch line own = own

module _ (machine : Machine) (number : ℕ) (next : At (Unit {0})) (fact : Fact) (new : Machine)
    (is : IsFact no_account (alone (state_at machine number) machine.memory) next fact)
    (left : (state_at new number).regs.rip ≡ next.core.regs.rip) where
  -- the map by which the line is marked
  abbrev map_at : ℕ → TextMap
  map_at view = map_shown machine number view

  -- what is known of a step by its fact is its mark
  pub has_mark : (line : Event) → StoodAt (state_at machine number).regs.rip line
      → HasMark machine number line (event_with_mark (map_at fact.view) fact.next fact.scratch line) new
  has_mark (event.Step rip) stood = (
    is.insn,
    is.fetches,
    rw (is.view, is.behind, is.scratch, stood, left) refl,
  )
  has_mark line stood = refl

-- ---- steps one after another

-- the machine makes the steps, with their marks
pub record LiftsRun (machine : Machine) (number : ℕ) (steps : List MadeStep) (after : At (Unit {0})) : Type 0 where
  pub origin : Option Origin
  pub own : OwnSteps machine number (events_of steps)
      (machine_with machine number (core_with (core_at machine number) after.core origin) after.memory)
  pub marked : OwnStepsWithMarks machine number (events_marked machine number steps)
      (machine_with machine number (core_with (core_at machine number) after.core origin) after.memory)

-- steps of the core are steps of the machine
pub runs_lift : (number : ℕ) (steps : List MadeStep) (machine : Machine) (after : At (Unit {0})) → HasRunningCore machine number
    → CoreRuns no_account (alone (state_at machine number) machine.memory) steps after → LiftsRun machine number steps after
unfolding CoreRuns OwnSteps OwnStepsWithMarks
runs_lift number [] machine after running runs =
    let origin = (core_at machine number).origin in
    let none =
    ap (λ (one : At (Unit {0})). machine_with machine number (core_with (core_at machine number) one.core origin) one.memory) runs
    ∙ put_back machine number running.there in
    record { origin = origin; own = none; marked = none }
runs_lift number (made ∷ steps) machine after running runs =
    let next = runs.0 in
    let step = step_lifts machine number running made.event next runs.1.0 in
    let core = core_with (core_at machine number) next.core step.origin in
    let mid : Machine = machine_with machine number core next.memory in
    let is : core_at mid number ≡ core = core_put machine number running.there core next.memory in
    let left : (state_at mid number).regs.rip ≡ next.core.regs.rip = ap (λ (one : Core). one.state.regs.rip) is in
    let still : HasRunningCore mid number =
    record {
      there = subst (λ (count : ℕ). number < count) (sym (length-set machine.cores number core)) running.there;
      running = ap (λ (one : Core). one.end) is ∙ running.running;
    } in
    let onward =
    subst (λ (state : CoreState). CoreRuns no_account (alone state next.memory) steps after)
    (sym (ap (λ (one : Core). one.state) is)) runs.2 in
    let rest = runs_lift number steps mid after still onward in
    let same : machine_with mid number (core_with (core_at mid number) after.core rest.origin) after.memory
    ≡ machine_with machine number (core_with (core_at machine number) after.core rest.origin) after.memory =
    ap (λ (one : Core). machine_with mid number (core_with one after.core rest.origin) after.memory) is
    ∙ put_over machine number running.there core (core_with (core_at machine number) after.core rest.origin) next.memory
    after.memory in
    record {
      origin = rest.origin;
      own = (mid, step.own.0, step.steps, subst (λ (end : Machine). OwnSteps mid number (events_of steps) end) same rest.own);
      marked = (
        mid,
        own_marked (map_shown machine number made.fact.view) made.fact.next made.fact.scratch made.event step.own.0,
        (made.event, step.steps, has_mark machine number next made.fact mid runs.1.1 left made.event step.own.1),
        subst (λ (end : Machine). OwnStepsWithMarks mid number (events_marked machine number steps) end) same rest.marked,
      );
    }

-- a block is so many steps of each machine in which it may be made
pub block_holds : BlocksHold
block_holds frames number before steps after reads writes block machine whole running is held =
    let run = block_runs frames number before steps after reads writes block machine.memory whole held in
    let runs =
    subst (λ (state : CoreState). CoreRuns no_account (alone state machine.memory) steps (alone after run.last)) (sym is)
    run.runs in
    let lifted = runs_lift number steps machine (alone after run.last) running runs in (
      machine_with machine number (core_with (core_at machine number) after lifted.origin) run.last,
      lifted.own,
      lifted.marked,
      record { memory = run.changes; origin = lifted.origin; rest = refl },
    )
