-- A step with its mark: it has one line, changes what the line without the mark permits, and the machine that calls in one step
-- gives the same mark.
use Rattle.std.proofs.Common.{◌≡◌, ◌∙◌, sym, ap, subst, ℕ, refl, Result, Ok, Err}
use Rattle.sb_insn.specs.declared.insn.Insn.{Insn}
use Rattle.sb_bus.specs.declared.stop.BusStop.{BusStop}
use Rattle.sb_exec.proofs.OneFetch.{one_fetch_on}
use Rattle.sb_slots.specs.declared.mark.Mark.{Mark}
use Rattle.sb_slots.specs.declared.mark.Mark.TheVariants as mark_of
use Rattle.sb_slots.specs.Marks.{mark}
use Rattle.sb_state.specs.State.{State, thread_at, process_at}
use Rattle.sb_state.specs.PlainMemory.{plain}
use Rattle.sb_trace.specs.declared.event.Event.{Event}
use Rattle.sb_trace.specs.declared.event.Event.TheVariants.{Step as StepLine, Extra, Stray, Landing}
use Rattle.sb_trace.specs.Changes.{WritesOpen, LineChanges, StepChanges}
use Rattle.sb_trace.specs.Laws.{StepsWithMarkDrop, StepsWithMarkChange}
use Rattle.sb_trace.specs.Marks.{line_of_mark, touches_scratch, line_with_mark, map_now, HasMark, StepsWithMark, StepsOnceWithMark, StepsAlikeWithMark}
use Rattle.sb_trace.specs.OneStep.{StepsOnce, StepsAlike, without_flights}
use Rattle.sb_trace.specs.Step.{Steps}
use Rattle.sb_trace.proofs.Landings.{fetches_mapped, steps_drop}
use Rattle.sb_trace.proofs.OneOutcome.{steps_once, one_steps_once}
use Rattle.sb_trace.proofs.Steps.{steps_change}

-- ---- one line

same_insn : (one other : Insn) (answer : Result Insn BusStop) → answer ≡ Ok one → answer ≡ Ok other → one ≡ other
same_insn one other answer first second = cc

-- a line has one mark
pub one_mark : (old : State) (core : ℕ) (unmarked event other : Event) (new : State) → HasMark old core unmarked event new
    → HasMark old core unmarked other new → event ≡ other
one_mark old core (StepLine rip) event other new (insn, fetches, is) (insn', fetches', is') =
    let thread = thread_at old core in
    let fetched =
    (one_fetch_on (plain core thread.view) old thread.regs.rip tt tt tt (Ok insn) (Ok insn') fetches fetches').0 in
    let same : insn ≡ insn' = same_insn insn insn' (Ok insn) refl fetched in
    is ∙ (ap (λ (one : Insn). line_with_mark (map_now old core) one thread.regs (thread_at new core).regs.rip) same ∙ sym is')
one_mark old core _ event other new is is' = is ∙ sym is'

lines_with_mark_once : (old : State) (core : ℕ) (unmarked unmarked' event other : Event) (new another : State)
    → (unmarked ≡ unmarked') × (new ≡ another) → HasMark old core unmarked event new → HasMark old core unmarked' other another
    → (event ≡ other) × (new ≡ another)
lines_with_mark_once old core unmarked unmarked' event other new another same mark mark' =
    let line = subst (λ (one : Event). HasMark old core one other another) (sym same.0) mark' in
    let state = subst (λ (one : State). HasMark old core unmarked other one) (sym same.1) line in
    (one_mark old core unmarked event other new mark state, same.1)

-- a step with its mark has one line and leads to one state
pub steps_with_mark_once : (old : State) (core : ℕ) (event other : Event) (new another : State) → StepsWithMark old core event new
    → StepsWithMark old core other another → (event ≡ other) × (new ≡ another)
steps_with_mark_once old core event other new another (one, steps, mark) (two, steps', mark') =
    lines_with_mark_once old core one two event other new another (steps_once old core one two new another steps steps') mark mark'

-- and so has one of the machine that calls in one step
pub one_steps_with_mark_once : (old : State) (core : ℕ) (event other : Event) (new another : State)
    → StepsOnceWithMark old core event new → StepsOnceWithMark old core other another → (event ≡ other) × (new ≡ another)
one_steps_with_mark_once old core event other new another (one, steps, mark) (two, steps', mark') =
    lines_with_mark_once old core one two event other new another (one_steps_once old core one two new another steps steps') mark mark'

-- ---- what changes

mark_permits : (old : State) (core : ℕ) (one : Mark) (rip : ℕ) (new : State) → WritesOpen old core (thread_at old core).view new
    → LineChanges old core (line_of_mark one rip) new
mark_permits old core mark_of.Step rip new writes = writes
mark_permits old core mark_of.Extra rip new writes = writes
mark_permits old core mark_of.Stray rip new writes = writes

-- with its mark a line permits what it permits without
pub changes_with_mark : (old : State) (core : ℕ) (unmarked event : Event) (new : State) → StepChanges old core unmarked new
    → HasMark old core unmarked event new → StepChanges old core event new
changes_with_mark old core (StepLine rip) event new changes (insn, fetches, is) =
    let regs = (thread_at old core).regs in
    let next = (thread_at new core).regs.rip in
    let permits =
    mark_permits old core (mark (map_now old core) regs.rip next (touches_scratch insn regs)) regs.rip new changes.rest in
    record { thread = changes.thread; rest = subst (λ (one : Event). LineChanges old core one new) (sym is) permits }
changes_with_mark old core unmarked event new changes is =
    subst (λ (one : Event). StepChanges old core one new) (sym is) changes

pub steps_with_mark_change : StepsWithMarkChange
steps_with_mark_change old core event new (unmarked, steps, mark) =
    changes_with_mark old core unmarked event new (steps_change old core unmarked new steps) mark

-- ---- without flights

-- a line has the same mark without flights
mark_without : (old : State) (core : ℕ) (unmarked event : Event) (new : State) → HasMark old core unmarked event new
    → HasMark (without_flights old) core unmarked event (without_flights new)
unfolding thread_at process_at
mark_without old core (StepLine rip) event new (insn, fetches, is) = (
  insn,
  fetches_mapped old core (thread_at old core).view (thread_at old core).regs.rip (Ok insn) fetches,
  is,
)
mark_without old core unmarked event new is = is

-- a line with a mark is one of the machine that calls in one step
mark_alike : (old : State) (core : ℕ) (one : Mark) (rip : ℕ) (new : State)
    → StepsOnceWithMark (without_flights old) core (line_of_mark one rip) (without_flights new)
    → StepsAlikeWithMark old core (line_of_mark one rip) new
mark_alike old core mark_of.Step rip new once = once
mark_alike old core mark_of.Extra rip new once = once
mark_alike old core mark_of.Stray rip new once = once

-- a line that stays
stays_alike : (old : State) (core : ℕ) (event : Event) (new : State) → StepsAlike old core event new
    → HasMark (without_flights old) core event event (without_flights new)
    → StepsAlikeWithMark old core event new
stays_alike old core (Landing phase) new alike mark = alike
stays_alike old core event new alike mark = (event, alike, mark)

-- a step with its mark is one of the machine that calls in one step, or lands
pub alike_with_mark : (old : State) (core : ℕ) (unmarked event : Event) (new : State) → StepsAlike old core unmarked new
    → HasMark old core unmarked event new → StepsAlikeWithMark old core event new
alike_with_mark old core (StepLine rip) event new alike (insn, fetches, is) =
    let regs = (thread_at old core).regs in
    let next = (thread_at new core).regs.rip in
    let one = mark (map_now old core) regs.rip next (touches_scratch insn regs) in
    let without = mark_without old core (StepLine rip) (line_of_mark one regs.rip) new (insn, fetches, refl) in
    subst (λ (line : Event). StepsAlikeWithMark old core line new) (sym is)
    (mark_alike old core one regs.rip new (StepLine rip, alike, without))
alike_with_mark old core unmarked event new alike is =
    subst (λ (line : Event). StepsAlikeWithMark old core line new) (sym is) (stays_alike old core unmarked new alike refl)

pub steps_with_mark_drop : StepsWithMarkDrop
steps_with_mark_drop old core event new sound (unmarked, steps, mark) =
    alike_with_mark old core unmarked event new (steps_drop old core unmarked new sound steps) mark
