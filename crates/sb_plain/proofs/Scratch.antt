-- Whether the instruction of a step accessed the scratch page, and the mark that this gives.
use Rattle.std.proofs.Common.{◌≡◌, ◌≤◌, ◌∙◌, sym, ap, subst, ℕ, Bool, refl, Result, Ok, Err}
use Rattle.std.specs.Prelude.{List, None, Option, length, slice_get}
use Rattle.std.proofs.lemmas.Option.{slice_get_past}
use Rattle.sb_insn.specs.declared.insn.Insn.{Insn}
use Rattle.sb_insn.specs.declared.registers.Regs.{Regs}
use Rattle.sb_bus.specs.declared.stop.BusStop.{BusStop}
use Rattle.sb_exec.specs.Fetching.{FetchesOn}
use Rattle.sb_exec.proofs.OneFetch.{one_fetch_on}
use Rattle.sb_slots.specs.declared.mark.Mark.{Mark}
use Rattle.sb_slots.specs.declared.mark.Mark.TheVariants as mark_of
use Rattle.sb_slots.specs.Marks.{mark}
use Rattle.sb_slots.specs.TextMap.{no_map}
use Rattle.sb_state.specs.declared.end_kind.EndKind.TheVariants.{Running}
use Rattle.sb_state.specs.PlainMemory.{plain}
use Rattle.sb_state.specs.State.{State, Process, thread_at, flight_at, process_at}
use Rattle.sb_state.specs.Windows.{process_now}
use Rattle.sb_trace.specs.declared.event.Event.{Event}
use Rattle.sb_trace.specs.declared.event.Event.TheVariants.{Step as StepLine}
use Rattle.sb_trace.specs.Marks.{HasMark, StepsWithMark, event_with_mark, line_of_mark, map_in, touches_scratch}
use Rattle.sb_trace.specs.Step.{Steps}
use Rattle.sb_trace.proofs.Instructions.{line_of_instruction}
use Rattle.sb_trace.proofs.Steps.{steps_change}
use Rattle.sb_plain.specs.RefusedCall.{IsRefusedCall}
use Rattle.sb_plain.specs.Scratch.{TellsScratch}

-- ---- what is told

same_insn : (one other : Insn) (answer : Result Insn BusStop) → answer ≡ Ok one → answer ≡ Ok other → one ≡ other
same_insn one other answer first second = cc

apart : (stop : BusStop) (insn : Insn) (answer : Result Insn BusStop) → answer ≡ Err stop → answer ≡ Ok insn → ⊥
apart stop insn answer first second = cc

-- one instruction is fetched
pub fetched : (state : State) (core view : ℕ) (regs : Regs) (insn : Insn) (scratch : Bool)
    → FetchesOn (plain core view) state regs.rip tt tt (Ok insn) → scratch ≡ touches_scratch insn regs
    → TellsScratch state core view regs scratch
fetched state core view regs insn scratch fetches is other fetches' =
    let answer = (one_fetch_on (plain core view) state regs.rip tt tt tt (Ok insn) (Ok other) fetches fetches').0 in
    is ∙ ap (λ (one : Insn). touches_scratch one regs) (same_insn insn other (Ok insn) refl answer)

-- none is
pub not_fetched : (state : State) (core view : ℕ) (regs : Regs) (stop : BusStop) (scratch : Bool)
    → FetchesOn (plain core view) state regs.rip tt tt (Err stop) → TellsScratch state core view regs scratch
not_fetched state core view regs stop scratch fetches other fetches' =
    absurd (apart stop other (Err stop) refl
    (one_fetch_on (plain core view) state regs.rip tt tt tt (Err stop) (Ok other) fetches fetches').0)

-- ---- the mark

-- a step with the line that is marked by what it told
pub has_mark : (old : State) (core : ℕ) (unmarked : Event) (scratch : Bool) (new : State) → Steps old core unmarked new
    → ((thread_at old core).state ≡ Running → flight_at old core ≡ None
    → TellsScratch old core (thread_at old core).view (thread_at old core).regs scratch)
    → HasMark old core unmarked
    (event_with_mark (map_in (process_at new (process_now (thread_at old core)))) (thread_at new core).regs.rip scratch unmarked)
    new
unfolding process_at
has_mark old core (StepLine rip) scratch new steps tells =
    let is = line_of_instruction old core rip new steps in
    let told = tells is.running is.grounded is.insn is.fetches in
    let process : ℕ = process_now (thread_at old core) in
    let next : ℕ = (thread_at new core).regs.rip in
    let processes = (steps_change old core (StepLine rip) new steps).rest.processes in (
      is.insn,
      is.fetches,
      ap (λ (list : List Process). line_of_mark (mark (map_in (slice_get list process)) rip next scratch) rip) processes
          ∙ (ap (λ (told : Bool). line_of_mark (mark (map_in (slice_get old.processes process)) rip next told) rip) told
          ∙ ap (λ (at : ℕ). line_of_mark (mark (map_in (slice_get old.processes process)) at next
          (touches_scratch is.insn (thread_at old core).regs)) at) is.at),
    )
has_mark old core unmarked scratch new steps tells = refl

mark_not_refused : (one : Mark) (rip : ℕ) → IsRefusedCall (line_of_mark one rip) → ⊥
mark_not_refused mark_of.Step rip refused = refused
mark_not_refused mark_of.Extra rip refused = refused
mark_not_refused mark_of.Stray rip refused = refused

-- the line of a refused call has no mark
pub refused_unmarked : (old : State) (core : ℕ) (unmarked event : Event) (new : State) → HasMark old core unmarked event new
    → IsRefusedCall event → IsRefusedCall unmarked
refused_unmarked old core (StepLine rip) event new (insn, fetches, is) refused =
    absurd (mark_not_refused _ _ (subst IsRefusedCall is refused))
refused_unmarked old core unmarked event new is refused = subst IsRefusedCall is refused

-- where no process is shown, the mark is that of no text
pub none_shown : (processes : List Process) (process rip next : ℕ) (scratch : Bool) (one : Mark) → length processes ≤ process
    → one ≡ mark no_map rip next scratch → one ≡ mark (map_in (slice_get processes process)) rip next scratch
none_shown processes process rip next scratch one past is =
    is
    ∙ ap (λ (found : Option Process). mark (map_in found) rip next scratch) (sym (slice_get_past processes process past))

-- ---- from a state that equals it

-- a step, of which this was told, and which got the mark that it gives in this process
pub steps_with_mark : (old same : State) (core process : ℕ) (unmarked event : Event) (scratch : Bool) (new : State) → old ≡ same
    → process ≡ process_now (thread_at old core) → Steps old core unmarked new
    → ((thread_at old core).state ≡ Running → flight_at old core ≡ None
    → TellsScratch old core (thread_at old core).view (thread_at old core).regs scratch)
    → event ≡ event_with_mark (map_in (process_at new process)) (thread_at new core).regs.rip scratch unmarked
    → StepsWithMark same core event new
steps_with_mark old same core process unmarked event scratch new is shown steps tells marked =
    let mark = has_mark old core unmarked scratch new steps tells in
    let line : event
    ≡ event_with_mark (map_in (process_at new (process_now (thread_at old core)))) (thread_at new core).regs.rip scratch unmarked =
    marked ∙ ap (λ (one : ℕ). event_with_mark (map_in (process_at new one)) (thread_at new core).regs.rip scratch unmarked) shown in
    subst (λ (state : State). StepsWithMark state core event new) is
    (unmarked, steps, subst (λ (one : Event). HasMark old core unmarked one new) (sym line) mark)
