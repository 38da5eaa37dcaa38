-- A step leaves translations as they were: each, or where a call is served each that gave an address.
use Rattle.std.proofs.Common.{◌≡◌, ◌≢◌, ◌∙◌, sym, ap, subst, ℕ, ◌<◌, length, refl, arith, Result, Ok, Err}
use Rattle.sb_abi.specs.Numbers.{call_number}
use Rattle.sb_abi.specs.declared.call.Call.TheVariants.{Register, Bind, Protect}
use Rattle.sb_memory.specs.Physical.{Physical}
use Rattle.sb_memory.specs.declared.address.Access.{Access}
use Rattle.sb_insn.specs.declared.insn.Insn.{Insn}
use Rattle.sb_insn.specs.declared.registers.Regs.{Regs}
use Rattle.sb_bus.specs.declared.stop.BusStop.{BusStop}
use Rattle.sb_bus.specs.declared.stop.FaultKind.TheVariants as kind
use Rattle.sb_exec.specs.declared.action.Effect.{Effect}
use Rattle.sb_exec.specs.declared.action.Effect.TheVariants as effect
use Rattle.sb_nested.specs.View.{place_of}
use Rattle.sb_state.specs.Registers.{rax}
use Rattle.sb_state.specs.declared.end_kind.EndKind.{EndKind}
use Rattle.sb_state.specs.declared.end_kind.EndKind.TheVariants.{Running, Ended, Faulted}
use Rattle.sb_state.specs.declared.state.Thread.{Thread}
use Rattle.sb_state.proofs.Threads.{thread_set_there}
use Rattle.sb_trace.specs.declared.event.Event.{Event}
use Rattle.sb_trace.specs.declared.event.Event.TheVariants.{Idle}
use Rattle.sb_trace.specs.State.{State, thread_at, with_thread}
use Rattle.sb_sub.specs.declared.answer.Answer.{Answer}
use Rattle.sb_sub.specs.declared.answer.Answer.TheVariants as answer
use Rattle.sb_sub.specs.Serving.{IsRefused, entered, line_of}
use Rattle.sb_sub.specs.Translations.{PlacesStay}
use Rattle.sb_sub.proofs.Calling.{rax_entered}
use Rattle.sb_sub.proofs.Moves.{IsMoved, seats_set, stands_moved}
use Rattle.sb_machine.specs.Machine.{Machine, core_at, state_at, words_of}
use Rattle.sb_machine.specs.Outcomes.{Outcome, core_after_call, core_behind, fault_outcome, home_eptp, next_outcome, regs_behind, switch_outcome, with_line}
use Rattle.sb_machine.specs.StandsFor.{IsMachineOf}
use Rattle.sb_machine.specs.Translations.{translation_through, SameTranslations, KeepsTranslations}
use Rattle.sb_machine.specs.Written.{Calls, FollowsFetch, PerformsBy, Steps, StepsBy, execution_on}
use Rattle.sb_machine.proofs.CallNumbers.{IsLineOf, tells_number}
use Rattle.sb_machine.proofs.Counting.{works_keep}
use Rattle.sb_machine.proofs.Present.{thread_is}
use Rattle.sb_machine.proofs.Seeing.{small}
use Rattle.sb_machine.proofs.Through.{AddressesThrough, SameThrough, addresses_by, executed_stays, keeps_all, keeps_on, same_by, same_left, shows, through_is}
use Rattle.sb_machine.proofs.Words.{Leaves, SameWords, answered, fault_leaves, leaves_all, line_leaves, stop_leaves, switch_leaves, words_put}

-- ---- the view by which a call is served

-- the state in which a thread has this view
abbrev as_seen : State → ℕ → ℕ → State
as_seen state number view = with_thread state number (record (thread_at state number) { view = view })

moved_view : (state : State) (number view : ℕ) → IsMoved state (as_seen state number view)
unfolding thread_at
moved_view state number view = record {
  pages = refl;
  processes = refl;
  seats = seats_set state.threads number (record (thread_at state number) { view = view }) refl;
  flights = refl;
  free = refl;
  keys = refl;
}

view_seen : (state : State) (number view : ℕ) → number < length state.threads
    → (thread_at (as_seen state number view) number).view ≡ view
view_seen state number view small =
    ap (λ (thread : Thread). thread.view)
    (thread_set_there state number (thread_at state number) (record (thread_at state number) { view = view })
    (thread_is state number small))

module _ (machine : Machine) (state : State) (is : IsMachineOf machine state) (number : ℕ)
    (there : number < length machine.cores) where
  -- ---- a call

  module _ (new : Machine) (words : SameWords machine new) where
    unchanged : new.memory ≡ machine.memory → SameTranslations machine new
    unchanged memory = same_left machine new (record { words = words; memory = memory })

    placed : PlacesStay machine.kernel machine.root machine.book machine.memory new.memory → AddressesThrough machine new.memory
    unfolding place_of
    placed stay core index linear access place pointer leads =
        stay state (words_of machine) is.stands is.words core index (shows machine state is core index pointer) access linear
        place leads

    -- by the answer of the call of a number
    by_answer : (told : Answer) (call : ℕ) → IsLineOf call (line_of told)
        → (IsRefused told → new.memory ≡ machine.memory)
        → (call ≢ call_number Protect → call ≢ call_number Register → call ≢ call_number Bind → new.memory ≡ machine.memory)
        → (call ≢ call_number Protect → PlacesStay machine.kernel machine.root machine.book machine.memory new.memory)
        → KeepsTranslations (line_of told) machine new
    by_answer (answer.Back number' value) call line refused quiet places = record {
      refused = λ bad. unchanged (refused bad);
      served = λ other. addresses_by machine new words (placed (places (λ same. other (line ∙ same))));
    }
    by_answer (answer.Printed value) call line refused quiet places =
        unchanged (quiet (omega (arith, line)) (omega (arith, line)) (omega (arith, line)))
    by_answer (answer.Ended status) call line refused quiet places =
        unchanged (quiet (omega (arith, line)) (omega (arith, line)) (omega (arith, line)))
    by_answer (answer.GoHome status) call line refused quiet places =
        unchanged (quiet (omega (arith, line)) (omega (arith, line)) (omega (arith, line)))

  call_keeps : (insn : Insn) (event : Event) (new : Machine) → Calls machine number insn event new
      → KeepsTranslations event machine new
  call_keeps insn event new calls =
      let regs = regs_behind insn (state_at machine number).regs in
      let seen = as_seen state number (state_at machine number).view in
      let serves = calls.served seen
      (stands_moved machine.kernel machine.root machine.book machine.memory state seen
      (moved_view state number (state_at machine number).view) is.stands)
      (view_seen state number (state_at machine number).view (small machine state is number there)) in
      let told : IsLineOf (rax (entered regs)) (line_of calls.answer) =
      subst (IsLineOf (rax (entered regs))) (sym serves.line) (tells_number seen number (entered regs)) in
      let home = home_eptp machine.memory (state_at machine number) in
      let words = words_put machine number there new (core_after_call calls.answer home (core_at machine number) calls.regs)
      (answered machine number there calls.answer home calls.regs) calls.cores in
      subst (λ (line : Event). KeepsTranslations line machine new) (sym calls.line)
      (by_answer new words calls.answer (rax regs)
      (subst (λ (call : ℕ). IsLineOf call (line_of calls.answer)) (rax_entered regs) told)
      (λ bad. (calls.refused bad).3) calls.quiet calls.places)

  -- ---- each

  abbrev KeepsBy : Outcome → Type 0
  KeepsBy outcome = KeepsTranslations outcome.0 machine outcome.1

  left : (outcome : Outcome) → Leaves machine outcome.1 → KeepsBy outcome
  left outcome leaves = keeps_all outcome.0 machine outcome.1 (same_left machine outcome.1 leaves)

  performs_keep : (insn : Insn) (answer : Result Effect BusStop) (regs : Regs) (memory : Physical) → SameThrough machine memory
      → (outcome : Outcome) → PerformsBy machine number insn answer regs memory outcome → KeepsBy outcome
  performs_keep insn (Ok effect.Next) regs memory stays outcome is_it =
      let next = next_outcome machine number regs memory in
      let words = words_put machine number there next.1 (core_behind (core_at machine number) regs)
      (record { list = refl; cr3 = refl }) refl in
      subst KeepsBy (sym is_it) (keeps_all next.0 machine next.1 (same_by machine next.1 words stays))
  performs_keep insn (Ok effect.Syscall) regs memory stays outcome calls = call_keeps insn outcome.0 outcome.1 calls
  performs_keep insn (Ok effect.Switch) regs memory stays outcome is_it =
      subst KeepsBy (sym is_it) (left (switch_outcome machine number insn) (switch_leaves machine number there insn))
  performs_keep insn (Ok effect.Undefined) regs memory stays outcome is_it =
      subst KeepsBy (sym is_it) (left (fault_outcome machine number kind.Undefined (state_at machine number).regs.rip)
      (fault_leaves machine number there kind.Undefined (state_at machine number).regs.rip))
  performs_keep insn (Err stop) regs memory stays outcome is_it =
      left outcome (stop_leaves machine number there stop outcome is_it)

  fetch_keeps : (fetched : Result Insn BusStop) (outcome : Outcome) → FollowsFetch machine number fetched outcome
      → KeepsBy outcome
  fetch_keeps (Ok insn) outcome performs =
      performs_keep insn (execution_on machine number insn).answer _ _
      (executed_stays machine state is number there insn) outcome performs
  fetch_keeps (Err stop) outcome is_it = left outcome (stop_leaves machine number there stop outcome is_it)

  steps_keep : (end : EndKind) (outcome : Outcome) → StepsBy machine number end outcome → KeepsBy outcome
  steps_keep Running outcome runs = fetch_keeps runs.0 outcome runs.2
  steps_keep (Ended status) outcome is_it = subst KeepsBy (sym is_it) (left (Idle, machine) (leaves_all machine))
  steps_keep (Faulted kind address) outcome is_it = subst KeepsBy (sym is_it) (left (Idle, machine) (leaves_all machine))

-- counting a line leaves each translation
line_same : (machine : Machine) (number : ℕ) → number < length machine.cores → (core index linear : ℕ) (access : Access)
    → translation_through (with_line machine number) core index linear access
    ≡ translation_through machine core index linear access
line_same machine number there core index linear access =
    through_is machine (with_line machine number) (line_leaves machine number there).words core index linear access

-- each step of a machine that stands for a state leaves translations so
abbrev pub StepsKeepTranslations : Type 0
StepsKeepTranslations =
    (old : Machine) (number : ℕ) (event : Event) (new : Machine) (state : State) → number < length old.cores
    → IsMachineOf old state → Steps old number event new → KeepsTranslations event old new

pub steps_keep_translations : StepsKeepTranslations
steps_keep_translations old number event new state there is steps =
    let worked = steps.0 in
    let kept = steps_keep old state is number there (core_at old number).end (event, worked) steps.1 in
    let there' : number < length worked.cores =
    subst (λ (count : ℕ). number < count) (sym (works_keep old number event worked steps.1).cores) there in
    subst (KeepsTranslations event old) (sym steps.2)
    (keeps_on event old worked (with_line worked number) (line_same worked number there') kept)
