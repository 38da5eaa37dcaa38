-- Each step leaves a thread in a view that it has.
use Rattle.std.proofs.Common.{sym, subst, ℕ, inl, inr, refl}
use Rattle.std.specs.Prelude.{Option, Some, None}
use Rattle.std.proofs.lemmas.Bool.{cases_eq}
use Rattle.sb_trace.specs.declared.event.Event.{Event}
use Rattle.sb_state.specs.declared.end_kind.EndKind.{EndKind}
use Rattle.sb_state.specs.declared.end_kind.EndKind.TheVariants.{Running, Ended, Faulted}
use Rattle.sb_state.specs.declared.state.Binding.{Binding}
use Rattle.sb_state.specs.declared.state.Decision.{Decision}
use Rattle.sb_state.specs.declared.state.Flight.{Flight}
use Rattle.sb_state.specs.State.{State, thread_at, flight_at, with_flight}
use Rattle.sb_trace.specs.Home.{Outcome}
use Rattle.sb_trace.specs.Flight.{vmfunc_outcome, vmfunc_outcome_by, called_binding, landing_step, phase_outcome}
use Rattle.sb_trace.specs.Step.{GoesOn, StepsBy, Steps}
use Rattle.sb_trace.specs.Sound.{HasView}
use Rattle.sb_trace.proofs.Threads.{thread_other}
use Rattle.sb_trace.proofs.Kernel.{did_call}
use Rattle.sb_trace.proofs.Steps.{instruction_claims, did_next, steps_change}

-- the thread keeps a view
abbrev KeepsView : State → ℕ → Outcome → Type 0
KeepsView state core outcome = HasView (thread_at state core) → HasView (thread_at outcome.1 core)

into_view : (state : State) (core : ℕ) (found : Option Binding) → KeepsView state core (vmfunc_outcome_by state core found)
unfolding with_flight thread_at
into_view state core None = (did_call state core).view
into_view state core (Some binding) = λ given. given

switch_view : (state : State) (core : ℕ) → KeepsView state core (vmfunc_outcome state core)
unfolding vmfunc_outcome
switch_view state core = into_view state core (called_binding (thread_at state core))

landed_view : (state : State) (core : ℕ) (flight : Flight) (decided : Option Decision)
    → KeepsView state core (phase_outcome state core flight decided)
unfolding with_flight thread_at
landed_view state core flight None = λ given. given
landed_view state core flight (Some decided) = (did_call state core).view

flown_view : (state : State) (core : ℕ) (flight : Flight) → KeepsView state core (landing_step state core flight)
unfolding landing_step
flown_view state core flight = landed_view state core _ _

on_view : (state : State) (core : ℕ) (flight : Option Flight) (outcome : Outcome)
    → GoesOn state core (thread_at state core) flight outcome → KeepsView state core outcome
on_view state core None outcome runs =
    instruction_claims (KeepsView state core) vmfunc_outcome state core (thread_at state core).view (thread_at state core).regs
    (λ insn regs'. (did_next state core (thread_at state core).view insn (thread_at state core).regs regs' refl).view)
    (λ one did. did.view) (λ stands. switch_view state core) outcome runs
on_view state core (Some flight) outcome is = subst (KeepsView state core) (sym is) (flown_view state core flight)

by_view : (state : State) (core : ℕ) (end : EndKind) (outcome : Outcome)
    → StepsBy state core (thread_at state core) end outcome → KeepsView state core outcome
by_view state core Running outcome runs = on_view state core (flight_at state core) outcome runs
by_view state core (Ended status) outcome is = subst (KeepsView state core) (sym is) (λ given. given)
by_view state core (Faulted kind address) outcome is = subst (KeepsView state core) (sym is) (λ given. given)

pub views_kept : (old : State) (core : ℕ) (event : Event) (new : State) → Steps old core event new
    → ((number : ℕ) → HasView (thread_at old number))
    → (number : ℕ) → HasView (thread_at new number)
views_kept old core event new steps views number = elim (cases_eq number core) [
  | inl same ↦ subst (λ n. HasView (thread_at new n)) (sym same)
      (by_view old core (thread_at old core).state (event, new) steps (views core))
  | inr apart ↦ subst HasView (sym (thread_other old core new number (steps_change old core event new steps).thread apart))
      (views number)
]
