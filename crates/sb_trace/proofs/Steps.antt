-- What a step does, by its cases.
use Rattle.std.proofs.Common.{◌≡◌, sym, subst, ℕ, refl, List, inl, inr}
use Rattle.std.specs.Prelude.{Option, Some, None, Result, Ok, Err, slice_get, unwrap_or}
use Rattle.sb_abi.specs.declared.trampoline.TheConstants.{VMFUNC_PHASE}
use Rattle.sb_insn.specs.declared.insn.Insn.{Insn}
use Rattle.sb_insn.specs.declared.registers.Regs.{Regs}
use Rattle.sb_bus.specs.declared.stop.BusStop.{BusStop}
use Rattle.sb_bus.specs.declared.stop.BusStop.TheVariants.{Fault as FaultStop, Missing}
use Rattle.sb_bus.specs.declared.stop.FaultKind.TheVariants as kind
use Rattle.sb_exec.specs.declared.action.Effect.{Effect}
use Rattle.sb_exec.specs.declared.action.Effect.TheVariants.{Next, Syscall, Switch, Undefined}
use Rattle.sb_exec.specs.Rows.{row_of}
use Rattle.sb_exec.specs.Fetching.{Stands, FetchesOn, fetch_of}
use Rattle.sb_exec.proofs.Stopping.{switch_ends}
use Rattle.sb_scan.specs.Pattern.{pattern}
use Rattle.sb_trace.specs.declared.event.Event.{Event}
use Rattle.sb_trace.specs.declared.event.Event.TheVariants.{Step as StepLine, Extra, Stray, Idle, Landing, Sys, Entered}
use Rattle.sb_state.specs.declared.page.Page.{Page}
use Rattle.sb_state.specs.declared.end_kind.EndKind.{EndKind}
use Rattle.sb_state.specs.declared.end_kind.EndKind.TheVariants.{Running, Ended, Faulted}
use Rattle.sb_state.specs.declared.state.Binding.{Binding}
use Rattle.sb_state.specs.declared.state.Decision.{Decision}
use Rattle.sb_state.specs.declared.state.Flight.{Flight}
use Rattle.sb_state.specs.declared.state.Thread.{Thread}
use Rattle.sb_state.specs.State.{State, contents, thread_at, no_thread, with_thread, with_regs, flight_at, with_flight}
use Rattle.sb_state.specs.PlainMemory.{plain}
use Rattle.sb_trace.specs.Home.{Outcome}
use Rattle.sb_trace.specs.KernelCall.{kernel_call}
use Rattle.sb_trace.specs.Flight.{vmfunc_outcome, vmfunc_outcome_by, called_binding, landing_step, phase_outcome, next_flight, first_flight}
use Rattle.sb_trace.specs.Step.{StopsWith, PerformsBy, FollowsFetch, RunsOn, execution_in_view, GoesOn, StepsBy}
use Rattle.sb_trace.specs.Sound.{HasView}
use Rattle.sb_trace.specs.Changes.{OnlyPages, CallChanges, LineChanges, StepChanges, WritesOpen}
use Rattle.sb_trace.specs.Laws.{StepsChange}
use Rattle.sb_state.proofs.Threads.{thread_set}
use Rattle.sb_trace.proofs.Threads.{HasThread, running_there, bindings_set, bindings_same, bindings_both, only_thread, only_flight, only_both, only_none}
use Rattle.sb_trace.proofs.Stores.{execution_written}
use Rattle.sb_trace.proofs.Vmfunc.{vmfunc_stands}
use Rattle.sb_exec.specs.Operand.{next_rip}
use Rattle.sb_calls.specs.SyscallRegisters.{after_syscall}
use Rattle.sb_trace.proofs.Kernel.{IsOwn, Did, did_fault, did_call, did_syscall}

-- ---- an instruction

-- what is said of what an instruction does, by its effect; `switch` is what VMFUNC does
pub did_next : (state : State) (core view : ℕ) (insn : Insn) (regs regs' : Regs) → view ≡ (thread_at state core).view
    → Did state core (StepLine regs.rip, with_regs (execution_in_view state core view insn regs).meaning core regs')
unfolding with_regs thread_at contents
did_next state core view insn regs regs' is =
    let written = execution_written core view (row_of insn regs) regs state in
    let mid = (execution_in_view state core view insn regs).meaning in
    let thread : Thread = record (thread_at mid core) { regs = regs' } in
    record {
      changes = λ there. record {
        thread =
            only_both state core mid (with_thread mid core thread)
            (only_none state core mid written.keeps.threads written.keeps.flights) (only_thread mid core thread refl);
        rest = subst (λ (v : ℕ). WritesOpen state core v (with_thread mid core thread)) is (record {
          closed = written.closed;
          shapes = written.keeps.shapes;
          names = written.keeps.names;
          bytes = written.keeps.bytes;
          bindings = bindings_both state mid (with_thread mid core thread) (bindings_same state mid written.keeps.threads)
              (bindings_set mid core thread refl);
          processes = written.keeps.processes;
          free = written.keeps.free;
          keys = written.keeps.keys;
        });
      };
      flights = written.keeps.flights;
      own = tt;
      view = λ given.
          let there : HasView (thread_at mid core) =
          subst (λ (list : List Thread). HasView (unwrap_or (slice_get list core) no_thread))
          (sym written.keeps.threads) given in
          thread_set HasView mid core thread there there;
    }

stops_claim : (Claim : Outcome → Type 0) (state : State) (core : ℕ) (stop : BusStop)
    → ((outcome : Outcome) → Did state core outcome → Claim outcome)
    → (outcome : Outcome) → StopsWith state core stop outcome → Claim outcome
stops_claim Claim state core (FaultStop kind address) own outcome is =
    subst Claim (sym is) (own _ (did_fault state core kind address.0))
stops_claim Claim state core (Missing frame) own outcome is = absurd is

performs_claim : (Claim : Outcome → Type 0) (switch : State → ℕ → Outcome) (state : State) (core : ℕ) (insn : Insn) (regs : Regs)
    (answer : Result Effect BusStop) (regs' : Regs) (state' : State)
    → Claim (StepLine regs.rip, with_regs state' core regs') → ((outcome : Outcome) → Did state core outcome → Claim outcome)
    → (answer ≡ Ok Switch → Claim (switch state core)) → (outcome : Outcome)
    → PerformsBy switch state core insn regs answer regs' state' outcome → Claim outcome
performs_claim Claim switch state core insn regs (Ok Next) regs' state' next own switches outcome is = subst Claim (sym is) next
performs_claim Claim switch state core insn regs (Ok Syscall) regs' state' next own switches outcome is =
    subst Claim (sym is) (own _ (did_syscall state core (after_syscall (next_rip insn regs) regs)))
performs_claim Claim switch state core insn regs (Ok Undefined) regs' state' next own switches outcome is =
    subst Claim (sym is) (own _ (did_fault state core kind.Undefined regs.rip))
performs_claim Claim switch state core insn regs (Ok Switch) regs' state' next own switches outcome is =
    subst Claim (sym is) (switches refl)
performs_claim Claim switch state core insn regs (Err stop) regs' state' next own switches outcome is =
    stops_claim Claim state core stop own outcome is

follows : (Claim : Outcome → Type 0) (switch : State → ℕ → Outcome) (state : State) (core view : ℕ) (regs : Regs)
    → ((insn : Insn) (regs' : Regs)
    → Claim (StepLine regs.rip, with_regs (execution_in_view state core view insn regs).meaning core regs'))
    → ((outcome : Outcome) → Did state core outcome → Claim outcome)
    → (Stands (fetch_of (plain core view) state) regs.rip pattern → Claim (switch state core))
    → (outcome : Outcome) (fetched : Result Insn BusStop) → FetchesOn (plain core view) state regs.rip tt tt fetched
    → FollowsFetch switch state core view regs fetched outcome → Claim outcome
follows Claim switch state core view regs next own switches outcome (Ok insn) fetches is =
    performs_claim Claim switch state core insn regs (execution_in_view state core view insn regs).answer
    (execution_in_view state core view insn regs).registers
    (execution_in_view state core view insn regs).meaning (next insn _) own
    (λ answers. switches (vmfunc_stands (fetch_of (plain core view) state) regs.rip fetches.asked insn
    (switch_ends (plain core view) insn regs state tt fetches.fetched.ends.0.0 answers) fetches.fetched)) outcome is
follows Claim switch state core view regs next own switches outcome (Err stop) fetches is =
    stops_claim Claim state core stop own outcome is

-- Each outcome of an instruction: VMFUNC's, where its bytes stand, is what is claimed of it.
pub instruction_claims : (Claim : Outcome → Type 0) (switch : State → ℕ → Outcome) (state : State) (core view : ℕ) (regs : Regs)
    → ((insn : Insn) (regs' : Regs)
    → Claim (StepLine regs.rip, with_regs (execution_in_view state core view insn regs).meaning core regs'))
    → ((outcome : Outcome) → Did state core outcome → Claim outcome)
    → (Stands (fetch_of (plain core view) state) regs.rip pattern → Claim (switch state core))
    → (outcome : Outcome) → RunsOn switch state core view regs outcome → Claim outcome
instruction_claims Claim switch state core view regs next own switches outcome runs =
    follows Claim switch state core view regs next own switches outcome runs.0 runs.1 runs.2

-- ---- landings

flight_changes : (state : State) (core phase : ℕ) (flight : Option Flight)
    → StepChanges state core (Landing phase) (with_flight state core flight)
unfolding with_flight thread_at
flight_changes state core phase flight = record {
  thread = only_flight state core flight;
  rest = (record { become = refl; bindings = λ number. refl; processes = refl; free = refl; keys = refl }, refl);
}

-- ---- a flight that changes too, in a step of the kernel

too_pages : (old : State) (pages : List Page) (new : State) (core : ℕ) (flight : Option Flight) → OnlyPages old pages new
    → OnlyPages old pages (with_flight new core flight)
unfolding with_flight thread_at
too_pages old pages new core flight only = record {
  become = only.become;
  bindings = only.bindings;
  processes = only.processes;
  free = only.free;
  keys = only.keys;
}

too_call : (old : State) (core number answer : ℕ) (new : State) (flight : Option Flight) → CallChanges old core number answer new
    → CallChanges old core number answer (with_flight new core flight)
unfolding with_flight thread_at
too_call old core number answer new flight (inl (refused, only)) = inl (refused, too_pages old old.pages new core flight only)
too_call old core number answer new flight (inr (inl (done, call, home, adds))) = inr (inl (
  done,
  call,
  home,
  record {
    found = adds.found;
    there = adds.there;
    none = adds.none;
    handler = adds.handler;
    listed = adds.listed;
    stacks = adds.stacks;
    some = adds.some;
    few = adds.few;
    room = adds.room;
    pages = adds.pages;
    processes = adds.processes;
    bindings = adds.bindings;
    free = adds.free;
    keys = adds.keys;
  },
))
too_call old core number answer new flight (inr (inr (inl (done, call, home, adds)))) = inr (inr (inl (
  done,
  call,
  home,
  record {
    there = adds.there;
    binding = adds.binding;
    index = adds.index;
    away = adds.away;
    registration = adds.registration;
    registered = adds.registered;
    key = adds.key;
    bindings = adds.bindings;
    room = adds.room;
    pages = adds.pages;
    processes = adds.processes;
    free = adds.free;
  },
)))
too_call old core number answer new flight (inr (inr (inr (done, call, changes)))) =
    inr (inr (inr (
      done,
      call,
      record {
        page = changes.page;
        there = changes.there;
        executable = changes.executable;
        harmless = changes.harmless;
        only = too_pages old _ new core flight changes.only;
      },
    )))

-- a thread's view is as it was
too_writes : (old : State) (core view : ℕ) (new : State) (flight : Option Flight) → WritesOpen old core view new
    → WritesOpen old core view (with_flight new core flight)
unfolding with_flight thread_at contents
too_writes old core view new flight writes = record {
  closed = writes.closed;
  shapes = writes.shapes;
  names = writes.names;
  bytes = writes.bytes;
  bindings = writes.bindings;
  processes = writes.processes;
  free = writes.free;
  keys = writes.keys;
}

too_line : (old : State) (core : ℕ) (event : Event) (new : State) (flight : Option Flight) → IsOwn event
    → LineChanges old core event new → LineChanges old core event (with_flight new core flight)
unfolding with_flight thread_at
too_line old core (StepLine rip) new flight own writes = too_writes old core (thread_at old core).view new flight writes
too_line old core (Extra rip) new flight own writes = too_writes old core (thread_at old core).view new flight writes
too_line old core (Stray rip) new flight own writes = too_writes old core (thread_at old core).view new flight writes
too_line old core (Entered index slot) new flight own enters = record {
  server = enters.server;
  bound = enters.bound;
  some = enters.some;
  lowest = enters.lowest;
  view = enters.view;
  only = too_pages old _ new core flight enters.only;
}
too_line old core (Sys number answer) new flight own changes = too_call old core number answer new flight changes
too_line old core (Landing phase) new flight own only = absurd own
too_line old core Idle new flight own same = absurd own
too_line old core _ new flight own only = too_pages old old.pages new core flight only

flight_too : (old : State) (core : ℕ) (event : Event) (new : State) (flight : Option Flight) → IsOwn event
    → StepChanges old core event new → StepChanges old core event (with_flight new core flight)
flight_too old core event new flight own changes = record {
  thread = only_both old core new (with_flight new core flight) changes.thread (only_flight new core flight);
  rest = too_line old core event new flight own changes.rest;
}

-- ---- a step

abbrev Changes : State → ℕ → Outcome → Type 0
Changes old core outcome = StepChanges old core outcome.0 outcome.1

into_changes : (state : State) (core : ℕ) (found : Option Binding) → HasThread state core
    → Changes state core (vmfunc_outcome_by state core found)
into_changes state core None there = (did_call state core).changes there
into_changes state core (Some binding) there = flight_changes state core VMFUNC_PHASE (Some (first_flight binding.index))

switch_changes : (state : State) (core : ℕ) → HasThread state core → Changes state core (vmfunc_outcome state core)
unfolding vmfunc_outcome
switch_changes state core there = into_changes state core (called_binding (thread_at state core)) there

landed_changes : (state : State) (core : ℕ) (flight : Flight) (decided : Option Decision) → HasThread state core
    → Changes state core (phase_outcome state core flight decided)
landed_changes state core flight None there = flight_changes state core flight.phase (next_flight flight)
landed_changes state core flight (Some decided) there =
    flight_too state core (kernel_call state core).0 (kernel_call state core).1
    (next_flight (record flight { decided = Some decided })) (did_call state core).own ((did_call state core).changes there)

flown_changes : (state : State) (core : ℕ) (flight : Flight) → HasThread state core
    → Changes state core (landing_step state core flight)
unfolding landing_step
flown_changes state core flight there = landed_changes state core _ _ there

on_changes : (state : State) (core : ℕ) (flight : Option Flight) (outcome : Outcome) → HasThread state core
    → GoesOn state core (thread_at state core) flight outcome → Changes state core outcome
on_changes state core None outcome there runs =
    instruction_claims (Changes state core) vmfunc_outcome state core (thread_at state core).view (thread_at state core).regs
    (λ insn regs'. (did_next state core (thread_at state core).view insn (thread_at state core).regs regs' refl).changes there)
    (λ one did. did.changes there) (λ stands. switch_changes state core there) outcome runs
on_changes state core (Some flight) outcome there is = subst (Changes state core) (sym is) (flown_changes state core flight there)

idle_changes : (state : State) (core : ℕ) → Changes state core (Idle, state)
idle_changes state core =
    record {
      thread = only_none state core state refl refl;
      rest = refl;
    }

by_changes : (state : State) (core : ℕ) (end : EndKind) (outcome : Outcome) → (thread_at state core).state ≡ end
    → StepsBy state core (thread_at state core) end outcome → Changes state core outcome
by_changes state core Running outcome running runs =
    on_changes state core (flight_at state core) outcome (running_there state core running) runs
by_changes state core (Ended status) outcome ended is = subst (Changes state core) (sym is) (idle_changes state core)
by_changes state core (Faulted kind address) outcome ended is = subst (Changes state core) (sym is) (idle_changes state core)

pub steps_change : StepsChange
steps_change old core event new steps = by_changes old core (thread_at old core).state (event, new) refl steps
