-- A run without its landing lines is a run of the machine that calls in one step.
use Rattle.std.proofs.Common.{◌≡◌, ◌∙◌, sym, ap, subst, ℕ, zero, suc, ◌+◌, ◌/◌, ◌%◌, ◌^◌, Bool, true, false, List, [], ◌∷◌, ◌==◌, refl, inl, inr, ◌⊎◌, Result, Ok, Err}
use Rattle.std.specs.Prelude.{Option, Some, None, if◌then◌else◌, map, slice_get}
use Rattle.std.specs.Option.{option_and_then}
use Rattle.sb_memory.specs.declared.address.Access.{Access}
use Rattle.sb_insn.specs.declared.insn.Insn.{Insn}
use Rattle.sb_insn.specs.declared.insn.Op.TheVariants.{Vmfunc}
use Rattle.sb_insn.specs.declared.registers.Regs.{Regs}
use Rattle.sb_bus.specs.declared.stop.BusStop.{BusStop}
use Rattle.sb_bus.specs.declared.stop.BusStop.TheVariants.{Fault as FaultStop, Missing}
use Rattle.sb_bus.specs.declared.stop.FaultKind.{FaultKind}
use Rattle.sb_bus.specs.declared.stop.FaultKind.TheVariants as kind
use Rattle.sb_exec.specs.declared.action.Effect.{Effect}
use Rattle.sb_exec.specs.declared.action.Effect.TheVariants.{Next, Syscall, Switch, Undefined}
use Rattle.sb_exec.specs.Rows.{row_of}
use Rattle.sb_exec.specs.Fetching.{FetchesOn, fetch_of}
use Rattle.sb_exec.specs.Simulation.{StoresKeep, Alike}
use Rattle.sb_exec.proofs.Simulation.{rows_alike}
use Rattle.sb_exec.proofs.Stopping.{switch_begins}
use Rattle.sb_tramp.specs.Forms.{opcode_alone}
use Rattle.sb_trace.specs.declared.event.Event.{Event}
use Rattle.sb_trace.specs.declared.event.Event.TheVariants.{Step as StepLine, Idle, Landing}
use Rattle.sb_trace.specs.declared.event.Line.{Line}
use Rattle.sb_state.specs.declared.end_kind.EndKind.{EndKind}
use Rattle.sb_state.specs.declared.end_kind.EndKind.TheVariants.{Running, Ended, Faulted}
use Rattle.sb_state.specs.declared.state.Binding.{Binding}
use Rattle.sb_state.specs.declared.state.Decision.{Decision}
use Rattle.sb_state.specs.declared.state.Flight.{Flight}
use Rattle.sb_state.specs.declared.state.Thread.{Thread}
use Rattle.sb_state.specs.State.{State, contents, with_contents, thread_at, with_regs, with_end, with_view, flight_at, with_flight, process_at, registration_at}
use Rattle.sb_state.specs.PageWords.{with_word}
use Rattle.sb_state.specs.Windows.{process_shown, process_of_view, page_for, process_now}
use Rattle.sb_state.specs.PlainMemory.{ByteToPut, bytes_to_put, with_byte_to_put, put_byte, put_all, plain, plain_byte, plain_stored}
use Rattle.sb_state.specs.Registers.{rax, rsi, rdi, eax, ecx}
use Rattle.sb_trace.specs.Home.{Outcome, fault_outcome}
use Rattle.sb_abi.specs.declared.call.CallRefusal.{CallRefusal}
use Rattle.sb_abi.specs.declared.call.CallRefusal.TheVariants.{Pattern}
use Rattle.sb_calls.specs.Refusals.{protect_refusal}
use Rattle.sb_calls.specs.SyscallRegisters.{after_syscall}
use Rattle.sb_trace.specs.SyscallAnswer.{syscall_refusal}
use Rattle.sb_trace.specs.SyscallRegister.{refusal_of_register, with_server, register_outcome}
use Rattle.sb_trace.specs.SyscallBind.{refusal_of_bind, with_binding, bind_outcome}
use Rattle.sb_trace.specs.SyscallProtect.{heap_count, with_heap_mode, execute_mode_outcome, protect_outcome_by}
use Rattle.sb_trace.specs.Syscall.{exit_outcome, outcome_by_number, syscall_outcome}
use Rattle.sb_trace.specs.KernelCall.{binding_with, pool_word, refusal_outcome, refusal_or_fault, return_outcome, entry_outcome, call_outcome, outcome_by_index, kernel_call}
use Rattle.sb_trace.specs.Flight.{flight_binding, is_key, bound_pool, decision_at_phase, phase_outcome, landing_step, called_binding, vmfunc_outcome_by, vmfunc_outcome}
use Rattle.sb_state.specs.Pattern.{heap_pattern}
use Rattle.sb_trace.specs.Run.{RunBy}
use Rattle.sb_trace.specs.Step.{StopsWith, PerformsBy, FollowsFetch, Performs, RunsOn, execution_in_view, GoesOn, StepsBy}
use Rattle.sb_trace.specs.OneStep.{StepsOnceBy, StepsOnce, StepsAlike, without_flights, with_line, without_landings, core_of}
use Rattle.sb_trace.specs.Sound.{HasView, IsFlightSound, IsSound}
use Rattle.sb_trace.specs.Laws.{LandingsDrop, StepsDrop}
use Rattle.sb_state.proofs.Cases.{none_some}
use Rattle.sb_exec.specs.Operand.{next_rip}
use Rattle.sb_trace.proofs.Kernel.{IsOwn, did_fault, did_call, did_syscall}
use Rattle.sb_trace.proofs.Phases.{decides_no_more}
use Rattle.sb_trace.proofs.Vmfunc.{vmfunc_fetched}
use Rattle.sb_trace.proofs.Trampoline.{switch_stands}
use Rattle.sb_trace.proofs.InFlight.{flight_of, StandsAtCall, IsDecidedSound, decided_of, flight_away}
use Rattle.sb_trace.proofs.Flights.{mask_after}
use Rattle.sb_trace.proofs.SoundRuns.{steps_keep_sound}
use Rattle.sb_trace.proofs.Threads.{running_by}

-- ---- the kernel does the same without flights

-- an outcome without flights
abbrev mapped : Outcome → Outcome
mapped outcome = (outcome.0, without_flights outcome.1)

mapped_if : (test : Bool) (one other one' other' : Outcome) → mapped one ≡ one' → mapped other ≡ other'
    → mapped (if test then one else other) ≡ (if test then one' else other')
mapped_if true one other one' other' first second = first
mapped_if false one other one' other' first second = second

fault_mapped : (state : State) (core : ℕ) (kind : FaultKind) (address : ℕ)
    → mapped (fault_outcome state core kind address) ≡ fault_outcome (without_flights state) core kind address
unfolding thread_at with_end with_view
fault_mapped state core kind address = mapped_if ((thread_at state core).view == 0) _ _ _ _ refl refl

refused_mapped : (state : State) (core : ℕ) (line : Event) (status : ℕ) (thread : Thread)
    → mapped (refusal_outcome state core thread line status) ≡ refusal_outcome (without_flights state) core thread line status
unfolding thread_at with_view
refused_mapped state core line status thread = refl

not_switched_mapped : (state : State) (core : ℕ) (line : Event) (status : ℕ) (thread : Thread)
    → mapped (refusal_or_fault state core thread line status) ≡ refusal_or_fault (without_flights state) core thread line status
not_switched_mapped state core line status thread =
    mapped_if (thread.view == 0) _ _ _ _ (refused_mapped state core line status thread)
    (fault_mapped state core kind.Switch thread.regs.rip)

taken_mapped : (state : State) (core : ℕ) (thread : Thread) (binding : Binding) (word : ℕ)
    → mapped (entry_outcome state core thread binding word) ≡ entry_outcome (without_flights state) core thread binding word
unfolding thread_at with_view with_word with_contents contents registration_at process_at
taken_mapped state core thread binding word = mapped_if (word == 0) _ _ _ _ refl refl

through_mapped : (state : State) (core : ℕ) (thread : Thread) (index : ℕ) (found : Option Binding)
    → mapped (call_outcome state core thread index found) ≡ call_outcome (without_flights state) core thread index found
unfolding contents
through_mapped state core thread index None = not_switched_mapped state core _ 3 thread
through_mapped state core thread index (Some binding) =
    mapped_if (rsi thread.regs == binding.key) _ _ _ _ (taken_mapped state core thread binding (pool_word state binding.server))
    (refused_mapped state core _ 1 thread)

home_mapped : (state : State) (core : ℕ) (thread : Thread)
    → mapped (return_outcome state core thread) ≡ return_outcome (without_flights state) core thread
unfolding thread_at with_view
home_mapped state core thread = refl

switched_mapped : (state : State) (core : ℕ) (thread : Thread) (leaf index : ℕ)
    → mapped (outcome_by_index state core thread leaf index) ≡ outcome_by_index (without_flights state) core thread leaf index
switched_mapped state core thread leaf index =
    mapped_if (leaf == 0) _ _ _ _
    (mapped_if (index == 0) _ _ _ _ (home_mapped state core thread)
    (through_mapped state core thread index (binding_with thread.bindings index)))
    (not_switched_mapped state core _ 5 thread)

call_mapped : (state : State) (core : ℕ) → mapped (kernel_call state core) ≡ kernel_call (without_flights state) core
unfolding kernel_call thread_at
call_mapped state core =
    switched_mapped state core (thread_at state core) (eax (thread_at state core).regs) (ecx (thread_at state core).regs)

-- ---- system calls

declined_mapped : (state : State) (core : ℕ) (next : Regs) (refusal : CallRefusal) (second : ℕ)
    → mapped (syscall_refusal state core next refusal second) ≡ syscall_refusal (without_flights state) core next refusal second
unfolding thread_at with_regs
declined_mapped state core next refusal second = refl

exit_mapped : (state : State) (core : ℕ) (next : Regs)
    → mapped (exit_outcome state core next) ≡ exit_outcome (without_flights state) core next
unfolding thread_at with_regs with_end with_view
exit_mapped state core next = mapped_if ((thread_at state core).view == 0) _ _ _ _ refl refl

registered_mapped : (state : State) (core : ℕ) (next : Regs) (process : ℕ) (refusal : Option CallRefusal)
    → mapped (register_outcome state core next process refusal)
    ≡ register_outcome (without_flights state) core next process refusal
unfolding thread_at with_regs with_server with_word with_contents contents process_at
registered_mapped state core next process (Some refusal) = declined_mapped state core next refusal 0
registered_mapped state core next process None = refl

bound_mapped : (state : State) (core : ℕ) (thread : Thread) (next : Regs) (refusal : Option CallRefusal)
    → mapped (bind_outcome state core thread next refusal) ≡ bind_outcome (without_flights state) core thread next refusal
unfolding thread_at with_regs with_binding registration_at process_at
bound_mapped state core thread next (Some refusal) = declined_mapped state core next refusal 0
bound_mapped state core thread next None = refl

executable_mapped : (state : State) (core : ℕ) (next : Regs) (process page : ℕ) (found : Option ℕ)
    → mapped (execute_mode_outcome state core next process page found)
    ≡ execute_mode_outcome (without_flights state) core next process page found
unfolding thread_at with_regs with_heap_mode
executable_mapped state core next process page (Some address) = declined_mapped state core next Pattern address
executable_mapped state core next process page None = refl

protects_by_mapped : (state : State) (core : ℕ) (next : Regs) (process page mode : ℕ) (refusal : Option CallRefusal)
    → mapped (protect_outcome_by state core next process page mode refusal)
    ≡ protect_outcome_by (without_flights state) core next process page mode refusal
unfolding thread_at with_regs with_heap_mode heap_pattern contents process_at
protects_by_mapped state core next process page mode (Some refusal) = declined_mapped state core next refusal 0
protects_by_mapped state core next process page mode None =
    mapped_if (mode == 1) _ _ _ _ (executable_mapped state core next process page (heap_pattern state process page)) refl

called_mapped : (state : State) (core : ℕ) (thread : Thread) (next : Regs) (call : ℕ)
    → mapped (outcome_by_number state core thread next call) ≡ outcome_by_number (without_flights state) core thread next call
unfolding thread_at with_regs registration_at process_at
called_mapped state core thread next call =
    mapped_if (call == 0) _ _ _ _ (exit_mapped state core next)
    (mapped_if (call == 1) _ _ _ _ refl
    (mapped_if (call == 2) _ _ _ _
    (registered_mapped state core next (process_now thread)
    (refusal_of_register state thread.view (process_now thread) (rdi next) (rsi next)))
    (mapped_if (call == 3) _ _ _ _ (bound_mapped state core thread next (refusal_of_bind state thread (rdi next)))
    (mapped_if (call == 4) _ _ _ _
    (protects_by_mapped state core next (process_now thread) (rdi next) (rsi next)
    (protect_refusal (heap_count (process_at state (process_now thread))) (rdi next) (rsi next))) refl))))

syscall_mapped : (state : State) (core : ℕ) (next : Regs)
    → mapped (syscall_outcome state core next) ≡ syscall_outcome (without_flights state) core next
unfolding syscall_outcome thread_at
syscall_mapped state core next = called_mapped state core (thread_at state core) next (rax next)

-- ---- an instruction does the same without flights

placed_mapped : (state : State) (thread view address size value : ℕ)
    → bytes_to_put (without_flights state) thread view address size value ≡ bytes_to_put state thread view address size value
unfolding bytes_to_put page_for
placed_mapped state thread view address zero value = refl
placed_mapped state thread view address (suc count) value =
    ap (with_byte_to_put (page_for state thread view (address / 4096)) address (value % 256))
    (placed_mapped state thread view ((address + 1) % 2 ^ 64) count (value / 256))

put_mapped : (state : State) (bytes : List ByteToPut)
    → put_all (without_flights state) bytes ≡ without_flights (put_all state bytes)
unfolding put_byte with_contents contents
put_mapped state [] = refl
put_mapped state (byte ∷ bytes) = put_mapped (put_byte state byte.name byte.offset byte.value) bytes

stored_mapped : (thread view : ℕ) (state : State) (address size value : ℕ)
    → plain_stored thread view (without_flights state) address size value
    ≡ without_flights (plain_stored thread view state address size value)
unfolding plain_stored
stored_mapped thread view state address size value =
    ap (put_all (without_flights state)) (placed_mapped state thread view address size value)
    ∙ put_mapped state (bytes_to_put state thread view address size value)

byte_mapped : (thread view : ℕ) (state : State) (address : ℕ) (how : Access)
    → plain_byte thread view (without_flights state) address how ≡ plain_byte thread view state address how
unfolding plain_byte page_for contents
byte_mapped thread view state address how = refl

-- one state is the other without flights
abbrev IsWithout : State → State → Type 0
IsWithout state other = other ≡ without_flights state

stores_mapped : (thread view : ℕ) → StoresKeep IsWithout (plain thread view) (plain thread view)
stores_mapped thread view = record {
  stored = λ state other same address size value _ _ _.
      ap (λ (one : State). plain_stored thread view one address size value) same
      ∙ stored_mapped thread view state address size value;
}

executed_mapped : (state : State) (core view : ℕ) (insn : Insn) (regs : Regs)
    → Alike IsWithout (execution_in_view state core view insn regs)
    (execution_in_view (without_flights state) core view insn regs)
executed_mapped state core view insn regs =
    rows_alike IsWithout (plain core view) (plain core view) (stores_mapped core view)
    (λ first second same address how _. ap (λ (one : State). plain_byte core view one address how) same
    ∙ byte_mapped core view first address how)
    (row_of insn regs) regs state (without_flights state) tt tt refl

-- an instruction is fetched alike
pub fetches_mapped : (state : State) (core view address : ℕ) (fetched : Result Insn BusStop)
    → FetchesOn (plain core view) state address tt tt fetched
    → FetchesOn (plain core view) (without_flights state) address tt tt fetched
unfolding plain_byte page_for contents
fetches_mapped state core view address fetched fetches =
    record { asked = fetches.asked; fetched = fetches.fetched; account = fetches.account }

-- ---- a step without flights

own_alike : (old : State) (core : ℕ) (event : Event) (new : State) → IsOwn event
    → StepsOnce (without_flights old) core event (without_flights new) → StepsAlike old core event new
own_alike old core (Landing phase) new own once = absurd own
own_alike old core _ new own once = once

-- what a running thread does
abbrev RunsOnce : State → ℕ → Outcome → Type 0
RunsOnce state core outcome =
    RunsOn kernel_call (without_flights state) core (thread_at state core).view (thread_at state core).regs (mapped outcome)

runs_alike : (state : State) (core : ℕ) (outcome : Outcome) → (thread_at state core).state ≡ Running → IsOwn outcome.0
    → RunsOnce state core outcome
    → StepsAlike state core outcome.0 outcome.1
unfolding thread_at
runs_alike state core outcome running own runs =
    own_alike state core outcome.0 outcome.1 own
    (subst (λ end. StepsOnceBy (without_flights state) core (thread_at state core) end (mapped outcome)) (sym running) runs)

-- ---- out of flight

-- a step that is none of a landing is done alike
abbrev DoesOnce : State → ℕ → Outcome → Type 0 → Type 0
DoesOnce state core outcome Does = (IsOwn outcome.0 × Does) ⊎ StepsAlike state core outcome.0 outcome.1

stops_alike : (state : State) (core : ℕ) (stop : BusStop) (outcome : Outcome) → StopsWith state core stop outcome
    → IsOwn outcome.0 × StopsWith (without_flights state) core stop (mapped outcome)
stops_alike state core (FaultStop kind address) outcome is = (
  subst (λ (one : Outcome). IsOwn one.0) (sym is) (did_fault state core kind address.0).own,
  ap mapped is
      ∙ fault_mapped state core kind address.0,
)
stops_alike state core (Missing frame) outcome is = absurd is

next_mapped : (state : State) (core : ℕ) (regs : Regs)
    → without_flights (with_regs state core regs) ≡ with_regs (without_flights state) core regs
unfolding with_regs thread_at
next_mapped state core regs = refl

into_alike : (state : State) (core : ℕ) (found : Option Binding) (outcome : Outcome)
    → outcome ≡ vmfunc_outcome_by state core found
    → DoesOnce state core outcome (mapped outcome ≡ kernel_call (without_flights state) core)
unfolding with_flight
into_alike state core None outcome is =
    inl (subst (λ (one : Outcome). IsOwn one.0) (sym is) (did_call state core).own, ap mapped is ∙ call_mapped state core)
into_alike state core (Some binding) outcome is = inr (subst (λ (one : Outcome). StepsAlike state core one.0 one.1) (sym is) refl)

switch_alike : (state : State) (core : ℕ) (outcome : Outcome) → outcome ≡ vmfunc_outcome state core
    → DoesOnce state core outcome (mapped outcome ≡ kernel_call (without_flights state) core)
unfolding vmfunc_outcome
switch_alike state core outcome is = into_alike state core (called_binding (thread_at state core)) outcome is

performs_alike : (state : State) (core : ℕ) (insn : Insn) (regs : Regs) (answer : Result Effect BusStop) (regs' : Regs)
    (state' : State) (outcome : Outcome)
    → PerformsBy vmfunc_outcome state core insn regs answer regs' state' outcome
    → DoesOnce state core outcome
    (PerformsBy kernel_call (without_flights state) core insn regs answer regs' (without_flights state') (mapped outcome))
performs_alike state core insn regs (Ok Next) regs' state' outcome is =
    inl (
      subst (λ (one : Outcome). IsOwn one.0) (sym is) tt,
      ap mapped is
          ∙ ap (λ (one : State). (StepLine regs.rip, one)) (next_mapped state' core regs'),
    )
performs_alike state core insn regs (Ok Syscall) regs' state' outcome is =
    inl (
      subst (λ (one : Outcome). IsOwn one.0) (sym is) (did_syscall state core (after_syscall (next_rip insn regs) regs)).own,
      ap mapped is ∙ syscall_mapped state core (after_syscall (next_rip insn regs) regs),
    )
performs_alike state core insn regs (Ok Undefined) regs' state' outcome is =
    inl (
      subst (λ (one : Outcome). IsOwn one.0) (sym is) (did_fault state core kind.Undefined regs.rip).own,
      ap mapped is
          ∙ fault_mapped state core kind.Undefined regs.rip,
    )
performs_alike state core insn regs (Ok Switch) regs' state' outcome is = switch_alike state core outcome is
performs_alike state core insn regs (Err stop) regs' state' outcome is = inl (stops_alike state core stop outcome is)

executed_alike : (state : State) (core view : ℕ) (insn : Insn) (regs : Regs) (outcome : Outcome)
    → PerformsBy kernel_call (without_flights state) core insn regs (execution_in_view state core view insn regs).answer
    (execution_in_view state core view insn regs).registers
    (without_flights (execution_in_view state core view insn regs).meaning) outcome
    → Performs kernel_call (without_flights state) core view insn regs outcome
executed_alike state core view insn regs outcome performs =
    let same = executed_mapped state core view insn regs in
    rw (same.answer, same.registers, same.related) performs

follows_alike : (state : State) (core view : ℕ) (regs : Regs) (fetched : Result Insn BusStop) (outcome : Outcome)
    → FollowsFetch vmfunc_outcome state core view regs fetched outcome
    → DoesOnce state core outcome (FollowsFetch kernel_call (without_flights state) core view regs fetched (mapped outcome))
follows_alike state core view regs (Err stop) outcome is = inl (stops_alike state core stop outcome is)
follows_alike state core view regs (Ok insn) outcome is =
    elim (performs_alike state core insn regs (execution_in_view state core view insn regs).answer
    (execution_in_view state core view insn regs).registers
    (execution_in_view state core view insn regs).meaning outcome is) [
      | inl own ↦ inl (own.0, executed_alike state core view insn regs (mapped outcome) own.1)
      | inr alike ↦ inr alike
    ]

out_alike : (state : State) (core : ℕ) (outcome : Outcome) → (thread_at state core).state ≡ Running
    → RunsOn vmfunc_outcome state core (thread_at state core).view (thread_at state core).regs outcome
    → StepsAlike state core outcome.0 outcome.1
out_alike state core outcome running (fetched, fetches, follows) =
    elim (follows_alike state core (thread_at state core).view (thread_at state core).regs fetched outcome follows) [
      | inl own ↦ runs_alike state core outcome running own.0 (
        fetched,
        fetches_mapped state core (thread_at state core).view (thread_at state core).regs.rip fetched fetches,
        own.1,
      )
      | inr alike ↦ alike
    ]

-- ---- in flight

-- a running thread's view shows a process
view_shown : (state : State) (core : ℕ) → (thread_at state core).state ≡ Running → (view : HasView (thread_at state core))
    → process_shown state.threads core (thread_at state core).view ≡ Some view.0
unfolding process_shown thread_at
view_shown state core running view =
    ap (λ found. option_and_then (process_of_view (thread_at state core).view) found)
    (running_by (slice_get state.threads core) running) ∙ view.1

-- at the VMFUNC the kernel's call is one step
switch_once : (state : State) (core index : ℕ) → IsSound state → (thread_at state core).state ≡ Running
    → StandsAtCall (thread_at state core) index
    → RunsOnce state core (kernel_call state core)
unfolding thread_at plain_byte page_for contents
switch_once state core index sound running stands =
    let view : ℕ = (thread_at state core).view in
    let regs : Regs = (thread_at state core).regs in
    let insn : Insn = opcode_alone Vmfunc in
    let bytes =
    switch_stands state core view (sound.views core).0 regs.rip sound.pages
    (view_shown state core running (sound.views core)) stands.address in
    let answers = switch_begins (plain core view) insn regs (without_flights state) tt refl in (
      Ok insn,
      record {
        asked = 3;
        fetched = vmfunc_fetched (fetch_of (plain core view) (without_flights state)) regs.rip bytes;
        account = refl;
      },
      subst
          (λ answer. PerformsBy kernel_call (without_flights state) core insn regs answer
          (execution_in_view (without_flights state) core view insn regs).registers
          (execution_in_view (without_flights state) core view insn regs).meaning (mapped (kernel_call state core)))
          (sym answers) (call_mapped state core),
    )

decided_alike : (state : State) (core : ℕ) (flight : Option Flight) → (thread_at state core).state ≡ Running
    → RunsOnce state core (kernel_call state core)
    → StepsAlike state core (kernel_call state core).0 (with_flight (kernel_call state core).1 core flight)
unfolding with_flight
decided_alike state core flight running runs =
    runs_alike state core ((kernel_call state core).0, with_flight (kernel_call state core).1 core flight) running
    (did_call state core).own runs

landed_alike : (state : State) (core index phase mask pool : ℕ) (decided : Option Decision) (fits : Bool)
    (found : Option Decision)
    → IsSound state
    → (thread_at state core).state ≡ Running → decision_at_phase phase fits pool mask ≡ found
    → IsDecidedSound (thread_at state core) (flight_of index phase mask decided) decided → (outcome : Outcome)
    → outcome ≡ phase_outcome state core (flight_of index phase (mask_after phase pool mask) decided) found
    → StepsAlike state core outcome.0 outcome.1
unfolding with_flight
landed_alike state core index phase mask pool decided fits None sound running at flight outcome is =
    subst (λ (one : Outcome). StepsAlike state core one.0 one.1) (sym is) refl
landed_alike state core index phase mask pool None fits (Some found) sound running at flight outcome is =
    subst (λ (one : Outcome). StepsAlike state core one.0 one.1) (sym is)
    (decided_alike state core _ running (switch_once state core index sound running flight.stands))
landed_alike state core index phase mask pool (Some decided) fits (Some found) sound running at flight outcome is =
    absurd
    (none_some (decision_at_phase phase fits pool mask) found (decides_no_more decided phase fits pool mask mask flight) at)

flown_alike : (state : State) (core : ℕ) (flight : Flight) → IsSound state → (thread_at state core).state ≡ Running
    → IsFlightSound (thread_at state core) (Some flight) → (outcome : Outcome) → outcome ≡ landing_step state core flight
    → StepsAlike state core outcome.0 outcome.1
unfolding landing_step
flown_alike state core flight sound running flies outcome is =
    landed_alike state core flight.index flight.phase flight.mask
    (bound_pool state (flight_binding (thread_at state core) flight)) flight.decided
    (is_key (flight_binding (thread_at state core) flight) (rsi (thread_at state core).regs)) _ sound running refl
    (decided_of (thread_at state core) flight (flight_away state core flight sound.threads flies) flies) outcome is

-- ---- a step

on_alike : (state : State) (core : ℕ) (flight : Option Flight) (outcome : Outcome) → IsSound state
    → (thread_at state core).state ≡ Running
    → flight_at state core ≡ flight → GoesOn state core (thread_at state core) flight outcome
    → StepsAlike state core outcome.0 outcome.1
on_alike state core None outcome sound running at runs = out_alike state core outcome running runs
on_alike state core (Some flight) outcome sound running at is =
    flown_alike state core flight sound running (subst (IsFlightSound (thread_at state core)) at (sound.flights core)) outcome is

idle_alike : (state : State) (core : ℕ) (outcome : Outcome)
    → StepsOnceBy (without_flights state) core (thread_at state core) (thread_at state core).state (Idle, without_flights state)
    → outcome ≡ (Idle, state) → StepsAlike state core outcome.0 outcome.1
unfolding thread_at
idle_alike state core outcome once is = subst (λ (one : Outcome). StepsAlike state core one.0 one.1) (sym is) once

by_alike : (state : State) (core : ℕ) (end : EndKind) (outcome : Outcome) → (thread_at state core).state ≡ end → IsSound state
    → StepsBy state core (thread_at state core) end outcome → StepsAlike state core outcome.0 outcome.1
by_alike state core Running outcome running sound runs =
    on_alike state core (flight_at state core) outcome sound running refl runs
by_alike state core (Ended status) outcome ended sound is =
    idle_alike state core outcome
    (subst (λ end. StepsOnceBy (without_flights state) core (thread_at state core) end (Idle, without_flights state))
    (sym ended) refl) is
by_alike state core (Faulted kind address) outcome ended sound is =
    idle_alike state core outcome
    (subst (λ end. StepsOnceBy (without_flights state) core (thread_at state core) end (Idle, without_flights state))
    (sym ended) refl) is

pub steps_drop : StepsDrop
steps_drop old core event new sound steps = by_alike old core (thread_at old core).state (event, new) refl sound steps
