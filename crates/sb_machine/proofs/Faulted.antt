-- A fault of a thread out of flight.
use Rattle.std.proofs.Common.{◌≡◌, sym, subst, ℕ, ◌<◌, Bool, true, false, ◌==◌, length, refl}
use Rattle.std.specs.Prelude.{None, if◌then◌else◌}
use Rattle.sb_bus.specs.declared.stop.FaultKind.{FaultKind}
use Rattle.sb_calls.specs.SyscallRegisters.{server_fault_regs}
use Rattle.sb_state.specs.declared.end_kind.EndKind.TheVariants.{Faulted}
use Rattle.sb_state.specs.declared.state.Thread.{Thread}
use Rattle.sb_trace.specs.declared.event.Event.TheVariants as event
use Rattle.sb_trace.specs.State.{State, thread_at, flight_at, with_view, with_end}
use Rattle.sb_trace.specs.Home.{Outcome as PlainOutcome, fault_outcome as plain_fault, state_at_home}
use Rattle.sb_trace.specs.Step.{Steps}
use Rattle.sb_machine.specs.declared.processor.Core.{Core}
use Rattle.sb_machine.specs.Machine.{Machine, core_at}
use Rattle.sb_machine.specs.Outcomes.{Outcome, home_eptp, home_state, machine_at_home, with_end as machine_with_end, fault_outcome}
use Rattle.sb_machine.specs.StandsFor.{IsMachineOf}
use Rattle.sb_machine.specs.Laws.{Follows}
use Rattle.sb_machine.proofs.Grounded.{regs_are, core_is, eptp_now}
use Rattle.sb_machine.proofs.Moved.{moved_follows}
use Rattle.sb_machine.proofs.Seeing.{home_entry}

-- the machine's outcome follows the plain machine's
abbrev pub FollowsOutcome : State → ℕ → PlainOutcome → Outcome → Type 0
FollowsOutcome state number plain outcome = Steps state number plain.0 plain.1 → Follows outcome.1 state number outcome.0

module _ (machine : Machine) (state : State) (is : IsMachineOf machine state) (number : ℕ) (there : number < length machine.cores)
    (grounded : flight_at state number ≡ None) (kind : FaultKind) (address : ℕ) where
  abbrev thread : Thread
  thread = thread_at state number

  abbrev core : Core
  core = core_at machine number

  ended : Steps state number (event.Fault kind address) (with_end state number (Faulted kind address))
      → Follows (machine_with_end machine number (Faulted kind address)) state number (event.Fault kind address)
  unfolding with_end
  ended steps =
      let own = core_is machine state is number there grounded in
      moved_follows machine state is number there grounded (record thread { state = Faulted kind address }) refl refl
      (record core { end = Faulted kind address })
      (record {
        cr3 = refl;
        list = refl;
        eptp = eptp_now machine state is number there grounded;
        regs = regs_are machine state is number there grounded;
        own = record { view = own.view; phase = own.phase; end = refl; origin = own.origin };
      }) (event.Fault kind address) steps

  sent_home : Steps state number (event.ServerFault kind address) (state_at_home state number)
      → Follows (machine_at_home machine number) state number (event.ServerFault kind address)
  unfolding with_view
  sent_home steps =
      let own = core_is machine state is number there grounded in
      moved_follows machine state is number there grounded (record thread { view = 0; regs = server_fault_regs }) refl refl
      (record core { state = home_state (home_eptp machine.memory core.state) core.state server_fault_regs })
      (record {
        cr3 = refl;
        list = refl;
        eptp = home_entry machine state is number there;
        regs = refl;
        own = record { view = refl; phase = refl; end = own.end; origin = own.origin };
      }) (event.ServerFault kind address) steps

  by_view : (test : Bool)
      → FollowsOutcome state number
      (if test then (event.Fault kind address, with_end state number (Faulted kind address))
      else (event.ServerFault kind address, state_at_home state number))
      (if test then (event.Fault kind address, machine_with_end machine number (Faulted kind address))
      else (event.ServerFault kind address, machine_at_home machine number))
  by_view true = ended
  by_view false = sent_home

  pub fault_follows : FollowsOutcome state number
      (plain_fault state number kind address) (fault_outcome machine number kind address)
  fault_follows =
      subst (λ (view : ℕ). FollowsOutcome state number (plain_fault state number kind address)
      (if view == 0 then (event.Fault kind address, machine_with_end machine number (Faulted kind address))
      else (event.ServerFault kind address, machine_at_home machine number)))
      (sym (core_is machine state is number there grounded).view) (by_view (thread.view == 0))
