-- VMFUNC of a thread out of flight.
use Rattle.std.proofs.Common.{◌≡◌, ◌∙◌, sym, ap, subst, ℕ, ◌<◌, ◌≤◌, Bool, true, false, ◌==◌, ◌&&◌, not, length, refl, arith}
use Rattle.std.specs.Prelude.{Option, Some, None, if◌then◌else◌}
use Rattle.std.specs.Option.{option_and_then}
use Rattle.std.proofs.lemmas.List.{length-set}
use Rattle.sb_abi.specs.Numbers.{status_number}
use Rattle.sb_abi.specs.declared.call.CallStatus.TheVariants as status
use Rattle.sb_abi.specs.declared.trampoline.TheConstants.{VMFUNC_PHASE}
use Rattle.sb_insn.specs.declared.insn.Insn.{Insn}
use Rattle.sb_insn.specs.declared.registers.Regs.{Regs}
use Rattle.sb_bus.specs.declared.stop.FaultKind.TheVariants as kind
use Rattle.sb_exec.specs.Operand.{next_rip}
use Rattle.sb_root.specs.declared.root_kernel.RootKernel.{RootKernel}
use Rattle.sb_root.specs.Root.{list_entry, is_listed, view_of, IsSet}
use Rattle.sb_root.specs.Switch.{switch_result}
use Rattle.sb_root.proofs.Between.{set_switched, free_switched}
use Rattle.sb_state.specs.Registers.{eax, ecx}
use Rattle.sb_state.specs.declared.state.Binding.{Binding}
use Rattle.sb_state.specs.declared.state.Thread.{Thread}
use Rattle.sb_trace.specs.declared.event.Event.{Event}
use Rattle.sb_trace.specs.declared.event.Event.TheVariants as event
use Rattle.sb_trace.specs.State.{State, thread_at, flight_at, with_view, with_flight}
use Rattle.sb_trace.specs.Home.{home_address}
use Rattle.sb_trace.specs.Home.{Outcome as PlainOutcome, fault_outcome as plain_fault}
use Rattle.sb_trace.specs.KernelCall.{binding_with, refusal_regs, refusal_or_fault, return_outcome, outcome_by_index, kernel_call}
use Rattle.sb_trace.specs.Windows.{process_shown, process_of_view}
use Rattle.sb_trace.proofs.Threads.{bound_there}
use Rattle.sb_trace.specs.Flight.{first_flight, vmfunc_outcome}
use Rattle.sb_trace.specs.Step.{Steps}
use Rattle.sb_landing.specs.AtPhase.{AtPhase}
use Rattle.sb_landing.specs.Related.{Begun, IsBeside}
use Rattle.sb_landing.proofs.Beside.{flights_begin}
use Rattle.sb_landing.proofs.Walk.{flight_placed}
use Rattle.sb_landing.proofs.Ground.{server_shown}
use Rattle.sb_shows.specs.Shows.{IsView, index_of}
use Rattle.sb_sub.proofs.Moves.{IsMoved, stands_moved}
use Rattle.sb_machine.specs.declared.processor.Core.{Core}
use Rattle.sb_machine.specs.Machine.{Machine, core_at, state_at, with_core, with_state}
use Rattle.sb_machine.specs.Outcomes.{Outcome, fault_outcome, refusal_outcome, regs_behind, home_line, home_state, homecoming, core_in_flight, departure, switch_outcome_by, switch_outcome}
use Rattle.sb_machine.specs.StandsFor.{origin_of, IsCoreOf, IsMachineOf}
use Rattle.sb_machine.specs.Laws.{Follows}
use Rattle.sb_machine.proofs.Afterwards.{afterwards}
use Rattle.sb_machine.proofs.Following.{follows_by}
use Rattle.sb_machine.proofs.Grounded.{regs_are, core_is, eptp_now}
use Rattle.sb_machine.proofs.Faulted.{FollowsOutcome, fault_follows}
use Rattle.sb_machine.proofs.Moved.{moved_follows}
use Rattle.sb_machine.proofs.Present.{thread_is, thread_sound, home_shown}
use Rattle.sb_machine.proofs.Seeing.{small, root_stands, set_view, list_is}

module _ (machine : Machine) (state : State) (is : IsMachineOf machine state) (number : ℕ)
    (there : number < length machine.cores) where
  unshown : (index : ℕ) → (index == 0) ≡ false → binding_with (thread_at state number).bindings index ≡ None
      → process_shown state.threads number index ≡ None
  unfolding process_shown
  unshown index away none =
      ap (option_and_then (process_of_view index)) (thread_is state number (small machine state is number there))
      ∙ rw (away, none) refl

  listed_by : (test : Bool) (index : ℕ) → process_shown state.threads number index ≡ None
      → is_listed (view_of machine.root number index) ≡ test → test ≡ false
  listed_by false index none at = refl
  listed_by true index none at =
      let shown = is.stands.keeps.leads.only number index
      (subst (λ (root : RootKernel). IsSet root number index) (sym is.stands.rooted) at) in
      let shows = shown.1 in
      absurd cc

  -- an index that has no binding is not set
  not_listed : (index : ℕ) → (index == 0) ≡ false → binding_with (thread_at state number).bindings index ≡ None
      → is_listed (view_of machine.root number index) ≡ false
  not_listed index away none =
      listed_by (is_listed (view_of machine.root number index)) index (unshown index away none) refl

  -- the index of a binding is at most 15
  bound_small : (index : ℕ) (binding : Binding) → binding_with (thread_at state number).bindings index ≡ Some binding
      → index ≤ 15
  bound_small index binding bound =
      let most = ((thread_sound state number is.sound (small machine state is number there)).each index binding bound).most in
      let same = (bound_there (thread_at state number).bindings index binding bound).0 in
      omega (arith, most, same)

-- a number that is tested to be 0 is 0
zero_is : (number : ℕ) → (number == 0) ≡ true → number ≡ 0
zero_is number is = grind (arith)

module _ (machine : Machine) (state : State) (is : IsMachineOf machine state) (number : ℕ) (there : number < length machine.cores)
    (grounded : flight_at state number ≡ None) (insn : Insn)
    (behind : next_rip insn (state_at machine number).regs ≡ home_address) where
  abbrev thread : Thread
  thread = thread_at state number

  abbrev regs : Regs
  regs = (state_at machine number).regs

  -- ---- a switch that is refused

  refused_home : (line : Event) (told : ℕ) → (thread.view == 0) ≡ true
      → Steps state number line (with_view state number 0 (refusal_regs thread.regs told))
      → Follows (with_state machine number (record (state_at machine number) { regs = refusal_regs regs told })) state number line
  unfolding with_view
  refused_home line told home steps =
      let own = core_is machine state is number there grounded in
      let at_home : thread.view ≡ 0 = zero_is thread.view home in
      moved_follows machine state is number there grounded (record thread { view = 0; regs = refusal_regs thread.regs told }) refl
      refl
      (record (core_at machine number) { state = record (state_at machine number) { regs = refusal_regs regs told } })
      (record {
        cr3 = refl;
        list = refl;
        eptp = eptp_now machine state is number there grounded ∙ ap (list_entry machine.root number) at_home;
        regs = ap (λ regs. refusal_regs regs told) (regs_are machine state is number there grounded);
        own = record { view = own.view ∙ at_home; phase = own.phase; end = own.end; origin = own.origin };
      }) line steps

  refused_by : (test : Bool) (line : Event) (told : ℕ) → (thread.view == 0) ≡ test
      → FollowsOutcome state number
      (if test then (line, with_view state number 0 (refusal_regs thread.regs told))
      else plain_fault state number kind.Switch thread.regs.rip)
      (if test then (line, with_state machine number (record (state_at machine number) { regs = refusal_regs regs told }))
      else fault_outcome machine number kind.Switch regs.rip)
  refused_by true line told home = refused_home line told home
  refused_by false line told away =
      subst (λ (one : Regs). FollowsOutcome state number (plain_fault state number kind.Switch thread.regs.rip)
      (fault_outcome machine number kind.Switch one.rip)) (sym (regs_are machine state is number there grounded))
      (fault_follows machine state is number there grounded kind.Switch thread.regs.rip)

  pub refusal_follows : (line : Event) (told : ℕ)
      → FollowsOutcome state number (refusal_or_fault state number thread line told) (refusal_outcome machine number line told)
  refusal_follows line told =
      subst (λ (view : ℕ). FollowsOutcome state number (refusal_or_fault state number thread line told)
      (if view == 0
      then (line, with_state machine number (record (state_at machine number) { regs = refusal_regs regs told }))
      else fault_outcome machine number kind.Switch regs.rip))
      (sym (core_is machine state is number there grounded).view) (refused_by (thread.view == 0) line told refl)

  -- ---- the way home

  behind_is : regs_behind insn regs ≡ record thread.regs { rip = home_address }
  behind_is =
      ap (λ (rip : ℕ). record regs { rip = rip }) behind
      ∙ ap (λ (one : Regs). record one { rip = home_address }) (regs_are machine state is number there grounded)

  -- the line of a way home out of flight
  return_line : (phase : Option ℕ) (view : ℕ) → phase ≡ None
      → home_line phase view ≡ (if view == 0 then event.Turn else event.Return)
  return_line phase view at = ap (λ found. home_line found view) at

  homecoming_follows : (eptp : ℕ) → eptp ≡ list_entry machine.root number 0
      → FollowsOutcome state number (return_outcome state number thread) (homecoming machine number insn eptp)
  unfolding with_view
  homecoming_follows eptp entry steps =
      let own = core_is machine state is number there grounded in
      let line : home_line (state_at machine number).phase (state_at machine number).view
      ≡ (if thread.view == 0 then event.Turn else event.Return) =
      return_line (state_at machine number).phase (state_at machine number).view own.phase
      ∙ ap (λ (view : ℕ). if view == 0 then event.Turn else event.Return) own.view in
      subst (λ (told : Event). Follows (homecoming machine number insn eptp).1 state number told) (sym line)
      (moved_follows machine state is number there grounded
      (record thread { view = 0; regs = record thread.regs { rip = home_address } }) refl refl
      (record (core_at machine number) { state = home_state eptp (state_at machine number) (regs_behind insn regs) })
      (record {
        cr3 = refl;
        list = refl;
        eptp = entry;
        regs = behind_is;
        own = record { view = refl; phase = refl; end = own.end; origin = own.origin };
      }) (if thread.view == 0 then event.Turn else event.Return) steps)

  -- ---- a flight begins

  module _ (binding : Binding) where
    abbrev next : State
    next = with_flight state number (Some (first_flight binding.index))

    moved : IsMoved state next
    unfolding with_flight
    moved = record {
      pages = refl;
      processes = refl;
      seats = refl;
      flights = length-set state.flights number (Some (first_flight binding.index));
      free = refl;
      keys = refl;
    }

    placed : flight_at next number ≡ Some (first_flight binding.index)
    placed =
        let small = small machine state is number there in
        let places = is.sound.places in
        flight_placed state number (Some (first_flight binding.index)) (omega (arith, small, places))

    thread_next : thread_at next number ≡ thread
    unfolding with_flight thread_at
    thread_next = refl

    abbrev begun : Begun
    begun = record { start = thread.regs; failed = false }

    origin_is : Some (record { regs = regs; view = (state_at machine number).view })
        ≡ origin_of (thread_at next number) (Some (first_flight binding.index))
    origin_is =
        let own = core_is machine state is number there grounded in
        ap (λ (one : Regs). Some (record { regs = one; view = (state_at machine number).view }))
        (regs_are machine state is number there grounded)
        ∙ (ap (λ (view : ℕ). Some (record { regs = thread.regs; view = view })) own.view
        ∙ ap (λ (one : Thread). Some (record { regs = one.regs; view = one.view })) (sym thread_next))

    departure_follows : (eptp : ℕ) → eptp ≡ list_entry machine.root number binding.index
        → Steps state number (event.Landing VMFUNC_PHASE) next
        → Follows (departure machine number insn binding.index eptp).1 state number (event.Landing VMFUNC_PHASE)
    unfolding thread_at
    departure_follows eptp entry steps =
        let own = core_is machine state is number there grounded in
        let words = (thread_sound state number is.sound (small machine state is number there)).words in
        let core : Core = core_in_flight (core_at machine number) insn binding.index eptp in
        follows_by (with_core machine number core) state number (event.Landing VMFUNC_PHASE) next is.sound steps
        (afterwards machine (with_core machine number core) state next number (event.Landing VMFUNC_PHASE) core begun is
        there steps
        (stands_moved machine.kernel machine.root machine.book machine.memory state next moved is.stands)
        (record { lists = λ n. refl; views = λ n index set. refl })
        (record {
          cr3 = refl;
          list = refl;
          eptp = entry
              ∙ ap (list_entry machine.root number)
              (sym (ap (λ found. index_of found (thread_at next number).view) placed));
          beside = subst (λ found. IsBeside next number found begun core.state.regs) (sym placed)
              (subst (λ (one : Regs). AtPhase next number (first_flight binding.index) thread.regs false one) (sym behind_is)
              (flights_begin state number binding.index words).phase);
          own = subst (λ found. IsCoreOf (thread_at next number) found core) (sym placed) (record {
            view = refl;
            phase = refl;
            end = own.end ∙ sym (ap (λ (one : Thread). one.state) thread_next);
            origin = origin_is;
          });
        }) refl)

  -- ---- by leaf and index

  -- VMFUNC of the core by the answer of its list
  abbrev switched : ℕ → ℕ → Outcome
  switched leaf index =
      switch_outcome_by machine number insn index (switch_result machine.memory (state_at machine number).list.0 leaf index)

  -- another leaf is refused
  other_leaf : (leaf index : ℕ) → (leaf == 0) ≡ false
      → FollowsOutcome state number (refusal_or_fault state number thread (event.BadLeaf index) (status_number status.BadLeaf))
      (switched leaf index)
  unfolding switch_result
  other_leaf leaf index other =
      rw other (refusal_follows (event.BadLeaf index) (status_number status.BadLeaf))

  -- an index that has no binding is refused
  unbound : (index : ℕ) → (index == 0) ≡ false → binding_with thread.bindings index ≡ None
      → FollowsOutcome state number (refusal_or_fault state number thread (event.Unbound index) (status_number status.Unbound))
      (switched 0 index)
  unbound index away none =
      subst (λ answer. FollowsOutcome state number
      (refusal_or_fault state number thread (event.Unbound index) (status_number status.Unbound))
      (switch_outcome_by machine number insn index answer))
      (sym (free_switched machine.root machine.memory number index (state_at machine number).list
      (root_stands machine state is number there) (list_is machine state is number there)
      (not_listed machine state is number there index away none)))
      (refusal_follows (event.Unbound index) (status_number status.Unbound))

  -- index 0 leads home
  leads_home : FollowsOutcome state number (return_outcome state number thread) (switched 0 0)
  leads_home =
      subst (λ answer. FollowsOutcome state number (return_outcome state number thread)
      (switch_outcome_by machine number insn 0 answer))
      (sym (set_switched machine.root machine.memory number 0 (state_at machine number).list
      (root_stands machine state is number there) (list_is machine state is number there)
      (set_view machine state is number there 0 (home_shown state number (small machine state is number there))) (omega arith)))
      (homecoming_follows (list_entry machine.root number 0) refl)

  -- the index of a binding leads into its server's view
  leads_away : (index : ℕ) (binding : Binding) → (index == 0) ≡ false → binding_with thread.bindings index ≡ Some binding
      → FollowsOutcome state number
      (event.Landing VMFUNC_PHASE, with_flight state number (Some (first_flight binding.index))) (switched 0 index)
  leads_away index binding away bound =
      let same : binding.index ≡ index = (bound_there thread.bindings index binding bound).0 in
      let small = bound_small machine state is number there index binding bound in
      let shows : IsView state number index = (binding.server, server_shown state number index binding away bound) in
      let answer = set_switched machine.root machine.memory number index (state_at machine number).list
      (root_stands machine state is number there) (list_is machine state is number there)
      (set_view machine state is number there index shows) (omega (arith, small)) in
      subst (λ answer. FollowsOutcome state number
      (event.Landing VMFUNC_PHASE, with_flight state number (Some (first_flight binding.index)))
      (switch_outcome_by machine number insn index answer)) (sym answer)
      (rw away (subst (λ (n : ℕ). FollowsOutcome state number
      (event.Landing VMFUNC_PHASE, with_flight state number (Some (first_flight binding.index)))
      (departure machine number insn n (list_entry machine.root number index))) same
      (departure_follows binding (list_entry machine.root number index) (ap (list_entry machine.root number) (sym same)))))

  -- ---- all of them

  -- VMFUNC of the plain machine by leaf, index and binding
  abbrev by_called : ℕ → ℕ → Option Binding → PlainOutcome
  by_called leaf index None = outcome_by_index state number thread leaf index
  by_called leaf index (Some binding) =
      (event.Landing VMFUNC_PHASE, with_flight state number (Some (first_flight binding.index)))

  abbrev plain_switched : ℕ → ℕ → PlainOutcome
  plain_switched leaf index =
      by_called leaf index (if (leaf == 0) && not (index == 0) then binding_with thread.bindings index else None)

  by_binding : (index : ℕ) (found : Option Binding) → (index == 0) ≡ false → binding_with thread.bindings index ≡ found
      → FollowsOutcome state number (by_called 0 index found) (switched 0 index)
  by_binding index None away none = rw (away, none) (unbound index away none)
  by_binding index (Some binding) away bound = leads_away index binding away bound

  by_index : (test : Bool) (index : ℕ) → (index == 0) ≡ test
      → FollowsOutcome state number (plain_switched 0 index) (switched 0 index)
  by_index true index home =
      subst (λ (n : ℕ). FollowsOutcome state number (plain_switched 0 n) (switched 0 n)) (sym (zero_is index home)) leads_home
  by_index false index away = rw away (by_binding index (binding_with thread.bindings index) away refl)

  plain_other : (leaf index : ℕ) → (leaf == 0) ≡ false
      → outcome_by_index state number thread leaf index
      ≡ refusal_or_fault state number thread (event.BadLeaf index) (status_number status.BadLeaf)
  plain_other leaf index other = rw other refl

  by_leaf : (test : Bool) (leaf index : ℕ) → (leaf == 0) ≡ test
      → FollowsOutcome state number (plain_switched leaf index) (switched leaf index)
  by_leaf true leaf index first =
      subst (λ (n : ℕ). FollowsOutcome state number (plain_switched n index) (switched n index)) (sym (zero_is leaf first))
      (by_index (index == 0) index refl)
  by_leaf false leaf index other =
      rw other (subst (λ outcome. FollowsOutcome state number outcome (switched leaf index))
      (sym (plain_other leaf index other)) (other_leaf leaf index other))

  plain_is : vmfunc_outcome state number ≡ plain_switched (eax thread.regs) (ecx thread.regs)
  unfolding vmfunc_outcome kernel_call
  plain_is = refl

  pub vmfunc_follows : FollowsOutcome state number (vmfunc_outcome state number) (switch_outcome machine number insn)
  vmfunc_follows =
      subst (λ outcome. FollowsOutcome state number outcome (switch_outcome machine number insn)) (sym plain_is)
      (subst (λ (one : Regs). FollowsOutcome state number (plain_switched (eax one) (ecx one))
      (switched (eax regs) (ecx regs))) (regs_are machine state is number there grounded)
      (by_leaf (eax regs == 0) (eax regs) (ecx regs) refl))
