-- A system call of a thread out of flight.
use Rattle.std.proofs.Common.{◌≡◌, ◌∙◌, sym, ap, subst, ℕ, ◌<◌, ◌==◌, Bool, true, false, List, [], ◌∷◌, ◌++◌, length, refl}
use Rattle.std.specs.Prelude.{Option, Some, None, slice_get, unwrap_or}
use Rattle.std.proofs.lemmas.List.{length-set}
use Rattle.sb_abi.specs.declared.call.CallRefusal.{CallRefusal}
use Rattle.sb_insn.specs.declared.insn.Insn.{Insn}
use Rattle.sb_insn.specs.declared.registers.Regs.{Regs}
use Rattle.sb_exec.specs.Operand.{next_rip}
use Rattle.sb_calls.specs.SyscallRegisters.{after_syscall, server_fault_regs}
use Rattle.sb_root.specs.Root.{entry_of_index, list_entry}
use Rattle.sb_state.specs.declared.end_kind.EndKind.TheVariants.{Ended}
use Rattle.sb_calls.specs.declared.refusals.TheConstants.{EXECUTE_MODE}
use Rattle.sb_state.specs.declared.state.Binding.{Binding}
use Rattle.sb_state.specs.declared.state.Thread.{Thread}
use Rattle.sb_state.specs.Registers.{rax, rdi, rsi}
use Rattle.sb_state.proofs.Cases.{claim_if}
use Rattle.sb_state.proofs.Threads.{set_within}
use Rattle.sb_trace.specs.declared.event.Event.{Event}
use Rattle.sb_trace.specs.declared.event.Event.TheVariants as event
use Rattle.sb_trace.specs.State.{State, no_thread, thread_at, flight_at, process_at, with_contents, with_end, with_regs, with_view}
use Rattle.sb_trace.specs.PageWords.{with_word}
use Rattle.sb_trace.specs.Pattern.{heap_pattern}
use Rattle.sb_trace.specs.Home.{Outcome, state_at_home}
use Rattle.sb_trace.specs.Syscall.{exit_outcome, syscall_outcome}
use Rattle.sb_trace.specs.SyscallBind.{bind_outcome, new_binding, with_binding}
use Rattle.sb_calls.specs.Refusals.{protect_refusal}
use Rattle.sb_state.specs.Windows.{process_now}
use Rattle.sb_trace.specs.SyscallProtect.{heap_count, protect_outcome_by, execute_mode_outcome, with_heap_mode}
use Rattle.sb_trace.specs.SyscallRegister.{register_outcome, with_server}
use Rattle.sb_trace.specs.Step.{Steps}
use Rattle.sb_trace.proofs.Kernel.{did_syscall}
use Rattle.sb_landing.specs.Related.{IsBeside}
use Rattle.sb_shows.specs.Shows.{IsView, index_of, present_index}
use Rattle.sb_sub.specs.declared.answer.Answer.{Answer}
use Rattle.sb_sub.specs.declared.answer.Answer.TheVariants as answer
use Rattle.sb_sub.specs.Serving.{Serves, line_of}
use Rattle.sb_machine.specs.declared.processor.Core.{Core}
use Rattle.sb_machine.specs.Machine.{Machine, core_at, state_at}
use Rattle.sb_machine.specs.Outcomes.{core_after_call, home_eptp}
use Rattle.sb_machine.specs.StandsFor.{IsCoreOf, IsMachineOf}
use Rattle.sb_machine.specs.Written.{Calls}
use Rattle.sb_machine.specs.Laws.{Follows}
use Rattle.sb_machine.proofs.Afterwards.{afterwards}
use Rattle.sb_machine.proofs.Following.{follows_by}
use Rattle.sb_machine.proofs.Grounded.{core_is, index_is, eptp_now}
use Rattle.sb_machine.proofs.Present.{home_shown}
use Rattle.sb_machine.proofs.Seeing.{small, home_entry, set_view}

-- ---- the thread after a call

-- by the line: it is in its view and goes on, or has ended so, or is at home
abbrev IsThreadAfter : Thread → Event → Thread → Type 0
IsThreadAfter old (event.Exit told) new = (new.view ≡ old.view) × (new.state ≡ Ended told)
IsThreadAfter old (event.ServerExit told) new = (new.view ≡ 0) × (new.state ≡ old.state)
IsThreadAfter old _ new = (new.view ≡ old.view) × (new.state ≡ old.state)

abbrev After : State → ℕ → Outcome → Type 0
After state number outcome = IsThreadAfter (thread_at state number) outcome.0 (thread_at outcome.1 number)

-- a thread that is given registers, in a state with the same threads
regs_thread : (old new : State) (number : ℕ) (regs : Regs) → new.threads ≡ old.threads → number < length old.threads
    → thread_at (with_regs new number regs) number ≡ record (thread_at old number) { regs = regs }
unfolding thread_at with_regs
regs_thread old new number regs same small =
    let inside = subst (λ (threads : List Thread). number < length threads) (sym same) small in
    set_within new.threads number (record (thread_at new number) { regs = regs }) no_thread inside
    ∙ ap (λ (threads : List Thread). record (unwrap_or (slice_get threads number) no_thread) { regs = regs }) same

keeps_view : (old new : Thread) (regs : Regs) → new ≡ record old { regs = regs } → (new.view ≡ old.view) × (new.state ≡ old.state)
keeps_view old new regs same = (ap (λ (one : Thread). one.view) same, ap (λ (one : Thread). one.state) same)

module _ (state : State) (number : ℕ) (small : number < length state.threads) (next : Regs) where
  given : (new : State) (regs : Regs) → new.threads ≡ state.threads
      → ((thread_at (with_regs new number regs) number).view ≡ (thread_at state number).view)
      × ((thread_at (with_regs new number regs) number).state ≡ (thread_at state number).state)
  given new regs same =
      keeps_view (thread_at state number) (thread_at (with_regs new number regs) number) regs
      (regs_thread state new number regs same small)

  -- ---- exit

  ended_thread : thread_at (with_end (with_regs state number next) number (Ended (rdi next))) number
      ≡ record (thread_at state number) { regs = next; state = Ended (rdi next) }
  unfolding thread_at with_end with_regs
  ended_thread =
      let mid = with_regs state number next in
      let inside : number < length mid.threads =
      rw (length-set state.threads number (record (thread_at state number) { regs = next })) small in
      set_within mid.threads number (record (thread_at mid number) { state = Ended (rdi next) }) no_thread inside
      ∙ ap (λ (one : Thread). record one { state = Ended (rdi next) }) (regs_thread state state number next refl small)

  home_thread : thread_at (state_at_home state number) number
      ≡ record (thread_at state number) { view = 0; regs = server_fault_regs }
  unfolding thread_at with_view
  home_thread =
      set_within state.threads number (record (thread_at state number) { view = 0; regs = server_fault_regs }) no_thread small

  after_exit : After state number (exit_outcome state number next)
  after_exit =
      claim_if (After state number) ((thread_at state number).view == 0) _ _
      (λ home.
      (ap (λ (one : Thread). one.view) ended_thread, ap (λ (one : Thread). one.state) ended_thread))
      (λ away.
      (ap (λ (one : Thread). one.view) home_thread, ap (λ (one : Thread). one.state) home_thread))

  -- ---- the calls that are answered

  server_threads : (process handler stacks : ℕ) → (with_server state process handler stacks).threads ≡ state.threads
  unfolding with_server with_word with_contents
  server_threads process handler stacks = refl

  after_register : (process : ℕ) (refusal : Option CallRefusal)
      → After state number (register_outcome state number next process refusal)
  after_register process (Some refusal) = given state _ refl
  after_register process None =
      given (with_server state process (rdi next) (rsi next)) _ (server_threads process (rdi next) (rsi next))

  bound_thread : (binding : Binding) (regs : Regs)
      → thread_at (with_regs (with_binding state number (thread_at state number) binding) number regs) number
      ≡ record (thread_at state number) { bindings = (thread_at state number).bindings ++ binding ∷ []; regs = regs }
  unfolding thread_at with_binding with_regs
  bound_thread binding regs =
      let one : Thread = record (thread_at state number) { bindings = (thread_at state number).bindings ++ binding ∷ [] } in
      let mid = with_binding state number (thread_at state number) binding in
      let inside : number < length mid.threads = rw (length-set state.threads number one) small in
      set_within mid.threads number (record (thread_at mid number) { regs = regs }) no_thread inside
      ∙ ap (λ (one : Thread). record one { regs = regs }) (set_within state.threads number one no_thread small)

  after_bind : (refusal : Option CallRefusal)
      → After state number (bind_outcome state number (thread_at state number) next refusal)
  after_bind (Some refusal) = given state _ refl
  after_bind None =
      let thread = bound_thread (new_binding state (thread_at state number) (rdi next)) _ in
      (ap (λ (one : Thread). one.view) thread, ap (λ (one : Thread). one.state) thread)

  mode_threads : (process page : ℕ) (executable : Bool) → (with_heap_mode state process page executable).threads ≡ state.threads
  unfolding with_heap_mode
  mode_threads process page executable = refl

  after_execute : (process page : ℕ) (found : Option ℕ)
      → After state number (execute_mode_outcome state number next process page found)
  after_execute process page (Some address) = given state _ refl
  after_execute process page None = given (with_heap_mode state process page true) _ (mode_threads process page true)

  after_protect : (process page mode : ℕ) (refusal : Option CallRefusal)
      → After state number (protect_outcome_by state number next process page mode refusal)
  after_protect process page mode (Some refusal) = given state _ refl
  after_protect process page mode None =
      claim_if (After state number) (mode == EXECUTE_MODE) _ _
      (λ is. after_execute process page (heap_pattern state process page))
      (λ is. given (with_heap_mode state process page false) _ (mode_threads process page false))

  -- the thread after each call
  after_call : After state number (syscall_outcome state number next)
  unfolding syscall_outcome
  after_call =
      claim_if (After state number) (rax next == 0) _ _ (λ is. after_exit)
      (λ is. claim_if (After state number) (rax next == 1) _ _ (λ is. given state _ refl)
      (λ is. claim_if (After state number) (rax next == 2) _ _ (λ is. after_register _ _)
      (λ is. claim_if (After state number) (rax next == 3) _ _ (λ is. after_bind _)
      (λ is. claim_if (After state number) (rax next == 4) _ _
      (λ is. after_protect (process_now (thread_at state number)) (rdi next) (rsi next)
      (protect_refusal (heap_count (process_at state (process_now (thread_at state number)))) (rdi next) (rsi next)))
      (λ is. given state _ refl)))))

-- ---- the core

module _ (machine new : Machine) (state : State) (is : IsMachineOf machine state) (number : ℕ)
    (there : number < length machine.cores) (grounded : flight_at state number ≡ None) (insn : Insn) (line : Event)
    (calls : Calls machine number insn line new) where
  abbrev regs : Regs
  regs = (state_at machine number).regs

  abbrev next : Regs
  next = after_syscall (next_rip insn regs) regs

  abbrev outcome : Outcome
  outcome = syscall_outcome state number next

  serves : Serves new.kernel new.root new.book new.memory number calls.answer calls.regs outcome
  serves = calls.served state is.stands (sym (core_is machine state is number there grounded).view)

  line_is : line_of calls.answer ≡ outcome.0
  line_is = serves.line

  grounded_next : flight_at outcome.1 number ≡ None
  unfolding flight_at
  grounded_next = ap (λ flights. unwrap_or (slice_get flights number) None) (did_syscall state number next).flights ∙ grounded

  after : IsThreadAfter (thread_at state number) (line_of calls.answer) (thread_at outcome.1 number)
  after = subst (λ (told : Event). IsThreadAfter (thread_at state number) told (thread_at outcome.1 number)) (sym line_is)
      (after_call state number (small machine state is number there) next)

  -- the core as that of a thread after the call
  record IsAfterCall (thread : Thread) (core : Core) : Type 0 where
    cr3 : core.state.cr3 ≡ (state_at machine number).cr3
    list : core.state.list ≡ (state_at machine number).list
    shows : IsView state number thread.view
    eptp : core.state.eptp ≡ list_entry machine.root number thread.view
    regs : core.state.regs ≡ calls.regs
    own : IsCoreOf thread None core

  abbrev after_answer : Answer → Core
  after_answer told =
      core_after_call told (home_eptp machine.memory (state_at machine number)) (core_at machine number) calls.regs

  now : IsCoreOf (thread_at state number) None (core_at machine number)
  now = core_is machine state is number there grounded

  shown_still : (view : ℕ) → view ≡ (thread_at state number).view → IsView state number view
  shown_still view same =
      subst (IsView state number) (index_is machine state is number there grounded ∙ sym same)
      (is.words.present number (small machine state is number there))

  entry_still : (view : ℕ) → view ≡ (thread_at state number).view
      → (state_at machine number).eptp ≡ list_entry machine.root number view
  entry_still view same = eptp_now machine state is number there grounded ∙ ap (list_entry machine.root number) (sym same)

  by_answer : (told : Answer) (thread : Thread) → IsThreadAfter (thread_at state number) (line_of told) thread
      → IsAfterCall thread (after_answer told)
  by_answer (answer.Back number' value) thread stays = record {
    cr3 = refl;
    list = refl;
    shows = shown_still thread.view stays.0;
    eptp = entry_still thread.view stays.0;
    regs = refl;
    own = record { view = now.view ∙ sym stays.0; phase = now.phase; end = now.end ∙ sym stays.1; origin = now.origin };
  }
  by_answer (answer.Printed value) thread stays = record {
    cr3 = refl;
    list = refl;
    shows = shown_still thread.view stays.0;
    eptp = entry_still thread.view stays.0;
    regs = refl;
    own = record { view = now.view ∙ sym stays.0; phase = now.phase; end = now.end ∙ sym stays.1; origin = now.origin };
  }
  by_answer (answer.Ended status) thread stays = record {
    cr3 = refl;
    list = refl;
    shows = shown_still thread.view stays.0;
    eptp = entry_still thread.view stays.0;
    regs = refl;
    own = record { view = now.view ∙ sym stays.0; phase = now.phase; end = sym stays.1; origin = now.origin };
  }
  by_answer (answer.GoHome status) thread stays = record {
    cr3 = refl;
    list = refl;
    shows = subst (IsView state number) (sym stays.0) (home_shown state number (small machine state is number there));
    eptp = home_entry machine state is number there ∙ ap (list_entry machine.root number) (sym stays.0);
    regs = refl;
    own = record { view = sym stays.0; phase = refl; end = now.end ∙ sym stays.1; origin = now.origin };
  }

  pub call_follows : Steps state number outcome.0 outcome.1 → Follows new state number line
  call_follows steps =
      let core : Core = after_answer calls.answer in
      let thread : Thread = thread_at outcome.1 number in
      let own = by_answer calls.answer thread after in
      let index : present_index outcome.1 number ≡ thread.view =
      ap (λ found. index_of found thread.view) grounded_next in
      subst (λ (told : Event). Follows new state number told) (sym (calls.line ∙ line_is))
      (follows_by new state number outcome.0 outcome.1 is.sound steps
      (afterwards machine new state outcome.1 number outcome.0 core (is.begun number) is there steps serves.stands
      calls.lists
      (record {
        cr3 = own.cr3;
        list = own.list;
        eptp = own.eptp
            ∙ (sym (ap entry_of_index (calls.lists.views number thread.view
            (set_view machine state is number there thread.view own.shows)))
            ∙ ap (list_entry new.root number) (sym index));
        beside = subst (λ found. IsBeside outcome.1 number found (is.begun number) core.state.regs) (sym grounded_next)
            (own.regs ∙ serves.registers);
        own = subst (λ found. IsCoreOf thread found core) (sym grounded_next) own.own;
      }) calls.cores))
