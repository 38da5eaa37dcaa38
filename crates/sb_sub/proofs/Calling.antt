-- System calls by their number, and what stands after them.
use Rattle.std.proofs.Common.{◌≡◌, ◌≢◌, ◌∙◌, sym, ap, subst, ℕ, ◌<◌, ◌==◌, Bool, true, false, List, length, refl, get_or-set_other}
use Rattle.std.specs.Prelude.{Option, Some, None, if◌then◌else◌, slice_get, slice_set, unwrap_or}
use Rattle.std.proofs.lemmas.Bool.{ne_eqb}
use Rattle.std.proofs.lemmas.List.{length-map, length-set}
use Rattle.sb_insn.specs.declared.registers.Regs.{Regs}
use Rattle.sb_memory.specs.Physical.{Physical}
use Rattle.sb_frames.specs.Book.{Book}
use Rattle.sb_root.specs.declared.root_kernel.RootKernel.{RootKernel}
use Rattle.sb_trace.specs.declared.event.Event.{Event}
use Rattle.sb_trace.specs.declared.event.Event.TheVariants as event
use Rattle.sb_state.specs.declared.end_kind.EndKind.{EndKind}
use Rattle.sb_state.specs.declared.end_kind.EndKind.TheVariants.{Ended as EndedWith}
use Rattle.sb_state.specs.declared.state.Thread.{Thread}
use Rattle.sb_trace.specs.State.{State, thread_at, with_regs, with_end, with_view, process_at, no_thread}
use Rattle.sb_trace.specs.Registers.{rax, rdi, rsi}
use Rattle.sb_calls.specs.SyscallRegisters.{server_fault_regs}
use Rattle.sb_trace.specs.Home.{Outcome, state_at_home}
use Rattle.sb_trace.specs.Pattern.{heap_pattern}
use Rattle.sb_trace.specs.Windows.{process_now}
use Rattle.sb_abi.specs.declared.call.CallRefusal.{CallRefusal}
use Rattle.sb_abi.specs.declared.call.CallRefusal.TheVariants.{NoCall}
use Rattle.sb_abi.specs.Numbers.{refusal_number}
use Rattle.sb_calls.specs.Refusals.{protect_refusal}
use Rattle.sb_calls.specs.SyscallRegisters.{regs_with_answer}
use Rattle.sb_trace.specs.SyscallAnswer.{state_after_call, syscall_refusal, syscall_acceptance}
use Rattle.sb_trace.specs.SyscallProtect.{heap_count, with_heap_mode, execute_mode_outcome, protect_outcome_by, protect_outcome}
use Rattle.sb_trace.specs.SyscallRegister.{refusal_of_register, register_of_thread, register_outcome, with_server}
use Rattle.sb_trace.specs.Syscall.{exit_outcome, outcome_by_number, syscall_outcome}
use Rattle.sb_state.proofs.Threads.{regs_set, set_within}
use Rattle.sb_sub.specs.Kernel.{Kernel, Seat, seat_of, shown_in, process_from}
use Rattle.sb_sub.specs.Refusals.{with_pattern, page_refusal, answer_by, number_by}
use Rattle.sb_sub.specs.Outcomes.{ProtectsBy, RegistersBy, after_protect, after_register, protect_by}
use Rattle.sb_sub.specs.StandsFor.{StandsFor}
use Rattle.sb_sub.specs.Serving.{Serves, exit_answer, exit_regs, entered, line_of}
use Rattle.sb_sub.specs.declared.answer.Answer.{Answer}
use Rattle.sb_sub.specs.declared.answer.Answer.TheVariants.{Back, Ended, GoHome}
use Rattle.sb_sub.proofs.Moves.{IsMoved, seats_set, seat_at, stands_moved}

-- ---- by number

pub called_print : (state : State) (number : ℕ) (next : Regs) → rax next ≡ 1
    → syscall_outcome state number next ≡ (event.Printed (rdi next), state_after_call state number next 0 0)
unfolding syscall_outcome
called_print state number next is = ap (λ (call : ℕ). outcome_by_number state number (thread_at state number) next call) is

pub called_protect : (state : State) (number : ℕ) (next : Regs) → rax next ≡ 4
    → syscall_outcome state number next ≡ protect_outcome state number next (process_now (thread_at state number)) (rdi next)
    (rsi next)
unfolding syscall_outcome
called_protect state number next is = ap (λ (call : ℕ). outcome_by_number state number (thread_at state number) next call) is

pub called_none : (state : State) (number : ℕ) (next : Regs) → rax next ≢ 0 → rax next ≢ 1 → rax next ≢ 2 → rax next ≢ 3
    → rax next ≢ 4
    → syscall_outcome state number next ≡ syscall_refusal state number next NoCall 0
unfolding syscall_outcome
called_none state number next zeroth first second third fourth =
    rw (ne_eqb _ _ zeroth, ne_eqb _ _ first, ne_eqb _ _ second, ne_eqb _ _ third, ne_eqb _ _ fourth) refl

-- ---- protect by its refusal

module _ (state : State) (number : ℕ) (next : Regs) (process page mode : ℕ) where
  abbrev made : (executable : Bool) → Outcome
  made executable = syscall_acceptance (with_heap_mode state process page executable) number next

  -- protect by its refusal, whether the page is to be executable, and where the pattern stands
  abbrev chosen : Option CallRefusal → Bool → Option ℕ → Outcome
  chosen (Some refusal) executable pattern = syscall_refusal state number next refusal 0
  chosen None executable pattern = if executable then execute_mode_outcome state number next process page pattern else made false

  by_cases : (refusal : Option CallRefusal) (executable : Bool) (pattern : Option ℕ) → (mode == 1) ≡ executable
      → chosen refusal executable pattern
      ≡ protect_by state number next process page mode (with_pattern refusal executable pattern)
  by_cases (Some refusal) executable pattern is = refl
  by_cases None true None is = ap made (sym is)
  by_cases None true (Some address) is = refl
  by_cases None false pattern is = ap made (sym is)

  by_any : (refusal : Option CallRefusal) → protect_outcome_by state number next process page mode refusal
      ≡ protect_by state number next process page mode (with_pattern refusal (mode == 1) (heap_pattern state process page))
  by_any (Some refusal) = refl
  by_any None = by_cases None (mode == 1) (heap_pattern state process page) refl

  pub protects_are : protect_outcome state number next process page mode
      ≡ protect_by state number next process page mode
      (page_refusal (heap_count (process_at state process)) page mode (heap_pattern state process page))
  protects_are = by_any (protect_refusal (heap_count (process_at state process)) page mode)

-- ---- the thread

pub moved_regs : (state : State) (number : ℕ) (regs : Regs) → IsMoved state (with_regs state number regs)
unfolding with_regs thread_at
moved_regs state number regs = record {
  pages = refl;
  processes = refl;
  seats = seats_set state.threads number (record (thread_at state number) { regs = regs }) refl;
  flights = refl;
  free = refl;
  keys = refl;
}

pub count_same : (kernel : Kernel) (root : RootKernel) (book : Book) (memory : Physical) (state : State)
    → StandsFor kernel root book memory state → length kernel.seats ≡ length state.threads
count_same kernel root book memory state stands = ap length (sym stands.seats) ∙ length-map state.threads seat_of

-- the process that the thread's view shows
pub shown_same : (kernel : Kernel) (root : RootKernel) (book : Book) (memory : Physical) (state : State) (thread view : ℕ)
    → StandsFor kernel root book memory state
    → (thread_at state thread).view ≡ view → shown_in kernel thread view ≡ process_now (thread_at state thread)
shown_same kernel root book memory state thread view stands is =
    ap (λ (seats : List Seat). process_from view (unwrap_or (slice_get seats thread) (seat_of no_thread))) (sym stands.seats)
    ∙ (ap (process_from view) (sym (seat_at state thread))
    ∙ ap (λ (one : ℕ). process_from one (seat_of (thread_at state thread))) (sym is))

-- ---- what is served

module _ (kernel : Kernel) (root : RootKernel) (book : Book) (memory : Physical) (state : State) (thread : ℕ) (next new : Regs)
    (answer second : ℕ)
    (stands : StandsFor kernel root book memory state) (inside : thread < length kernel.seats)
    (now : new ≡ regs_with_answer next answer second) where
  -- the thread goes on in a state that is stood for
  pub goes_on : (told : Answer) (line : Event) → line_of told ≡ line
      → Serves kernel root book memory thread told new (line, state_after_call state thread next answer second)
  goes_on told line is = record {
    line = is;
    registers =
        now ∙ sym
        (regs_set state thread (regs_with_answer next answer second)
        (subst (λ (n : ℕ). thread < n) (count_same kernel root book memory state stands) inside));
    stands = stands_moved kernel root book memory state _ (moved_regs state thread (regs_with_answer next answer second)) stands;
  }

-- number and arguments are as before SYSCALL
pub rax_entered : (old : Regs) → rax (entered old) ≡ rax old
rax_entered old =
    get_or-set_other (slice_set old.general 1 old.rip) 11 0 _ 0 (λ same. cc) ∙ get_or-set_other old.general 1 0 _ 0 (λ same. cc)

pub rsi_entered : (old : Regs) → rsi (entered old) ≡ rsi old
rsi_entered old =
    get_or-set_other (slice_set old.general 1 old.rip) 11 6 _ 0 (λ same. cc) ∙ get_or-set_other old.general 1 6 _ 0 (λ same. cc)

pub rdi_entered : (old : Regs) → rdi (entered old) ≡ rdi old
rdi_entered old =
    get_or-set_other (slice_set old.general 1 old.rip) 11 7 _ 0 (λ same. cc) ∙ get_or-set_other old.general 1 7 _ 0 (λ same. cc)

-- protect, by its refusal
protect_served_by : (refusal : Option (CallRefusal × ℕ)) (kernel : Kernel) (root : RootKernel) (book : Book) (memory : Physical)
    (state : State) (thread : ℕ) (next new : Regs) (number process page mode : ℕ)
    → StandsFor kernel root book memory (after_protect state process page mode refusal) → thread < length kernel.seats
    → rax next ≡ number → new ≡ regs_with_answer next (answer_by refusal).0 (answer_by refusal).1
    → Serves kernel root book memory thread (Back number (answer_by refusal).0) new
    (protect_by state thread next process page mode refusal)
protect_served_by None kernel root book memory state thread next new number process page mode stands inside same now =
    goes_on kernel root book memory (with_heap_mode state process page (mode == 1)) thread next new 0 0 stands inside now
    (Back number 0) _
    (ap (λ (call : ℕ). event.Sys call 0) (sym same))
protect_served_by (Some refusal) kernel root book memory state thread next new number process page mode stands inside same now =
    goes_on kernel root book memory state thread next new (refusal_number refusal.0) refusal.1 stands inside now
    (Back number (refusal_number refusal.0)) _
    (ap (λ (call : ℕ). event.Sys call (refusal_number refusal.0)) (sym same))

pub protect_served : (refusal : Option (CallRefusal × ℕ)) (kernel : Kernel) (root : RootKernel) (book : Book) (memory : Physical)
    (state : State) (thread : ℕ) (old new : Regs) (process : ℕ)
    → ProtectsBy kernel root book memory state process (rdi old) (rsi old) refusal → thread < length kernel.seats
    → process ≡ process_now (thread_at state thread)
    → rax old ≡ 4 → new ≡ regs_with_answer (entered old) (answer_by refusal).0 (answer_by refusal).1
    → Serves kernel root book memory thread (Back (rax old) (answer_by refusal).0) new
    (syscall_outcome state thread (entered old))
protect_served refusal kernel root book memory state thread old new process by inside shows number now =
    let outcome : protect_by state thread (entered old) process (rdi old) (rsi old) refusal
    ≡ syscall_outcome state thread (entered old) =
    ap (protect_by state thread (entered old) process (rdi old) (rsi old)) by.is
    ∙ (sym (protects_are state thread (entered old) process (rdi old) (rsi old))
    ∙ (ap (λ (one : ℕ). protect_outcome state thread (entered old) one (rdi old) (rsi old)) shows
    ∙ (ap (λ (one : ℕ). protect_outcome state thread (entered old) (process_now (thread_at state thread)) one (rsi old))
    (sym (rdi_entered old))
    ∙ (ap (λ (one : ℕ). protect_outcome state thread (entered old) (process_now (thread_at state thread)) (rdi (entered old)) one)
    (sym (rsi_entered old))
    ∙ sym (called_protect state thread (entered old) (rax_entered old ∙ number)))))) in
    subst (Serves kernel root book memory thread (Back (rax old) (answer_by refusal).0) new) outcome
    (protect_served_by refusal kernel root book memory state thread (entered old) new (rax old) process (rdi old)
    (rsi old) by.stands inside (rax_entered old) now)

-- ---- register

pub called_register : (state : State) (number : ℕ) (next : Regs) → rax next ≡ 2
    → syscall_outcome state number next ≡ register_of_thread state number (thread_at state number) next
unfolding syscall_outcome
called_register state number next is = ap (λ (call : ℕ). outcome_by_number state number (thread_at state number) next call) is

register_served_by : (refusal : Option CallRefusal) (kernel : Kernel) (root : RootKernel) (book : Book) (memory : Physical)
    (state : State) (thread : ℕ) (next new : Regs) (number process : ℕ)
    → StandsFor kernel root book memory (after_register state process (rdi next) (rsi next) refusal)
    → thread < length kernel.seats → rax next ≡ number → new ≡ regs_with_answer next (number_by refusal) 0
    → Serves kernel root book memory thread (Back number (number_by refusal)) new
    (register_outcome state thread next process refusal)
register_served_by None kernel root book memory state thread next new number process stands inside same now =
    goes_on kernel root book memory (with_server state process (rdi next) (rsi next)) thread next new 0 0 stands inside now
    (Back number 0) _
    (ap (λ (call : ℕ). event.Sys call 0) (sym same))
register_served_by (Some refusal) kernel root book memory state thread next new number process stands inside same now =
    goes_on kernel root book memory state thread next new (refusal_number refusal) 0 stands inside now
    (Back number (refusal_number refusal)) _
    (ap (λ (call : ℕ). event.Sys call (refusal_number refusal)) (sym same))

-- register, by its refusal
pub register_served : (refusal : Option CallRefusal) (kernel : Kernel) (root : RootKernel) (book : Book) (memory : Physical)
    (state : State) (thread : ℕ) (old new : Regs) (view process : ℕ)
    → RegistersBy kernel root book memory state view process (rdi old) (rsi old) refusal → thread < length kernel.seats
    → (thread_at state thread).view ≡ view → process ≡ process_now (thread_at state thread)
    → rax old ≡ 2 → new ≡ regs_with_answer (entered old) (number_by refusal) 0
    → Serves kernel root book memory thread (Back (rax old) (number_by refusal)) new
    (syscall_outcome state thread (entered old))
register_served refusal kernel root book memory state thread old new view process by inside is shows number now =
    let act : ℕ → ℕ → ℕ → ℕ → Outcome =
    λ view process handler stacks. register_outcome state thread (entered old) process
    (refusal_of_register state view process handler stacks) in
    let at = thread_at state thread in
    let outcome : register_outcome state thread (entered old) process refusal ≡ syscall_outcome state thread (entered old) =
    ap (register_outcome state thread (entered old) process) by.is
    ∙ (ap (λ (one : ℕ). act one process (rdi old) (rsi old)) (sym is)
    ∙ (ap (λ (one : ℕ). act at.view one (rdi old) (rsi old)) shows
    ∙ (ap (λ (one : ℕ). act at.view (process_now at) one (rsi old)) (sym (rdi_entered old))
    ∙ (ap (λ (one : ℕ). act at.view (process_now at) (rdi (entered old)) one) (sym (rsi_entered old))
    ∙ sym (called_register state thread (entered old) (rax_entered old ∙ number)))))) in
    let stands =
    subst (λ (one : ℕ). StandsFor kernel root book memory (after_register state process one (rsi (entered old)) refusal))
    (sym (rdi_entered old))
    (subst (λ (one : ℕ). StandsFor kernel root book memory (after_register state process (rdi old) one refusal))
    (sym (rsi_entered old)) by.stands) in
    subst (Serves kernel root book memory thread (Back (rax old) (number_by refusal)) new) outcome
    (register_served_by refusal kernel root book memory state thread (entered old) new (rax old) process stands inside
    (rax_entered old) now)

-- ---- exit

pub called_exit : (state : State) (number : ℕ) (next : Regs) → rax next ≡ 0
    → syscall_outcome state number next ≡ exit_outcome state number next
unfolding syscall_outcome
called_exit state number next is = ap (λ (call : ℕ). outcome_by_number state number (thread_at state number) next call) is

moved_end : (state : State) (number : ℕ) (end : EndKind) → IsMoved state (with_end state number end)
unfolding with_end thread_at
moved_end state number end = record {
  pages = refl;
  processes = refl;
  seats = seats_set state.threads number (record (thread_at state number) { state = end }) refl;
  flights = refl;
  free = refl;
  keys = refl;
}

moved_view : (state : State) (number view : ℕ) (regs : Regs) → IsMoved state (with_view state number view regs)
unfolding with_view thread_at
moved_view state number view regs = record {
  pages = refl;
  processes = refl;
  seats = seats_set state.threads number (record (thread_at state number) { view = view; regs = regs }) refl;
  flights = refl;
  free = refl;
  keys = refl;
}

view_set : (state : State) (number view : ℕ) (regs : Regs) → number < length state.threads
    → (thread_at (with_view state number view regs) number).regs ≡ regs
unfolding with_view thread_at
view_set state number view regs below =
    ap (λ (thread : Thread). thread.regs)
    (set_within state.threads number (record (thread_at state number) { view = view; regs = regs }) no_thread below)

end_set : (state : State) (number : ℕ) (end : EndKind) → number < length state.threads
    → (thread_at (with_end state number end) number).regs ≡ (thread_at state number).regs
unfolding with_end thread_at
end_set state number end below =
    ap (λ (thread : Thread). thread.regs)
    (set_within state.threads number (record (thread_at state number) { state = end }) no_thread below)

regs_count : (state : State) (number : ℕ) (regs : Regs) → length (with_regs state number regs).threads ≡ length state.threads
unfolding with_regs
regs_count state number regs = length-set state.threads number _

module _ (kernel : Kernel) (root : RootKernel) (book : Book) (memory : Physical) (state : State) (thread : ℕ) (old new : Regs)
    (stands : StandsFor kernel root book memory state) (inside : thread < length kernel.seats) where
  below : thread < length state.threads
  below = subst (λ (n : ℕ). thread < n) (count_same kernel root book memory state stands) inside

  abbrev mid : State
  mid = with_regs state thread (entered old)

  exit_by : (home : Bool) → new ≡ (if home then entered old else server_fault_regs)
      → Serves kernel root book memory thread (if home then Ended (rdi old) else GoHome (rdi old)) new
      (if home then (
        event.Exit (rdi (entered old)),
        with_end (with_regs state thread (entered old)) thread (EndedWith (rdi (entered old))),
      ) else
      (event.ServerExit (rdi (entered old)), state_at_home state thread))
  exit_by true now = record {
    line = ap event.Exit (sym (rdi_entered old));
    registers = now ∙ (sym (regs_set state thread (entered old) below)
        ∙ sym (end_set mid thread (EndedWith (rdi (entered old)))
        (subst (λ (n : ℕ). thread < n) (sym (regs_count state thread (entered old))) below)));
    stands = stands_moved kernel root book memory mid _ (moved_end mid thread (EndedWith (rdi (entered old))))
        (stands_moved kernel root book memory state mid (moved_regs state thread (entered old)) stands);
  }
  exit_by false now = record {
    line = ap event.ServerExit (sym (rdi_entered old));
    registers = now ∙ sym (view_set state thread 0 server_fault_regs below);
    stands = stands_moved kernel root book memory state _ (moved_view state thread 0 server_fault_regs) stands;
  }

  pub exit_served : (view : ℕ) → (thread_at state thread).view ≡ view → rax old ≡ 0 → new ≡ exit_regs view old
      → Serves kernel root book memory thread (exit_answer view (rdi old)) new (syscall_outcome state thread (entered old))
  exit_served view is number now =
      let outcome =
      λ (one : ℕ). if one == 0 then (
        event.Exit (rdi (entered old)),
        with_end (with_regs state thread (entered old)) thread (EndedWith (rdi (entered old))),
      ) else
      (event.ServerExit (rdi (entered old)), state_at_home state thread) in
      subst (Serves kernel root book memory thread (exit_answer view (rdi old)) new)
      (ap outcome (sym is) ∙ sym (called_exit state thread (entered old) (rax_entered old ∙ number)))
      (exit_by (view == 0) now)
