-- A Subkernel stands for some state at its start, and after a system call in whatever view.
use Rattle.std.proofs.Common.{◌≡◌, ◌∙◌, sym, ap, subst, ℕ, ◌<◌, length, refl}
use Rattle.std.specs.Prelude.{Option, Some, slice_get, unwrap_or}
use Rattle.std.proofs.lemmas.List.{length-map, length-set}
use Rattle.sb_memory.specs.Physical.{Physical}
use Rattle.sb_frames.specs.Book.{Book}
use Rattle.sb_insn.specs.declared.registers.Regs.{Regs}
use Rattle.sb_root.specs.declared.root_kernel.RootKernel.{RootKernel}
use Rattle.sb_state.specs.declared.state.Thread.{Thread}
use Rattle.sb_trace.specs.State.{State, thread_at, with_thread, no_thread}
use Rattle.sb_trace.specs.Syscall.{syscall_outcome}
use Rattle.sb_trace.proofs.Kernel.{Did, did_syscall}
use Rattle.sb_load.specs.Loading.{Load}
use Rattle.sb_load.specs.FirstState.{first_state}
use Rattle.sb_load.proofs.FirstState.{first_threads}
use Rattle.sb_sub.specs.Kernel.{Kernel, seat_of}
use Rattle.sb_sub.specs.StandsFor.{StandsFor}
use Rattle.sb_sub.specs.Serving.{Serves, ServesBy, entered}
use Rattle.sb_sub.specs.declared.answer.Answer.{Answer}
use Rattle.sb_sub.proofs.Moves.{IsMoved, seats_set, stands_moved}
use Rattle.sb_sub.proofs.Servable.{set_here}

-- there is a seat for each thread of the state
seats_of : (kernel : Kernel) (root : RootKernel) (book : Book) (memory : Physical) (state : State)
    → StandsFor kernel root book memory state → length kernel.seats ≡ length state.threads
seats_of kernel root book memory state stands = sym (ap length stands.seats) ∙ length-map state.threads seat_of

-- at the start there is one for each core
pub seats_at_start : (kernel : Kernel) (root : RootKernel) (book : Book) (memory : Physical) (load : Load)
    → StandsFor kernel root book memory (first_state load) → length kernel.seats ≡ length load.bundle.cores
seats_at_start kernel root book memory load stands =
    seats_of kernel root book memory (first_state load) stands ∙ first_threads load

module _ (kernel : Kernel) (root : RootKernel) (book : Book) (memory : Physical)
    (some : (state : State) × StandsFor kernel root book memory state) (thread : ℕ) (there : thread < length kernel.seats)
    (view : ℕ) where
  abbrev state : State
  state = some.0

  inside : thread < length state.threads
  inside = subst (λ (n : ℕ). thread < n) (seats_of kernel root book memory state some.1) there

  -- the thread in the view
  abbrev one : Thread
  one = record (thread_at state thread) { view = view }

  abbrev in_view : State
  in_view = with_thread state thread one

  moved : IsMoved state in_view
  unfolding thread_at
  moved = record {
    pages = refl;
    processes = refl;
    seats = seats_set state.threads thread one refl;
    flights = refl;
    free = refl;
    keys = refl;
  }

  stands_in_view : StandsFor kernel root book memory in_view
  stands_in_view = stands_moved kernel root book memory state in_view moved some.1

  found : slice_get in_view.threads thread ≡ Some one
  found = set_here state.threads thread one inside

  is_one : thread_at in_view thread ≡ one
  unfolding thread_at
  is_one = ap (λ (found : Option Thread). unwrap_or found no_thread) found

  module _ (kernel' : Kernel) (root' : RootKernel) (book' : Book) (memory' : Physical) (answer : Answer) (old new : Regs)
      (served : ServesBy syscall_outcome kernel root book memory kernel' root' book' memory' thread view answer old new) where
    after : Serves kernel' root' book' memory' thread answer new (syscall_outcome in_view thread (entered old))
    after = served in_view stands_in_view (ap (λ (thread : Thread). thread.view) is_one)

    -- after the call it stands for a state
    pub stands_after : (state : State) × StandsFor kernel' root' book' memory' state
    stands_after = ((syscall_outcome in_view thread (entered old)).1, after.stands)

    did : Did in_view thread (syscall_outcome in_view thread (entered old))
    did = did_syscall in_view thread (entered old)

    -- and has as many seats
    pub seats_after : length kernel'.seats ≡ length kernel.seats
    seats_after =
        seats_of kernel' root' book' memory' (syscall_outcome in_view thread (entered old)).1 after.stands
        ∙ ((did.changes (found ∙ ap Some (sym is_one))).thread.count
        ∙ (length-set state.threads thread one ∙ sym (seats_of kernel root book memory state some.1)))
