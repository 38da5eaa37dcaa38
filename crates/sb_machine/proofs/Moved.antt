-- A step by which the kernel changes a thread alone: its registers, its view, or its end.
use Rattle.std.proofs.Common.{◌≡◌, ◌∙◌, sym, ap, subst, ℕ, ◌<◌, length, refl}
use Rattle.std.specs.Prelude.{None}
use Rattle.sb_root.specs.Root.{list_entry}
use Rattle.sb_state.specs.declared.state.Thread.{Thread}
use Rattle.sb_state.proofs.Threads.{thread_set_there}
use Rattle.sb_trace.specs.declared.event.Event.{Event}
use Rattle.sb_trace.specs.State.{State, thread_at, flight_at, with_thread}
use Rattle.sb_trace.specs.Step.{Steps}
use Rattle.sb_landing.specs.Related.{IsBeside}
use Rattle.sb_shows.specs.Shows.{index_of, present_index}
use Rattle.sb_sub.proofs.Moves.{IsMoved, seats_set, stands_moved}
use Rattle.sb_machine.specs.declared.processor.Core.{Core}
use Rattle.sb_machine.specs.Machine.{Machine, core_at, with_core}
use Rattle.sb_machine.specs.StandsFor.{IsCoreOf, IsMachineOf}
use Rattle.sb_machine.specs.Laws.{Follows}
use Rattle.sb_machine.proofs.Afterwards.{afterwards}
use Rattle.sb_machine.proofs.Following.{follows_by}
use Rattle.sb_machine.proofs.Present.{thread_is}
use Rattle.sb_machine.proofs.Seeing.{small}

-- a core that has what a thread out of flight has, and keeps its own words
pub record IsCoreWith (old : Core) (entry : ℕ) (thread : Thread) (core : Core) : Type 0 where
  pub cr3 : core.state.cr3 ≡ old.state.cr3
  pub list : core.state.list ≡ old.state.list
  pub eptp : core.state.eptp ≡ entry
  pub regs : core.state.regs ≡ thread.regs
  pub own : IsCoreOf thread None core

module _ (machine : Machine) (state : State) (is : IsMachineOf machine state) (number : ℕ) (there : number < length machine.cores)
    (grounded : flight_at state number ≡ None) (thread : Thread) (home : thread.home ≡ (thread_at state number).home)
    (bound : thread.bindings ≡ (thread_at state number).bindings) where
  abbrev next : State
  next = with_thread state number thread

  moved : IsMoved state next
  unfolding thread_at
  moved = record {
    pages = refl;
    processes = refl;
    seats = seats_set state.threads number thread
        (ap (λ (home : ℕ). record { home = home; bindings = thread.bindings }) home
        ∙ ap (λ bindings. record { home = (thread_at state number).home; bindings = bindings }) bound);
    flights = refl;
    free = refl;
    keys = refl;
  }

  grounded_next : flight_at next number ≡ None
  unfolding flight_at
  grounded_next = grounded

  thread_next : thread_at next number ≡ thread
  thread_next =
      thread_set_there state number (thread_at state number) thread (thread_is state number (small machine state is number there))

  index_next : present_index next number ≡ thread.view
  index_next =
      ap (λ found. index_of found (thread_at next number).view) grounded_next ∙ ap (λ (one : Thread). one.view) thread_next

  pub moved_follows : (core : Core) → IsCoreWith (core_at machine number) (list_entry machine.root number thread.view) thread core
      → (event : Event) → Steps state number event next → Follows (with_core machine number core) state number event
  moved_follows core with_it event steps =
      follows_by (with_core machine number core) state number event next is.sound steps
      (afterwards machine (with_core machine number core) state next number event core (is.begun number) is there steps
      (stands_moved machine.kernel machine.root machine.book machine.memory state next moved is.stands)
      (record { lists = λ n. refl; views = λ n index set. refl })
      (record {
        cr3 = with_it.cr3;
        list = with_it.list;
        eptp = with_it.eptp ∙ ap (list_entry machine.root number) (sym index_next);
        beside = subst (λ found. IsBeside next number found (is.begun number) core.state.regs) (sym grounded_next)
            (with_it.regs ∙ sym (ap (λ (one : Thread). one.regs) thread_next));
        own = subst (λ found. IsCoreOf (thread_at next number) found core) (sym grounded_next)
            (subst (λ one. IsCoreOf one None core) (sym thread_next) with_it.own);
      }) refl)
