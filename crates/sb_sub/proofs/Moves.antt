-- A state whose threads differ only in registers, views and ends, and in flights, is stood for as well.
use Rattle.std.proofs.Common.{◌≡◌, ◌∙◌, sym, ap, subst, ℕ, zero, suc, ◌≤◌, List, [], ◌∷◌, length, refl}
use Rattle.std.specs.Prelude.{Option, Some, None, map, slice_get, slice_set, unwrap_or}
use Rattle.std.specs.Option.{option_map, option_and_then}
use Rattle.std.proofs.lemmas.Option.{slice_get-map}
use Rattle.std.proofs.lemmas.List.{length-map}
use Rattle.sb_memory.specs.Physical.{Physical}
use Rattle.sb_frames.specs.Book.{Book}
use Rattle.sb_root.specs.declared.root_kernel.RootKernel.{RootKernel}
use Rattle.sb_state.specs.declared.state.Thread.{Thread}
use Rattle.sb_trace.specs.State.{State, Process, find_page, process_at, thread_at, no_thread}
use Rattle.sb_trace.specs.Windows.{process_shown, process_of_view}
use Rattle.sb_trace.specs.SyscallProtect.{heap_count}
use Rattle.sb_trace.specs.Changes.{page_name}
use Rattle.sb_trace.proofs.TablePages.{one_table}
use Rattle.sb_shows.specs.Threads.{SameSight}
use Rattle.sb_shows.proofs.Threads.{keeps_moved}
use Rattle.sb_sub.specs.Kernel.{Kernel, Seat, seat_of, shown_from}
use Rattle.sb_sub.specs.StandsFor.{IsServable, StandsFor}

-- ---- what seats say of threads

shown_of : (view : ℕ) (found : Option Thread)
    → option_and_then (process_of_view view) found ≡ option_and_then (shown_from view) (option_map seat_of found)
shown_of view None = refl
shown_of view (Some thread) = refl

pub shown_seats : (threads : List Thread) (thread view : ℕ)
    → process_shown threads thread view ≡ option_and_then (shown_from view) (slice_get (map seat_of threads) thread)
unfolding process_shown
shown_seats threads thread view =
    shown_of view (slice_get threads thread) ∙ ap (option_and_then (shown_from view)) (sym (slice_get-map seat_of threads thread))

seat_or : (found : Option Thread) → seat_of (unwrap_or found no_thread) ≡ unwrap_or (option_map seat_of found) (seat_of no_thread)
seat_or None = refl
seat_or (Some thread) = refl

pub seat_at : (state : State) (thread : ℕ)
    → seat_of (thread_at state thread) ≡ unwrap_or (slice_get (map seat_of state.threads) thread) (seat_of no_thread)
unfolding thread_at
seat_at state thread =
    seat_or (slice_get state.threads thread)
    ∙ ap (λ (found : Option Seat). unwrap_or found (seat_of no_thread)) (sym (slice_get-map seat_of state.threads thread))

pub seats_set : (threads : List Thread) (number : ℕ) (thread : Thread)
    → seat_of thread ≡ seat_of (unwrap_or (slice_get threads number) no_thread)
    → map seat_of (slice_set threads number thread) ≡ map seat_of threads
seats_set [] number thread same = refl
seats_set (first ∷ threads) zero thread same = ap (λ (seat : Seat). seat ∷ map seat_of threads) same
seats_set (first ∷ threads) (suc number) thread same =
    ap (λ (seats : List Seat). seat_of first ∷ seats) (seats_set threads number thread same)

-- ---- states

-- only registers, present views, ends and flights of threads differ
pub record IsMoved (old new : State) : Type 0 where
  pub pages : new.pages ≡ old.pages
  pub processes : new.processes ≡ old.processes
  pub seats : map seat_of new.threads ≡ map seat_of old.threads
  pub flights : length new.flights ≡ length old.flights
  pub free : new.free ≡ old.free
  pub keys : new.keys ≡ old.keys

module _ (old new : State) (moved : IsMoved old new) where
  shown_moved : (thread view : ℕ) → process_shown new.threads thread view ≡ process_shown old.threads thread view
  shown_moved thread view =
      shown_seats new.threads thread view
      ∙ (ap (λ (seats : List Seat). option_and_then (shown_from view) (slice_get seats thread)) moved.seats
      ∙ sym (shown_seats old.threads thread view))

  home_moved : (thread : ℕ) → (thread_at new thread).home ≡ (thread_at old thread).home
  home_moved thread = ap (λ (seat : Seat). seat.home)
      (seat_at new thread
      ∙ (ap (λ (seats : List Seat). unwrap_or (slice_get seats thread) (seat_of no_thread)) moved.seats
      ∙ sym (seat_at old thread)))

  count_moved : length new.threads ≡ length old.threads
  count_moved = sym (length-map new.threads seat_of) ∙ (ap length moved.seats ∙ length-map old.threads seat_of)

  pub same_sight : SameSight old new
  same_sight = record {
    pages = λ name. ap (λ pages. find_page pages name) moved.pages;
    processes = ap length moved.processes;
    shows = shown_moved;
    home = home_moved;
  }

-- and it is servable alike
servable_moved : (old new : State) → IsMoved old new → IsServable old → IsServable new
unfolding process_at
servable_moved old new moved servable = record {
  table = one_table old new moved.processes (count_moved old new moved) (shown_moved old new moved)
      (ap (map page_name) moved.pages) servable.table;
  heaps = λ process. subst (λ (processes : List Process). heap_count (slice_get processes process) ≤ 512) (sym moved.processes)
      (servable.heaps process);
  few = subst (λ (n : ℕ). n ≤ 8) (sym (count_moved old new moved)) servable.few;
  places = moved.flights ∙ (servable.places ∙ sym (count_moved old new moved));
}

pub stands_moved : (kernel : Kernel) (root : RootKernel) (book : Book) (memory : Physical) (old new : State) → IsMoved old new
    → StandsFor kernel root book memory old → StandsFor kernel root book memory new
stands_moved kernel root book memory old new moved stands = record {
  placement = stands.placement;
  keeps = keeps_moved stands.placement old new memory (same_sight old new moved) stands.keeps;
  rooted = stands.rooted;
  sets = stands.sets;
  processes = stands.processes ∙ sym moved.processes;
  seats = moved.seats ∙ stands.seats;
  keys = stands.keys ∙ sym moved.keys;
  servable = servable_moved old new moved stands.servable;
  booked = stands.booked;
  unused = stands.unused;
  count = stands.count ∙ sym moved.free;
}
