-- A state in which a thread got a binding is servable, and the index of the binding was free.
use Rattle.std.proofs.Common.{◌≡◌, ◌∙◌, sym, ap, subst, ℕ, ◌≤◌, false, [], ◌∷◌, ◌++◌, length, length-set, refl}
use Rattle.std.specs.Prelude.{Option, Some, slice_get}
use Rattle.sb_state.specs.declared.state.Binding.{Binding}
use Rattle.sb_state.specs.declared.state.Registration.{Registration}
use Rattle.sb_state.specs.declared.state.Thread.{Thread}
use Rattle.sb_state.specs.Bindings.{free_index}
use Rattle.sb_state.proofs.Indices.{indices_are_free}
use Rattle.sb_state.proofs.Threads.{thread_set_there}
use Rattle.sb_trace.specs.Changes.{OnlyThread, AddsView}
use Rattle.sb_trace.specs.KernelCall.{handler_in}
use Rattle.sb_trace.specs.State.{State, with_thread, thread_at, process_at}
use Rattle.sb_trace.specs.SyscallBind.{binding_pages, new_binding, server_words, with_binding}
use Rattle.sb_trace.specs.Table.{has_view}
use Rattle.sb_trace.proofs.Accepted.{IsBinding}
use Rattle.sb_trace.proofs.TableKept.{no_view_before, view_grown}
use Rattle.sb_trace.proofs.TablePages.{grown_table}
use Rattle.sb_trace.proofs.Threads.{only_thread, only_both, only_none}
use Rattle.sb_sub.specs.StandsFor.{IsServable}

module _ (state : State) (number server view : ℕ)
    (there : slice_get state.threads number ≡ Some (thread_at state number))
    (asks : IsBinding state (record (thread_at state number) { view = view }) server) where
  abbrev thread : Thread
  thread = thread_at state number

  abbrev binding : Binding
  binding = new_binding state thread server

  abbrev new : State
  new = with_binding state number thread binding

  abbrev bound : Thread
  bound = record thread { bindings = thread.bindings ++ binding ∷ [] }

  only : OnlyThread state number new
  unfolding with_binding
  only =
      only_both state number (with_thread state number bound) new (only_thread state number bound refl)
      (only_none (with_thread state number bound) number new refl refl)

  bindings_now : (thread_at new number).bindings ≡ thread.bindings ++ binding ∷ []
  unfolding with_binding thread_at
  bindings_now = ap (λ (one : Thread). one.bindings) (thread_set_there state number thread bound there)

  unfoldable adds : AddsView state number new
  unfolding with_binding
  adds = record {
    there = there;
    binding = binding;
    index = indices_are_free thread.bindings asks.few;
    away = asks.away;
    registration = asks.registration;
    registered = asks.registered;
    key = asks.key;
    bindings = bindings_now;
    room = asks.room;
    pages = ap (λ (found : Option Registration). state.pages
        ++ binding_pages number binding.index (server_words number thread binding (handler_in found))) asks.registered;
    processes = refl;
    free = refl;
  }

  -- the index was that of no view
  pub no_view : has_view state number (free_index thread.bindings) ≡ false
  unfolding adds
  no_view = no_view_before state number new adds

  count_now : length new.threads ≡ length state.threads
  unfolding with_binding
  count_now = length-set state.threads number bound

  -- the state with the binding is servable
  pub bound_servable : IsServable state → IsServable new
  unfolding with_binding process_at
  bound_servable servable = record {
    table = (grown_table state new state.pages _ (view_grown state number new only adds) servable.table).0;
    heaps = λ process. servable.heaps process;
    few = subst (λ (n : ℕ). n ≤ 8) (sym count_now) servable.few;
    places = servable.places ∙ sym count_now;
  }
