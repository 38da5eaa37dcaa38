-- In a sound state each thread is in a view, in flight too.
use Rattle.std.proofs.Common.{◌≡◌, ◌∙◌, sym, ap, ℕ, ◌<◌, List, length, refl}
use Rattle.std.specs.Prelude.{Option, Some, None, slice_get, unwrap_or}
use Rattle.std.specs.Option.{option_and_then}
use Rattle.std.proofs.lemmas.Option.{slice_get-get_or}
use Rattle.sb_state.specs.declared.state.Flight.{Flight}
use Rattle.sb_state.specs.declared.state.Thread.{Thread}
use Rattle.sb_trace.specs.State.{State, thread_at, flight_at, no_thread}
use Rattle.sb_trace.specs.Windows.{process_shown, process_of_view}
use Rattle.sb_trace.specs.Sound.{IsSound, IsThreadSound}
use Rattle.sb_trace.proofs.Threads.{HasThread}
use Rattle.sb_trace.proofs.InFlight.{flight_away}
use Rattle.sb_trace.proofs.ProcessFacts.{all_at}
use Rattle.sb_landing.proofs.Bound.{flight_sound}
use Rattle.sb_landing.proofs.Exchange.{not_zero}
use Rattle.sb_landing.proofs.Ground.{server_shown}
use Rattle.sb_shows.specs.Shows.{IsView, index_of, present_index}

there_is : (threads : List Thread) (number : ℕ) → number < length threads
    → slice_get threads number ≡ Some (unwrap_or (slice_get threads number) no_thread)
there_is threads number small =
    let is = slice_get-get_or threads number no_thread small in
    is ∙ ap Some (sym (ap (λ found. unwrap_or found no_thread) is))

-- a thread of a number below their count is there
pub thread_is : (state : State) (number : ℕ) → number < length state.threads → HasThread state number
unfolding thread_at
thread_is state number small = there_is state.threads number small

pub own_shown : (state : State) (number process : ℕ) → HasThread state number
    → process_of_view (thread_at state number).view (thread_at state number) ≡ Some process
    → process_shown state.threads number (thread_at state number).view ≡ Some process
unfolding process_shown
own_shown state number process there is =
    ap (option_and_then (process_of_view (thread_at state number).view)) there ∙ is

present_by : (found : Option Flight) (state : State) (number : ℕ) → IsSound state → HasThread state number
    → flight_at state number ≡ found → IsView state number (index_of found (thread_at state number).view)
present_by None state number sound there at =
    let view = sound.views number in (view.0, own_shown state number view.0 there view.1)
present_by (Some flight) state number sound there at =
    let flies = flight_sound state number flight sound at in
    let away = flight_away state number flight sound.threads flies in
    (flies.binding.server, server_shown state number flight.index flies.binding (not_zero flight.index away) flies.bound)

-- the thread is in a view: that of its flight, or its own
pub present_there : (state : State) (number : ℕ) → IsSound state → number < length state.threads
    → IsView state number (present_index state number)
present_there state number sound small =
    present_by (flight_at state number) state number sound (thread_is state number small) refl

-- a thread of a sound state is sound
pub thread_sound : (state : State) (number : ℕ) → IsSound state → number < length state.threads
    → IsThreadSound state (thread_at state number)
thread_sound state number sound small =
    all_at (IsThreadSound state) state.threads number (thread_at state number) sound.threads (thread_is state number small)

-- the home view shows the thread's home
pub home_shown : (state : State) (number : ℕ) → number < length state.threads → IsView state number 0
unfolding process_shown
home_shown state number small =
    ((thread_at state number).home, ap (option_and_then (process_of_view 0)) (thread_is state number small))
