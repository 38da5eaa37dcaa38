-- The last state of a run, as the report shows it.
use Rattle.std.specs.Prelude.{ℕ, ◌+◌, List, [], ◌∷◌, length, Option}
use Rattle.std.specs.Option.{option_map}
use Rattle.sb_trace.specs.declared.end.ThreadEnd.{ThreadEnd}
use Rattle.sb_trace.specs.declared.end.EndState.{EndState}
use Rattle.sb_state.specs.declared.state.Flight.{Flight}
use Rattle.sb_state.specs.declared.state.Thread.{Thread}
use Rattle.sb_state.specs.State.{State, flight_at}
use Rattle.sb_state.specs.Windows.{process_now}

abbrev pub phase_of : Flight → ℕ
phase_of flight = flight.phase

-- A thread, with the process that its view shows. In flight it is shown as it is here, and its phase beside.
abbrev pub thread_end : Thread → Option Flight → ThreadEnd
thread_end thread flight = record {
  home = thread.home;
  view = thread.view;
  present = process_now thread;
  state = thread.state;
  regs = thread.regs;
  flight = option_map phase_of flight;
}

-- threads in order, of which the first has this number
abbrev pub thread_ends : State → ℕ → List Thread → List ThreadEnd
thread_ends state number [] = []
thread_ends state number (thread ∷ threads) = thread_end thread (flight_at state number) ∷ thread_ends state (number + 1) threads

abbrev pub end_of : State → EndState
end_of state = record { threads = thread_ends state 0 state.threads; free = state.free; keys = length state.keys }
