-- What a Subkernel keeps: its processes with their tables, the homes and bindings of its threads, and the key words left.
use Rattle.std.specs.Prelude.{ℕ, ◌==◌, List, Option, Some, slice_get, unwrap_or, if◌then◌else◌}
use Rattle.sb_pagewalk.specs.declared.table_set.TableSet.{TableSet}
use Rattle.sb_state.specs.declared.state.Binding.{Binding}
use Rattle.sb_state.specs.declared.state.Thread.{Thread}
use Rattle.sb_trace.specs.State.{Process, no_thread}
use Rattle.sb_trace.specs.Windows.{server_of}

-- a process, and its page tables
pub record Entry : Type 0 where
  pub process : Process
  pub set : TableSet

-- what is kept of a thread
pub record Seat : Type 0 where
  pub home : ℕ
  pub bindings : List Binding

pub record Kernel : Type 0 where
  pub processes : List Entry
  pub seats : List Seat
  pub keys : List ℕ

abbrev pub process_of : Entry → Process
process_of entry = entry.process

abbrev pub seat_of : Thread → Seat
seat_of thread = record { home = thread.home; bindings = thread.bindings }

-- ---- the process that a view shows

-- what is kept of a thread among these
abbrev pub seat_among : List Seat → ℕ → Seat
seat_among seats thread = unwrap_or (slice_get seats thread) (seat_of no_thread)

abbrev pub seat_in : Kernel → ℕ → Seat
seat_in kernel thread = seat_among kernel.seats thread

-- view 0 shows the home, each other view the server of that binding
abbrev pub shown_from : ℕ → Seat → Option ℕ
shown_from view seat = if view == 0 then Some seat.home else server_of seat.bindings view

abbrev pub process_from : ℕ → Seat → ℕ
process_from view seat = unwrap_or (shown_from view seat) seat.home

abbrev pub shown_in : Kernel → ℕ → ℕ → ℕ
shown_in kernel thread view = process_from view (seat_in kernel thread)
