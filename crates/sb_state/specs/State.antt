-- The state of the plain machine: pages by name, processes, threads, and what is left to be given out.
use Rattle.std.specs.Prelude.{ℕ, ◌≤◌, false, List, [], length, Option, Some, None, replicate, slice_get, slice_set, unwrap_or}
use Rattle.sb_abi.specs.declared.space.TheConstants.{MAX_THREADS}
use Rattle.sb_insn.specs.declared.registers.Regs.{Regs}
pub use Rattle.sb_list.specs.Lists.{is_listed}
use Rattle.sb_pages.specs.declared.page.PageName.{PageName}
use Rattle.sb_pages.specs.declared.page.Page.{Page}
pub use Rattle.sb_pages.specs.PageLists.{page_with, find_page, with_page_bytes, with_mode, bytes_of}
use Rattle.sb_slots.specs.TextMap.{TextMap}
use Rattle.sb_state.specs.declared.end_kind.EndKind.{EndKind}
use Rattle.sb_slots.specs.TextMap.{TextMap}
use Rattle.sb_state.specs.declared.end_kind.EndKind.TheVariants.{Ended}
use Rattle.sb_state.specs.declared.state.Registration.{Registration}
use Rattle.sb_state.specs.declared.state.Flight.{Flight}
use Rattle.sb_state.specs.declared.state.Thread.{Thread}

-- a process: where its text's instructions stand, the number of its heap pages, and what it told as a server
pub record Process : Type 0 where
  pub map : TextMap
  pub heap_pages : ℕ
  pub registration : Option Registration

-- Pages of every kind are in one list, so a law over pages needs no case for each kind.
pub record State : Type 0 where
  pub pages : List Page
  pub processes : List Process
  pub threads : List Thread
  -- the flight of each thread, by its number, where it is in flight
  pub flights : List (Option Flight)
  -- the number of free frames
  pub free : ℕ
  -- the key words that are left
  pub keys : List ℕ

-- ---- pages by name

-- the bytes of the page of this name; none if there is no such page
unfoldable pub contents : State → PageName → List ℕ
contents state name = bytes_of (find_page state.pages name)

unfoldable pub with_contents : State → PageName → List ℕ → State
with_contents state name bytes = record state { pages = with_page_bytes state.pages name bytes }

-- ---- threads: a core runs the one of its number

-- the state has no more threads than the page tables serve
abbrev pub HasFewThreads : State → Type 0
HasFewThreads state = length state.threads ≤ MAX_THREADS

-- in place of a thread that is not there: one that has ended
unfoldable pub no_thread : Thread
no_thread = record {
  home = 0;
  regs = record {
    general = replicate 16 0;
    rip = 0;
    flags = record { cf = false; pf = false; zf = false; sf = false; of = false };
  };
  view = 0;
  bindings = [];
  state = Ended 0;
}

unfoldable pub thread_at : State → ℕ → Thread
thread_at state core = unwrap_or (slice_get state.threads core) no_thread

abbrev pub with_thread : State → ℕ → Thread → State
with_thread state core thread = record state { threads = slice_set state.threads core thread }

-- the thread of this core has these registers
unfoldable pub with_regs : State → ℕ → Regs → State
with_regs state core regs = with_thread state core (record (thread_at state core) { regs = regs })

-- the thread of this core goes on, or has ended so
unfoldable pub with_end : State → ℕ → EndKind → State
with_end state core end = with_thread state core (record (thread_at state core) { state = end })

-- the thread of this core has these registers, in this view
unfoldable pub with_view : State → ℕ → ℕ → Regs → State
with_view state core view regs = with_thread state core (record (thread_at state core) { view = view; regs = regs })

-- ---- flights, by the core

-- Flights stand beside the threads, so that a machine without flights is the state without this list.
unfoldable pub flight_at : State → ℕ → Option Flight
flight_at state core = unwrap_or (slice_get state.flights core) None

-- the thread of this core is in this flight, or in none
unfoldable pub with_flight : State → ℕ → Option Flight → State
with_flight state core flight = record state { flights = slice_set state.flights core flight }

-- ---- processes by number

unfoldable pub process_at : State → ℕ → Option Process
process_at state process = slice_get state.processes process

-- what the process told as a server, if it did
abbrev pub registration_of : Option Process → Option Registration
registration_of None = None
registration_of (Some process) = process.registration

unfoldable pub registration_at : State → ℕ → Option Registration
registration_at state process = registration_of (process_at state process)
