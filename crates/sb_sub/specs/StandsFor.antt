-- When what a Subkernel, its root kernel, the frame book and physical memory hold stands for a state of plain memory.
use Rattle.std.specs.Prelude.{ℕ, ◌≡◌, ◌≤◌, length, map, slice_get, Some}
use Rattle.sb_abi.specs.declared.space.TheConstants.{WINDOW_PAGES}
use Rattle.sb_memory.specs.Physical.{Physical}
use Rattle.sb_frames.specs.Book.{Book, free_count}
use Rattle.sb_root.specs.declared.root_kernel.RootKernel.{RootKernel}
use Rattle.sb_root.specs.Standing.{IsBooked}
use Rattle.sb_root.specs.Calls.{IsFree}
use Rattle.sb_trace.specs.State.{State, HasFewThreads, process_at}
use Rattle.sb_trace.specs.SyscallProtect.{heap_count}
use Rattle.sb_trace.specs.Table.{ArePagesOfTable}
use Rattle.sb_shows.specs.Placement.{Placement, Unused}
use Rattle.sb_shows.specs.Keeping.{Keeps}
use Rattle.sb_sub.specs.Kernel.{Entry, Kernel, process_of, seat_of}

-- The parts of a sound state of few threads that calls ask for and keep, with any registers and of a thread in flight too: the
-- pages are those of the table, heaps are within their window, and there is a flight, or none, for each thread.
pub record IsServable (state : State) : Type 0 where
  pub table : ArePagesOfTable state
  pub heaps : (process : ℕ) → heap_count (process_at state process) ≤ WINDOW_PAGES
  pub few : HasFewThreads state
  pub places : length state.flights ≡ length state.threads

-- The bytes keep the state by a placement whose tables are those of the kernels; each field that a call looks at is the same;
-- the state is servable; and a free frame is used for nothing.
pub record StandsFor (kernel : Kernel) (root : RootKernel) (book : Book) (memory : Physical) (state : State) : Type 0 where
  pub placement : Placement
  pub keeps : Keeps placement state memory
  pub rooted : placement.root ≡ root
  pub sets : (process : ℕ) (entry : Entry) → slice_get kernel.processes process ≡ Some entry → placement.sets process ≡ entry.set
  pub processes : map process_of kernel.processes ≡ state.processes
  pub seats : map seat_of state.threads ≡ kernel.seats
  pub keys : kernel.keys ≡ state.keys
  pub servable : IsServable state
  pub booked : IsBooked root book memory
  pub unused : (frame : ℕ) → IsFree book frame → placement.purpose frame ≡ Unused
  pub count : free_count book ≡ state.free
