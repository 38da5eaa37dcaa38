-- A Subkernel at the start of a loaded bundle: what is built, processes first and then threads.
use Rattle.std.specs.Prelude.{ℕ, ◌≡◌, ◌-◌, ◌<◌, ◌++◌, List, [], Option, None, Some, map, slice_get, slice_set, sum_by}
use Rattle.sb_memory.specs.Physical.{Physical}
use Rattle.sb_frames.specs.Book.{Book}
use Rattle.sb_pagewalk.specs.declared.table_set.TableSet.{TableSet}
use Rattle.sb_root.specs.declared.root_kernel.RootKernel.{RootKernel}
use Rattle.sb_state.specs.State.{State}
use Rattle.sb_state.specs.Start.{ProcessImage, images_pages, start_process, trampoline_pages}
use Rattle.sb_bundle.specs.declared.bundle.CoreStart.{CoreStart}
use Rattle.sb_load.specs.Loading.{Load}
use Rattle.sb_load.specs.Need.{need_of, have_of}
use Rattle.sb_load.specs.FirstState.{images_loaded, first_state}
use Rattle.sb_shows.specs.Placement.{Placement}
use Rattle.sb_shows.specs.WholeStart.{state_before_processes}
use Rattle.sb_mapping.specs.Carries.{Carries}
use Rattle.sb_mapping.specs.StartTables.{HasFreeRoots}
use Rattle.sb_mapping.specs.StartProcesses.{image_need}
use Rattle.sb_sub.specs.Kernel.{Entry, Seat}

-- the frames that processes of images take
abbrev pub images_need : List ProcessImage → ℕ
images_need images = sum_by image_need images

-- what is kept of the thread of a core at its start
abbrev pub start_seat : CoreStart → Seat
start_seat core = record { home = core.process; bindings = [] }

-- the processes with the one of this number, which is there, by these tables
abbrev pub with_set_at : Option Entry → List Entry → ℕ → TableSet → List Entry
with_set_at None entries process set = entries
with_set_at (Some entry) entries process set = slice_set entries process (record entry { set = set })

abbrev pub with_set : List Entry → ℕ → TableSet → List Entry
with_set entries process set = with_set_at (slice_get entries process) entries process set

-- the state before there are processes and threads
abbrev pub bare_state : Load → State
bare_state load = state_before_processes (have_of load.bundle - need_of load.bundle load.rewritten) load.bundle.keys

-- the state with all processes, and before there are threads
abbrev pub threadless_state : Load → State
threadless_state load = record (bare_state load) {
  processes = map start_process (images_loaded load);
  pages = trampoline_pages ++ images_pages 0 (images_loaded load);
}

-- The state before there are processes is carried, and no root is used.
pub record HasBegun (root : RootKernel) (book : Book) (memory : Physical) (load : Load) : Type 0 where
  pub placement : Placement
  pub carries : Carries placement root book memory (bare_state load)
  pub roots : HasFreeRoots placement 0

-- the tables of the first processes, so many, are those that are kept of them
abbrev pub HasSets : Placement → List Entry → ℕ → Type 0
HasSets placement entries count = (process : ℕ) (entry : Entry) → process < count → slice_get entries process ≡ Some entry
    → placement.sets process ≡ entry.set

-- The state with all processes is carried, by their tables.
pub record HasAllProcesses (root : RootKernel) (book : Book) (memory : Physical) (load : Load)
    (entries : List Entry) : Type 0 where
  pub placement : Placement
  pub carries : Carries placement root book memory (threadless_state load)
  pub sets : (process : ℕ) (entry : Entry) → slice_get entries process ≡ Some entry → placement.sets process ≡ entry.set

-- The state at the start is carried, by the tables of the processes.
pub record HasStarted (root : RootKernel) (book : Book) (memory : Physical) (load : Load) (entries : List Entry) : Type 0 where
  pub placement : Placement
  pub carries : Carries placement root book memory (first_state load)
  pub sets : (process : ℕ) (entry : Entry) → slice_get entries process ≡ Some entry → placement.sets process ≡ entry.set
