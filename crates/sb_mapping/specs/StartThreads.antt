-- A thread at a start: its list, its home view, its save page and its stack.
use Rattle.std.specs.Prelude.{ℕ, ◌≡◌, ◌+◌, ◌<◌, None, length}
use Rattle.sb_abi.specs.declared.layout.TheConstants.{FIRST_ROOT}
use Rattle.sb_memory.specs.Physical.{Physical}
use Rattle.sb_memory.specs.declared.address.Frame.{Frame}
use Rattle.sb_frames.specs.Book.{Book}
use Rattle.sb_pagewalk.specs.declared.table_set.TableSet.{TableSet}
use Rattle.sb_root.specs.declared.root_kernel.RootKernel.{RootKernel}
use Rattle.sb_root.specs.Root.{eptp_list_frame, view_of}
use Rattle.sb_state.specs.State.{State}
use Rattle.sb_state.specs.Start.{ThreadEntry, home_words}
use Rattle.sb_shows.specs.Placement.{Placement}
use Rattle.sb_shows.specs.Starts.{HasNoThreadPages, with_whole_thread}
use Rattle.sb_shows.specs.Views.{AddsList, AddsRootView, placed_list, placed_view}
use Rattle.sb_mapping.specs.Carries.{Carries}
use Rattle.sb_mapping.specs.StartPages.{IsOver}

-- the frame of the root of a process's page tables
abbrev pub root_frame : ℕ → Frame
root_frame process = record { 0 = FIRST_ROOT + process }

-- a thread that has neither a list nor a view
pub record HasNoViews (root : RootKernel) (thread : ℕ) : Type 0 where
  pub list : eptp_list_frame root thread ≡ None
  pub views : (index : ℕ) → view_of root thread index ≡ None

-- A thread got a list and its home view, over a placement that is over the book before and, with them, over the book after.
pub record AddedHomeView (placement : Placement) (thread home : ℕ) (root : RootKernel) (book : Book)
    (old new : Physical) : Type 0 where
  pub first : RootKernel
  pub listed : Physical
  pub list : AddsList placement first thread old listed
  pub view : AddsRootView (placed_list placement first thread list.frame.0) root thread 0 home home (home_words thread home)
      listed new
  pub over : IsOver (placed_view (placed_list placement first thread list.frame.0) root thread 0 view.view) root book

-- A state is carried to which a thread of this number, with this home, can be added.
pub record IsReadyForThread (placement : Placement) (root : RootKernel) (book : Book) (memory : Physical) (state : State)
    (thread home : ℕ) (set : TableSet) : Type 0 where
  pub carries : Carries placement root book memory state
  pub count : length state.threads ≡ thread
  pub none : HasNoThreadPages state.pages thread
  pub there : home < length state.processes
  pub set_is : placement.sets home ≡ set

-- The state with the thread of an entry is carried, and each process keeps its tables.
pub record AddedThread (placement : Placement) (root : RootKernel) (book : Book) (memory : Physical) (state : State)
    (entry : ThreadEntry) : Type 0 where
  pub after : Placement
  pub carries : Carries after root book memory (with_whole_thread state entry)
  pub sets : (process : ℕ) → after.sets process ≡ placement.sets process
