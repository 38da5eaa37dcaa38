-- A process at a start: its tables, and its pages.
use Rattle.std.specs.Prelude.{ℕ, ◌≡◌, ◌≢◌, ◌+◌, ◌++◌, length}
use Rattle.sb_memory.specs.Physical.{Physical}
use Rattle.sb_frames.specs.Book.{Book}
use Rattle.sb_pagewalk.specs.declared.table_set.TableSet.{TableSet}
use Rattle.sb_root.specs.declared.root_kernel.RootKernel.{RootKernel}
use Rattle.sb_state.specs.State.{State}
use Rattle.sb_state.specs.Start.{ProcessImage, process_pages, start_process}
use Rattle.sb_shows.specs.Placement.{Placement}
use Rattle.sb_shows.specs.Starts.{HasNoPages, with_new_process}
use Rattle.sb_mapping.specs.Carries.{Carries}
use Rattle.sb_mapping.specs.StartPages.{pages_need}
use Rattle.sb_mapping.specs.StartTables.{HasFreeRoots}

-- the frames that a process of an image takes: eleven tables, and its pages
abbrev pub image_need : ProcessImage → ℕ
image_need image = 11 + pages_need image

-- the state with one process more, of this image, and all its pages
abbrev pub with_image : State → ProcessImage → State
with_image state image = record (with_new_process state (start_process image)) {
  pages = state.pages ++ process_pages (length state.processes) image;
}

-- A state is carried to which a process of this number can be added.
pub record IsReadyForProcess (placement : Placement) (root : RootKernel) (book : Book) (memory : Physical) (state : State)
    (process : ℕ) : Type 0 where
  pub carries : Carries placement root book memory state
  pub count : length state.processes ≡ process
  pub none : HasNoPages state.pages process
  pub roots : HasFreeRoots placement process

-- The state with the process of an image is carried: these are its tables, and each other process keeps its own.
pub record AddedProcess (placement : Placement) (root : RootKernel) (book : Book) (memory : Physical) (state : State)
    (process : ℕ) (image : ProcessImage) (set : TableSet) : Type 0 where
  pub after : Placement
  pub carries : Carries after root book memory (with_image state image)
  pub roots : HasFreeRoots after (process + 1)
  pub here : after.sets process ≡ set
  pub others : (other : ℕ) → other ≢ process → after.sets other ≡ placement.sets other
