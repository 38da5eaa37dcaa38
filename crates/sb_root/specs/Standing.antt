-- A root kernel whose tables and lists stand in a memory, and whose frames are taken in a book.
use Rattle.std.specs.Prelude.{ℕ, ◌≡◌, ◌≢◌, ◌+◌, ◌<◌, ◌≤◌, ◌⊎◌, None, Some, List, length}
use Rattle.std.specs.List.{Contains}
use Rattle.sb_abi.specs.declared.frames.TheConstants.{KEPT_FRAMES}
use Rattle.sb_abi.specs.declared.layout.TheConstants.{FIRST_ROOT, LAST_ROOT}
use Rattle.sb_memory.specs.Physical.{Physical, frame_count}
use Rattle.sb_memory.specs.declared.address.Frame.{Frame}
use Rattle.sb_frames.specs.Book.{Book, holder}
use Rattle.sb_root.specs.declared.root_kernel.RootKernel.{RootKernel}
use Rattle.sb_root.specs.declared.view.View.{View}
use Rattle.sb_root.specs.Tables.{IsPage, HasTables, IsRootMemory, HasBase, base_frames, view_entries}
use Rattle.sb_root.specs.Root.{IsShaped, Use, ListOf, PartOf, eptp_list_frame, view_of, list_entry, used_frame, kind_for, owner_for}

-- the frame of the root of a process's page tables
abbrev pub IsRootFrame : ℕ → Type 0
IsRootFrame frame = (FIRST_ROOT ≤ frame) × (frame < LAST_ROOT + 1)

-- the tables of a view stand in a memory
pub record HasView (memory : Physical) (view : View) : Type 0 where
  pub tables : HasTables memory view.tables (view_entries view)
  pub home : IsRootFrame view.home_root.0
  pub target : IsRootFrame view.target_root.0

-- the tables and lists of a root kernel stand in a memory as its calls left them, each in a frame of its own, and each thread
-- that has a view has a list
pub record Stands (root : RootKernel) (memory : Physical) : Type 0 where
  pub shape : IsShaped root
  pub whole : IsRootMemory memory
  pub base : HasBase memory
  pub lists : (thread : ℕ) (frame : Frame) → eptp_list_frame root thread ≡ Some frame
      → IsPage memory frame.0 (list_entry root thread)
  pub views : (thread index : ℕ) (view : View) → view_of root thread index ≡ Some view → HasView memory view
  pub listed : (thread index : ℕ) (view : View) → view_of root thread index ≡ Some view → eptp_list_frame root thread ≢ None
  pub inside : (purpose : Use) (frame : ℕ) → used_frame root purpose ≡ Some frame
      → (KEPT_FRAMES ≤ frame) × (frame < frame_count memory)
  pub apart : (first second : Use) (frame : ℕ) → used_frame root first ≡ Some frame → used_frame root second ≡ Some frame
      → first ≡ second

-- the frames of a root kernel are taken in the book of the memory, each for its use and by its thread
pub record IsBooked (root : RootKernel) (book : Book) (memory : Physical) : Type 0 where
  pub size : length book + KEPT_FRAMES ≡ frame_count memory
  pub held : (purpose : Use) (frame : ℕ) → used_frame root purpose ≡ Some frame
      → holder book frame ≡ Some (kind_for purpose, owner_for purpose)

-- a list, or one of the four tables of a view: what walks and switches read
abbrev pub IsTable : Use → Type 0
IsTable (ListOf thread) = Unit {0}
IsTable (PartOf thread index part) = part < 4

-- a frame of the base, or one that holds a table of a view or a list
abbrev pub IsTableFrame : RootKernel → ℕ → Type 0
IsTableFrame root frame =
    Contains base_frames frame ⊎ ((purpose : Use) × IsTable purpose × (used_frame root purpose ≡ Some frame))

-- none of these frames holds a table or a list
pub record IsApart (root : RootKernel) (frames : List ℕ) : Type 0 where
  pub base : (frame : ℕ) → Contains base_frames frame → ¬ Contains frames frame
  pub tables : (purpose : Use) (frame : ℕ) → IsTable purpose → used_frame root purpose ≡ Some frame → ¬ Contains frames frame
