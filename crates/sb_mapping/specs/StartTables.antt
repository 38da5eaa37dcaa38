-- The page tables of a process at a start.
use Rattle.std.specs.Prelude.{ℕ, ◌≡◌, ◌≢◌, ◌+◌, ◌*◌, ◌<◌, ◌≤◌, List, map, get_or}
use Rattle.sb_abi.specs.declared.layout.TheConstants.{FIRST_ROOT, TRAMPOLINE_GUEST_PAGE, RECORD_GUEST_PAGE, SCRATCH_GUEST_PAGE}
use Rattle.sb_abi.specs.declared.space.TheConstants.{MAX_PROCESSES}
use Rattle.sb_abi.specs.declared.trampoline.TheConstants.{TRAMPOLINE_PAGE, RECORD_PAGE, SCRATCH_PAGE}
use Rattle.sb_memory.specs.Physical.{Physical}
use Rattle.sb_memory.specs.declared.address.Frame.{Frame}
use Rattle.sb_memory.specs.declared.page.TheConstants.{PAGE_SIZE}
use Rattle.sb_frames.specs.Book.{Book, free_count}
use Rattle.sb_pagewalk.specs.declared.table_set.TableSet.{TableSet}
use Rattle.sb_root.specs.declared.root_kernel.RootKernel.{RootKernel}
use Rattle.sb_root.specs.Standing.{IsBooked, Stands}
use Rattle.sb_root.specs.Calls.{IsFree}
use Rattle.sb_state.specs.declared.page.Mode.TheVariants.{Fetch, Read, ReadWrite}
use Rattle.sb_shows.specs.Placement.{Placement, Unused, leaf_for}
use Rattle.sb_shows.specs.Calls.{SetsPage}
use Rattle.sb_shows.specs.Starts.{AddsTables, placed_tables}
use Rattle.sb_mapping.specs.StartPages.{IsOver}

-- the number of a frame of a list
abbrev pub frame_at : List Frame → ℕ → ℕ
frame_at frames index = get_or (map (λ (frame : Frame). frame.0) frames) index 0

-- So many different frames that were free were taken, and no other is free that was not.
pub record TakesFrames (old new : Book) (frames : List Frame) (count : ℕ) : Type 0 where
  pub each : (index : ℕ) → index < count → IsFree old (frame_at frames index)
  pub different : (index other : ℕ) → index < count → other < count → index ≢ other
      → frame_at frames index ≢ frame_at frames other
  pub others : (frame : ℕ) → IsFree new frame
      → IsFree old frame × ((index : ℕ) → index < count → frame ≢ frame_at frames index)
  pub fewer : free_count new + count ≡ free_count old
  pub booked : (root : RootKernel) (memory : Physical) → Stands root memory → IsBooked root old memory → IsBooked root new memory

-- The entries of the three pages that each view has of its own are set, the scratch page's first.
pub record MapsOwnPages (set : TableSet) (old new : Physical) : Type 0 where
  pub first : Physical
  pub scratch : SetsPage set old first (PAGE_SIZE * SCRATCH_PAGE) (leaf_for SCRATCH_GUEST_PAGE ReadWrite)
  pub second : Physical
  pub words : SetsPage set first second (PAGE_SIZE * RECORD_PAGE) (leaf_for RECORD_GUEST_PAGE Read)
  pub trampoline : SetsPage set second new (PAGE_SIZE * TRAMPOLINE_PAGE) (leaf_for TRAMPOLINE_GUEST_PAGE Fetch)

-- the roots of processes from this number on are used for nothing
abbrev pub HasFreeRoots : Placement → ℕ → Type 0
HasFreeRoots placement first =
    (process : ℕ) → first ≤ process → process < MAX_PROCESSES → placement.purpose (FIRST_ROOT + process) ≡ Unused

-- These are the tables of a process, added to a placement that is over the book before and, with them, over the book after.
pub record AddedTables (placement : Placement) (process : ℕ) (root : RootKernel) (book : Book) (old new : Physical)
    (set : TableSet) : Type 0 where
  pub adds : AddsTables placement process old new
  pub is : adds.set ≡ set
  pub over : IsOver (placed_tables placement process adds.set) root book
  pub roots : HasFreeRoots (placed_tables placement process adds.set) (process + 1)
