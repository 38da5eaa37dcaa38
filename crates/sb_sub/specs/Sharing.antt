-- Pages that two processes share: a frame is taken from the frame book, filled, mapped at one address in both, and exposed.
use Rattle.std.specs.Prelude.{ℕ, zero, suc, ◌≡◌, ◌≢◌, ◌+◌, ◌*◌, ◌<◌, [], ◌∷◌, Some}
use Rattle.sb_memory.specs.Physical.{Physical, HoldsBytes, frame_count}
use Rattle.sb_memory.specs.Changes.{SameOutside}
use Rattle.sb_memory.specs.declared.address.Frame.{Frame}
use Rattle.sb_memory.specs.declared.page.TheConstants.{PAGE_SIZE}
use Rattle.sb_frames.specs.Book.{Book, with_holder, free_count}
use Rattle.sb_frames.specs.declared.kind.Kind.TheVariants.{Writable}
use Rattle.sb_pagewalk.specs.declared.table_set.TableSet.{TableSet}
use Rattle.sb_pagewalk.specs.TableSet.{table_frame}
use Rattle.sb_calls.specs.Views.{buffer_address}
use Rattle.sb_root.specs.declared.root_kernel.RootKernel.{RootKernel}
use Rattle.sb_root.specs.declared.entry.TheConstants.{RIGHT_READ_WRITE}
use Rattle.sb_root.specs.Calls.{IsFree}
use Rattle.sb_state.specs.declared.page.Mode.TheVariants.{ReadWrite}
use Rattle.sb_trace.specs.PageWords.{zeros}
use Rattle.sb_shows.specs.Placement.{leaf_for}
use Rattle.sb_shows.specs.Calls.{SetsPage, ExposesFrame}
use Rattle.sb_mapping.specs.Taking.{CanTake}

-- Frames may be taken for pages of the client's home and of the server, and no table of one is a table of the other.
pub record CanShare (home server : TableSet) (root : RootKernel) (book : Book) (memory : Physical) : Type 0 where
  pub at_home : CanTake home root book memory
  pub at_server : CanTake server root book memory
  pub apart : (table other : ℕ) → table < 12 → other < 12 → table_frame home table ≢ table_frame server other

-- a writable page of zeros was added at one address in the client's home and in the server
pub record SharesPage (home server : TableSet) (root : RootKernel) (book book' : Book) (old new : Physical)
    (owner at : ℕ) : Type 0 where
  pub frame : Frame
  pub free : IsFree book frame.0
  pub inside : frame.0 < frame_count old
  pub taken : book' ≡ with_holder book frame.0 (Some (Writable, owner))
  pub fewer : free_count book' + 1 ≡ free_count book
  pub filled : Physical
  pub same : SameOutside (frame.0 ∷ []) old filled
  pub held : HoldsBytes filled frame.0 zeros
  pub between : Physical
  pub at_home : SetsPage home filled between at (leaf_for frame.0 ReadWrite)
  pub mapped : Physical
  pub at_server : SetsPage server between mapped at (leaf_for frame.0 ReadWrite)
  pub exposed : ExposesFrame root mapped new frame.0 RIGHT_READ_WRITE

-- the linear address of a page of the buffer of a thread's view
abbrev pub buffer_page_at : ℕ → ℕ → ℕ → ℕ
buffer_page_at thread index page = buffer_address thread index + PAGE_SIZE * page

-- so many pages of the buffer of a thread's view were added, from a first one on
abbrev pub SharesBuffer : TableSet → TableSet → RootKernel → Book → Book → Physical → Physical → ℕ → ℕ → ℕ → ℕ → ℕ → Type 0
SharesBuffer home server root book book' old new owner thread index page zero = (book' ≡ book) × (new ≡ old)
SharesBuffer home server root book book' old new owner thread index page (suc count) =
    (between : Book) × (mid : Physical)
    × SharesPage home server root book between old mid owner (buffer_page_at thread index page)
    × SharesBuffer home server root between book' mid new owner thread index (page + 1) count
