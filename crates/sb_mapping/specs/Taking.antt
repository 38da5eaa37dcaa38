-- A page that is taken from the frame book, filled, mapped in a process and exposed.
use Rattle.std.specs.Prelude.{ℕ, ◌≡◌, ◌+◌, ◌*◌, ◌<◌, ◌==◌, List, [], ◌∷◌, Some, get_or, if◌then◌else◌}
use Rattle.std.specs.List.{Contains}
use Rattle.sb_abi.specs.declared.space.TheConstants.{TOP_WORD}
use Rattle.sb_memory.specs.Physical.{Physical}
use Rattle.sb_memory.specs.Changes.{SameOutside}
use Rattle.sb_memory.specs.Words.{put_word}
use Rattle.sb_memory.specs.declared.address.Frame.{Frame}
use Rattle.sb_memory.specs.declared.page.TheConstants.{PAGE_SIZE}
use Rattle.sb_frames.specs.Book.{Book, with_holder, free_count}
use Rattle.sb_frames.specs.declared.kind.Kind.{Kind}
use Rattle.sb_frames.specs.declared.kind.Kind.TheVariants.{Code, Writable}
use Rattle.sb_pagewalk.specs.declared.table_set.TableSet.{TableSet}
use Rattle.sb_pagewalk.specs.TableSet.{table_frame}
use Rattle.sb_pagewalk.specs.Standing.{HasTables, IsApart as IsSetApart}
use Rattle.sb_root.specs.declared.root_kernel.RootKernel.{RootKernel}
use Rattle.sb_root.specs.Standing.{IsApart as IsRootApart, IsBooked, Stands}
use Rattle.sb_root.specs.Tables.{base_frames}
use Rattle.sb_root.specs.Calls.{IsFree}
use Rattle.sb_trace.specs.PageWords.{zeros}
use Rattle.sb_state.specs.declared.page.Mode.{Mode}
use Rattle.sb_state.specs.declared.page.Mode.TheVariants.{Fetch, Read, ReadWrite}
use Rattle.sb_shows.specs.Placement.{leaf_for, rights_for}
use Rattle.sb_shows.specs.Calls.{SetsPage, ExposesFrame}

-- zeros, with a word at the top where it is not 0
abbrev pub top_bytes : ℕ → List ℕ
top_bytes top = if top == 0 then zeros else put_word zeros TOP_WORD top

-- The tables of a process and of the root kernel stand, each in frames that are not free.
pub record CanTake (set : TableSet) (root : RootKernel) (book : Book) (memory : Physical) : Type 0 where
  pub tables : HasTables set memory
  pub stands : Stands root memory
  pub booked : IsBooked root book memory
  pub set_apart : (frame : ℕ) → IsFree book frame → IsSetApart set (frame ∷ [])
  pub root_apart : (frame : ℕ) → IsFree book frame → IsRootApart root (frame ∷ [])
  pub base_apart : (frame : ℕ) → Contains base_frames frame → IsSetApart set (frame ∷ [])
  pub table_apart : (table : ℕ) → table < 12 → IsRootApart root (table_frame set table ∷ [])

-- what the book says of the frame of a page
abbrev pub page_kind : Mode → Kind
page_kind Fetch = Code
page_kind Read = Writable
page_kind ReadWrite = Writable

-- a page of these bytes was added at an address, to be accessed so
pub record TakesPage (set : TableSet) (root : RootKernel) (book book' : Book) (old new : Physical)
    (owner at : ℕ) (mode : Mode) (bytes : List ℕ) : Type 0 where
  pub frame : Frame
  pub free : IsFree book frame.0
  pub taken : book' ≡ with_holder book frame.0 (Some (page_kind mode, owner))
  pub fewer : free_count book' + 1 ≡ free_count book
  pub filled : Physical
  pub same : SameOutside (frame.0 ∷ []) old filled
  pub held : (offset : ℕ) → offset < PAGE_SIZE
      → get_or filled.bytes (PAGE_SIZE * frame.0 + offset) 0 ≡ get_or bytes offset 0
  pub mapped : Physical
  pub set_page : SetsPage set filled mapped at (leaf_for frame.0 mode)
  pub exposed : ExposesFrame root mapped new frame.0 (rights_for mode)
