-- The pages of a process and of a thread at a start: what is added, one after another, in the tables of one process.
use Rattle.std.specs.Prelude.{ℕ, ◌≡◌, ◌+◌, ◌*◌, ◌<◌, List, [], ◌∷◌, length, take, drop}
use Rattle.sb_abi.specs.declared.frames.TheConstants.{KEPT_FRAMES}
use Rattle.sb_abi.specs.declared.space.TheConstants.{TEXT_PAGE, AREA_PAGE, DATA_PAGE, WINDOW_PAGES, AREA_PAGES, HEAP_ADDRESS}
use Rattle.sb_memory.specs.Physical.{Physical}
use Rattle.sb_memory.specs.declared.page.TheConstants.{PAGE_SIZE}
use Rattle.sb_frames.specs.Book.{Book}
use Rattle.sb_pagewalk.specs.declared.table_set.TableSet.{TableSet}
use Rattle.sb_root.specs.declared.root_kernel.RootKernel.{RootKernel}
use Rattle.sb_root.specs.Calls.{IsFree}
use Rattle.sb_state.specs.declared.page.Mode.{Mode}
use Rattle.sb_state.specs.declared.page.Mode.TheVariants.{Fetch, ReadWrite}
use Rattle.sb_state.specs.declared.page.Page.{Page}
use Rattle.sb_state.specs.declared.page.PageName.{PageName}
use Rattle.sb_state.specs.declared.page.PageName.TheVariants as name
use Rattle.sb_state.specs.Start.{ProcessImage, page_count}
use Rattle.sb_shows.specs.Placement.{Placement, Unused}
use Rattle.sb_shows.specs.Calls.{AddsPages, placed_all}
use Rattle.sb_mapping.specs.declared.pages.ImagePart.{ImagePart}
use Rattle.sb_mapping.specs.declared.pages.ImagePart.TheVariants.{Text, Area, Data}

-- ---- the parts of a process that have bytes at the start

-- the name of a page of a part of a process
abbrev pub part_name : ImagePart → ℕ → ℕ → PageName
part_name Text process = name.Text process
part_name Area process = name.Area process
part_name Data process = name.Data process

-- what stands behind a part in its last page
abbrev pub part_filler : ImagePart → ℕ
part_filler Text = 0xCC
part_filler Area = 0xCC
part_filler Data = 0

-- how a part is accessed
abbrev pub part_mode : ImagePart → Mode
part_mode Text = Fetch
part_mode Area = Fetch
part_mode Data = ReadWrite

-- the number of the first page of a part
abbrev pub first_page_of : ImagePart → ℕ
first_page_of Text = TEXT_PAGE
first_page_of Area = AREA_PAGE
first_page_of Data = DATA_PAGE

-- the linear address of a page of a part
abbrev pub part_at : ImagePart → ℕ → ℕ
part_at part page = PAGE_SIZE * (first_page_of part + page)

-- how many pages a part has at most
abbrev pub part_pages : ImagePart → ℕ
part_pages Text = WINDOW_PAGES
part_pages Area = AREA_PAGES
part_pages Data = WINDOW_PAGES

-- the bytes of one page, of bytes that go over several
abbrev pub page_bytes : List ℕ → ℕ → List ℕ
page_bytes bytes page = take PAGE_SIZE (drop (PAGE_SIZE * page) bytes)

-- the linear address of a heap page
abbrev pub heap_at : ℕ → ℕ
heap_at page = HEAP_ADDRESS + PAGE_SIZE * page

-- the frames that the pages of a process of an image take
abbrev pub pages_need : ProcessImage → ℕ
pages_need image =
    page_count (length image.text) + page_count (length image.area) + page_count (length image.initial) + image.heap_pages + 1

-- ---- pages that are added

-- A placement is over a root kernel and a frame book: it has this root kernel, and what is free in the book is used for nothing.
pub record IsOver (placement : Placement) (root : RootKernel) (book : Book) : Type 0 where
  pub rooted : placement.root ≡ root
  pub unused : (frame : ℕ) → IsFree book frame → placement.purpose frame ≡ Unused

-- Pages are added to a placement in the tables of a process. Other processes keep their tables, and frames that the kernels keep
-- their uses.
pub record AddedPages (placement : Placement) (process : ℕ) (pages : List Page) (root : RootKernel) (book : Book)
    (old new : Physical) : Type 0 where
  pub adds : AddsPages placement (process ∷ []) pages old new
  pub over : IsOver (placed_all placement (process ∷ []) pages old new adds) root book
  pub sets : (one : ℕ) → (placed_all placement (process ∷ []) pages old new adds).sets one ≡ placement.sets one
  pub low : (frame : ℕ) → frame < KEPT_FRAMES
      → (placed_all placement (process ∷ []) pages old new adds).purpose frame ≡ placement.purpose frame

-- so it is for each placement over the root kernel and the book, in which these are the tables of the process
abbrev pub AddsAll : TableSet → RootKernel → ℕ → List Page → Book → Book → Physical → Physical → Type 0
AddsAll set root process pages book book' old new =
    (placement : Placement) → IsOver placement root book → placement.sets process ≡ set
    → AddedPages placement process pages root book' old new
