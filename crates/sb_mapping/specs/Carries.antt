-- What is kept of bytes, root kernel and frame book while a call adds pages: all that stands for a state but its fields.
use Rattle.std.specs.Prelude.{ℕ, zero, suc, ◌≡◌, ◌+◌, ◌-◌, ◌*◌, ◌%◌, ◌==◌, if◌then◌else◌}
use Rattle.sb_abi.specs.declared.space.TheConstants.{SERVER_STACKS_PAGE, STACK_PAGES}
use Rattle.sb_abi.specs.declared.trampoline.TheConstants.{EXIT_STUB}
use Rattle.sb_memory.specs.Physical.{Physical}
use Rattle.sb_memory.specs.declared.page.TheConstants.{PAGE_SIZE}
use Rattle.sb_frames.specs.Book.{Book}
use Rattle.sb_pagewalk.specs.declared.table_set.TableSet.{TableSet}
use Rattle.sb_root.specs.declared.root_kernel.RootKernel.{RootKernel}
use Rattle.sb_root.specs.Standing.{IsBooked}
use Rattle.sb_root.specs.Calls.{IsFree}
use Rattle.sb_state.specs.declared.page.PageName.{PageName}
use Rattle.sb_trace.specs.State.{State}
use Rattle.sb_shows.specs.Placement.{Placement, IsThere, Unused}
use Rattle.sb_shows.specs.Keeping.{Keeps}
use Rattle.sb_state.specs.declared.page.Mode.TheVariants.{ReadWrite}
use Rattle.sb_mapping.specs.Taking.{TakesPage, top_bytes}

-- The bytes keep a state by a placement over this root kernel, and a free frame of the book is used for nothing.
pub record Carries (placement : Placement) (root : RootKernel) (book : Book) (memory : Physical) (state : State) : Type 0 where
  pub keeps : Keeps placement state memory
  pub rooted : placement.root ≡ root
  pub booked : IsBooked root book memory
  pub unused : (frame : ℕ) → IsFree book frame → placement.purpose frame ≡ Unused

-- Each page that was there stays in its frame, and each process keeps its tables.
pub record StaysPlaced (old : Placement) (new : Placement) (state : State) : Type 0 where
  pub frames : (name : PageName) → IsThere state.pages name → new.frame name ≡ old.frame name
  pub sets : (process : ℕ) → new.sets process ≡ old.sets process

-- the word at the top of a page of a server stack: the address of the exit stub in the last of four
abbrev pub stack_top : ℕ → ℕ
stack_top page = if page % STACK_PAGES == STACK_PAGES - 1 then EXIT_STUB else 0

-- the linear address of a page of a server stack
abbrev pub stack_at : ℕ → ℕ
stack_at page = PAGE_SIZE * (SERVER_STACKS_PAGE + page)

-- the first pages of the server stacks of a process were added, one after another
abbrev pub TakesStacks : TableSet → RootKernel → Book → Book → Physical → Physical → ℕ → ℕ → Type 0
TakesStacks set root book book' old new owner zero = (book' ≡ book) × (new ≡ old)
TakesStacks set root book book' old new owner (suc count) =
    (between : Book) × (mid : Physical) × TakesStacks set root book between old mid owner count
    × TakesPage set root between book' mid new owner (stack_at count) ReadWrite
    (top_bytes (stack_top count))
