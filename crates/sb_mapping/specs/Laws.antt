-- A state that is carried, before a page is taken and afterwards.
use Rattle.std.specs.Prelude.{ℕ, ◌*◌, ◌<◌, false, List, [], ◌∷◌, ◌++◌, length}
use Rattle.sb_memory.specs.Physical.{Physical}
use Rattle.sb_memory.specs.declared.page.TheConstants.{PAGE_SIZE}
use Rattle.sb_frames.specs.Book.{Book}
use Rattle.sb_root.specs.declared.root_kernel.RootKernel.{RootKernel}
use Rattle.sb_state.specs.declared.page.PageName.{PageName}
use Rattle.sb_trace.specs.PageName.{mode_of}
use Rattle.sb_trace.specs.State.{State, page_with}
use Rattle.sb_shows.specs.Calls.{IsNewPage, placed_with}
use Rattle.sb_shows.specs.Placement.{Placement}
use Rattle.sb_shows.specs.Windows.{page_number}
use Rattle.sb_mapping.specs.Carries.{Carries}
use Rattle.sb_mapping.specs.Taking.{CanTake, TakesPage}

-- code may take frames for pages of a process of a state that is carried
abbrev pub CarriedCanTake : Type 0
CarriedCanTake = (placement : Placement) (root : RootKernel) (book : Book) (memory : Physical) (state : State)
    → Carries placement root book memory state
    → (process : ℕ) → process < length state.processes → CanTake (placement.sets process) root book memory

-- a page that was taken, filled, mapped and exposed is a page of the state, and all others stay where they were
abbrev pub PagesCarried : Type 0
PagesCarried = (placement : Placement) (root : RootKernel) (book : Book) (memory : Physical) (state : State)
    → Carries placement root book memory state
    → (process : ℕ) → process < length state.processes
    → (name : PageName) (owner : ℕ) (bytes : List ℕ) (book' : Book) (new : Physical)
    → (takes : TakesPage (placement.sets process) root book book' memory new owner (PAGE_SIZE * page_number name)
    (mode_of name false) bytes)
    → IsNewPage state.threads (length state.processes) state.pages (process ∷ []) (page_with name bytes)
    → Carries (placed_with placement name takes.frame.0) root book' new
    (record state { pages = state.pages ++ page_with name bytes ∷ [] })
