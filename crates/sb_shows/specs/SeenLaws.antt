-- The laws of who sees the pages that are added and taken away.
use Rattle.std.specs.Prelude.{ℕ, ◌≡◌, ◌<◌, List, [], ◌∷◌, Some}
use Rattle.sb_abi.specs.declared.space.TheConstants.{AREA_PAGES, WINDOW_PAGES, WINDOW_THREADS, MAX_THREADS, MAX_VIEWS, STACK_PAGES, BUFFER_PAGES}
use Rattle.sb_state.specs.declared.page.PageName.{PageName}
use Rattle.sb_state.specs.declared.page.PageName.TheVariants.{Text, Area, Data, Heap, Pool, ServerStack, Save, Stack, Buffer, Record, Scratch, HomeTrampoline, ServerTrampoline}
use Rattle.sb_state.specs.declared.state.Thread.{Thread}
use Rattle.sb_trace.specs.Windows.{process_shown}
use Rattle.sb_shows.specs.Calls.{IsSeenIn}

-- the name of a page of a process, within its window
abbrev pub IsPageOf : ℕ → PageName → Type 0
IsPageOf process (Text owner page) = (owner ≡ process) × (page < WINDOW_PAGES)
IsPageOf process (Area owner page) = (owner ≡ process) × (page < AREA_PAGES)
IsPageOf process (Data owner page) = (owner ≡ process) × (page < WINDOW_PAGES)
IsPageOf process (Heap owner page) = (owner ≡ process) × (page < WINDOW_PAGES)
IsPageOf process (ServerStack owner page) = (owner ≡ process) × (page < WINDOW_PAGES)
IsPageOf process (Pool owner) = owner ≡ process
IsPageOf process (Save thread) = ⊥
IsPageOf process (Stack thread page) = ⊥
IsPageOf process (Buffer thread index page) = ⊥
IsPageOf process (Record thread view) = ⊥
IsPageOf process (Scratch thread view) = ⊥
IsPageOf process HomeTrampoline = ⊥
IsPageOf process ServerTrampoline = ⊥

-- a page of a process is seen in that process alone
abbrev pub ProcessesSeeTheirPages : Type 0
ProcessesSeeTheirPages =
    (threads : List Thread) (count process : ℕ) (name : PageName) → process < count → IsPageOf process name
    → IsSeenIn threads count name (process ∷ [])

-- the save page of a thread is seen in its home alone
abbrev pub HomesSeeSavePages : Type 0
HomesSeeSavePages =
    (threads : List Thread) (count thread home : ℕ) → thread < WINDOW_THREADS → process_shown threads thread 0 ≡ Some home
    → home < count → IsSeenIn threads count (Save thread) (home ∷ [])

-- and so is its stack
abbrev pub HomesSeeStacks : Type 0
HomesSeeStacks =
    (threads : List Thread) (count thread home page : ℕ) → thread < WINDOW_THREADS → process_shown threads thread 0 ≡ Some home
    → home < count → page < STACK_PAGES → IsSeenIn threads count (Stack thread page) (home ∷ [])

-- the buffer of a binding is seen in the thread's home and in the server alone
abbrev pub HomesAndServersSeeBuffers : Type 0
HomesAndServersSeeBuffers =
    (threads : List Thread) (count thread index home server page : ℕ) → thread < MAX_THREADS → index < MAX_VIEWS
    → process_shown threads thread 0 ≡ Some home → process_shown threads thread index ≡ Some server
    → home < count → server < count → page < BUFFER_PAGES
    → IsSeenIn threads count (Buffer thread index page) (home ∷ server ∷ [])
