-- What is stood for is shown.
use Rattle.std.specs.Prelude.{ℕ, ◌≡◌, ◌+◌, slice_get, slice_set, ◌*◌, ◌<◌, ◌≤◌, length, None, Some}
use Rattle.sb_abi.specs.declared.space.TheConstants.{MAX_STACKS, STACK_PAGES}
use Rattle.sb_memory.specs.Physical.{Physical}
use Rattle.sb_frames.specs.Book.{Book, free_count}
use Rattle.sb_root.specs.declared.root_kernel.RootKernel.{RootKernel}
use Rattle.sb_state.specs.declared.page.Page.{Page}
use Rattle.sb_state.specs.declared.page.PageName.TheVariants.{Pool, ServerStack}
use Rattle.sb_trace.specs.State.{State, HasFewThreads, Process, find_page, process_at}
use Rattle.sb_shows.specs.Placement.{Placement}
use Rattle.sb_mapping.specs.Carries.{Carries}
use Rattle.sb_sub.specs.Registering.{FindsPool, RegistersPages, Registered, with_entry}
use Rattle.sb_trace.specs.Sound.{IsSound}
use Rattle.sb_trace.specs.SyscallRegister.{with_server}
use Rattle.sb_shows.specs.Related.{HasCores}
use Rattle.sb_shows.specs.Shows.{CoreWords, Shows}
use Rattle.sb_sub.specs.Kernel.{Entry, Kernel}
use Rattle.sb_sub.specs.StandsFor.{IsServable, StandsFor}

-- with the words of the cores, what stands for a state shows it
abbrev pub StandsShows : Type 0
StandsShows = (kernel : Kernel) (root : RootKernel) (book : Book) (memory : Physical) (state : State) (cores : ℕ → CoreWords)
    → (stands : StandsFor kernel root book memory state) → HasCores stands.placement state cores → Shows state memory cores

-- the pool page is found where a state is carried
abbrev pub CarriedFindsPool : Type 0
CarriedFindsPool = (placement : Placement) (root : RootKernel) (book : Book) (memory : Physical) (state : State)
    → Carries placement root book memory state
    → (process : ℕ) (pool : Page) → process < length state.processes → find_page state.pages (Pool process) ≡ Some pool
    → FindsPool memory (placement.sets process) root

-- what register does to bytes makes the process a server of the state, and all that was there stays where it was
abbrev pub RegistersCarried : Type 0
RegistersCarried = (placement : Placement) (root : RootKernel) (book : Book) (memory : Physical) (state : State)
    → Carries placement root book memory state
    → (process : ℕ) (pool : Page) → process < length state.processes → find_page state.pages (Pool process) ≡ Some pool
    → (handler stacks : ℕ) (book' : Book) (new : Physical) → stacks ≤ MAX_STACKS
    → ((page : ℕ) → find_page state.pages (ServerStack process page) ≡ None)
    → RegistersPages (placement.sets process) root book book' memory new process stacks
    → Registered placement root book' new state process handler stacks

-- A sound state of few threads is servable.
abbrev pub SoundStatesServable : Type 0
SoundStatesServable = (state : State) → IsSound state → HasFewThreads state → IsServable state

-- Register of a process that is no server keeps a state servable, with the same images.
abbrev pub ServersServable : Type 0
ServersServable = (state : State) (process handler stacks : ℕ) (one : Process)
    → process_at state process ≡ Some one
    → one.registration ≡ None → (servable : IsServable state)
    → (after : IsServable (with_server state process handler stacks)) × (after.table.images ≡ servable.table.images)

-- What register does to bytes, and the registration of the process: the state with the server is stood for.
abbrev pub ServersStand : Type 0
ServersStand = (kernel : Kernel) (root : RootKernel) (book : Book) (memory : Physical) (state : State)
    → StandsFor kernel root book memory state
    → (process : ℕ) (entry : Entry) → slice_get kernel.processes process ≡ Some entry → entry.process.registration ≡ None
    → (handler stacks : ℕ) (book' : Book) (new : Physical) → stacks ≤ MAX_STACKS
    → RegistersPages entry.set root book book' memory new process stacks
    → free_count book' + STACK_PAGES * stacks ≡ free_count book
    → StandsFor (record kernel { processes = slice_set kernel.processes process (with_entry entry handler stacks) }) root book'
    new (with_server state process handler stacks)
