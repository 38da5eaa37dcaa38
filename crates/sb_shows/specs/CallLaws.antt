-- The laws of calls of a kernel: what is kept before a call is kept after it.
use Rattle.std.specs.Prelude.{ℕ, ◌≡◌, ◌≢◌, ◌+◌, ◌-◌, ◌*◌, ◌^◌, ◌<◌, ◌≤◌, Bool, Some, None, List, [], ◌∷◌, ◌++◌, length, slice_get}
use Rattle.sb_abi.specs.declared.space.TheConstants.{WINDOW_PAGES, HEAP_ADDRESS, MAX_STACKS, STACK_PAGES, BUFFER_PAGES}
use Rattle.sb_memory.specs.Physical.{Physical}
use Rattle.sb_memory.specs.declared.page.TheConstants.{PAGE_SIZE}
use Rattle.sb_memory.specs.Reading.{with_bytes}
use Rattle.sb_memory.specs.Words.{put_word}
use Rattle.sb_root.specs.declared.root_kernel.RootKernel.{RootKernel}
use Rattle.sb_root.specs.Root.{IsLowestFree}
use Rattle.sb_state.specs.declared.page.Page.{Page}
use Rattle.sb_state.specs.declared.page.PageName.{PageName}
use Rattle.sb_state.specs.declared.page.PageName.TheVariants.{Buffer, Heap, Pool, Record, Scratch, ServerStack}
use Rattle.sb_state.specs.declared.state.Binding.{Binding}
use Rattle.sb_state.specs.declared.state.Thread.{Thread}
use Rattle.sb_state.specs.Bindings.{free_index}
use Rattle.sb_trace.specs.KernelCall.{handler_in}
use Rattle.sb_trace.specs.PageName.{mode_of}
use Rattle.sb_trace.specs.State.{State, find_page, process_at, registration_at}
use Rattle.sb_trace.specs.Start.{pages_from}
use Rattle.sb_trace.specs.SyscallBind.{buffer_page, server_words, with_binding}
use Rattle.sb_trace.specs.SyscallRegister.{server_stack_page, with_server}
use Rattle.sb_trace.specs.SyscallProtect.{heap_count, with_heap_mode}
use Rattle.sb_trace.specs.Sound.{IsSound}
use Rattle.sb_shows.specs.Calls.{SetsPage, ExposesFrame, AddsPages, placed_all, AreNewPages, RemovesPages, placed_without_all, without_pages, AreGoingPages}
use Rattle.sb_shows.specs.Threads.{SameSight}
use Rattle.sb_shows.specs.Placement.{Placement, IsThere, leaf_for, rights_for}
use Rattle.sb_shows.specs.Keeping.{Keeps}
use Rattle.sb_shows.specs.InPlace.{KeepsFrames, KeepsInPlace, KeepsRest}
use Rattle.sb_shows.specs.Views.{AddsRootView, placed_view, ClearsEntry, placed_on, without_view}

-- what the tables do not show may change: registers, present views, flights, registrations, free frames and key words
abbrev pub MovesKeep : Type 0
MovesKeep = (placement : Placement) (old new : State) (memory : Physical) → SameSight old new → Keeps placement old memory
    → Keeps placement new memory

-- protect: one lowest entry is set, and one frame exposed with other rights; all frames stay
abbrev pub ProtectsKeep : Type 0
ProtectsKeep =
    (placement : Placement) (state : State) (memory mid new : Physical) (process page : ℕ) (executable : Bool)
    → Keeps placement state memory
    → process < length state.processes → page < WINDOW_PAGES → IsThere state.pages (Heap process page)
    → SetsPage (placement.sets process) memory mid (HEAP_ADDRESS + PAGE_SIZE * page)
    (leaf_for (placement.frame (Heap process page)) (mode_of (Heap process page) executable))
    → ExposesFrame placement.root mid new (placement.frame (Heap process page))
    (rights_for (mode_of (Heap process page) executable))
    → KeepsFrames placement state (with_heap_mode state process page executable) memory new

-- protect of a page of a heap, where the state is sound
abbrev pub SoundProtectsKeep : Type 0
SoundProtectsKeep =
    (placement : Placement) (state : State) (memory mid new : Physical) (process page : ℕ) (executable : Bool)
    → IsSound state → Keeps placement state memory → page < heap_count (process_at state process)
    → SetsPage (placement.sets process) memory mid (HEAP_ADDRESS + PAGE_SIZE * page)
    (leaf_for (placement.frame (Heap process page)) (mode_of (Heap process page) executable))
    → ExposesFrame placement.root mid new (placement.frame (Heap process page))
    (rights_for (mode_of (Heap process page) executable))
    → KeepsFrames placement state (with_heap_mode state process page executable) memory new

-- Pages are added one after another, in frames that were not used. What was there stays in its place.
abbrev pub PagesKeep : Type 0
PagesKeep =
    (placement : Placement) (state : State) (memory new : Physical) (processes : List ℕ) (pages : List Page)
    → Keeps placement state memory
    → AreNewPages state.threads (length state.processes) state.pages processes pages
    → (adds : AddsPages placement processes pages memory new)
    → KeepsInPlace placement (placed_all placement processes pages memory new adds) state
    (record state { pages = state.pages ++ pages }) memory new

-- Pages that are no view's own are taken away one after another: their entries are cleared in each process that shows them, and
-- their frames become unused. The rest is kept.
abbrev pub RemovalsKeep : Type 0
RemovalsKeep =
    (placement : Placement) (state : State) (memory new : Physical) (processes : List ℕ) (names : List PageName)
    → Keeps placement state memory
    → AreGoingPages state.threads (length state.processes) state.pages processes names
    → RemovesPages placement processes names memory new
    → KeepsRest placement (placed_without_all placement names) state
    (record state { pages = without_pages state.pages names }) memory new

-- the pages of the stacks of a server
abbrev pub pages_of_stacks : ℕ → ℕ → List Page
pages_of_stacks process stacks = pages_from (server_stack_page process) 0 (STACK_PAGES * stacks)

-- register: the pool word is put, and the pages of the stacks are added; what was there stays in its place
abbrev pub RegistersKeep : Type 0
RegistersKeep =
    (placement : Placement) (state : State) (memory mid new : Physical) (process handler stacks : ℕ) (pool : Page)
    → Keeps placement state memory → process < length state.processes → stacks ≤ MAX_STACKS
    → find_page state.pages (Pool process) ≡ Some pool
    → ((page : ℕ) → find_page state.pages (ServerStack process page) ≡ None)
    → mid ≡ with_bytes memory (put_word memory.bytes (PAGE_SIZE * placement.frame (Pool process) + 0) (2 ^ stacks - 1))
    → (adds : AddsPages placement (process ∷ []) (pages_of_stacks process stacks) mid new)
    → KeepsInPlace placement (placed_all placement (process ∷ []) (pages_of_stacks process stacks) mid new adds) state
    (with_server state process handler stacks) memory new

-- register of a process that is no server, where the state is sound
abbrev pub SoundRegistersKeep : Type 0
SoundRegistersKeep =
    (placement : Placement) (state : State) (memory mid new : Physical) (process handler stacks : ℕ)
    → IsSound state → Keeps placement state memory → process < length state.processes
    → registration_at state process ≡ None → stacks ≤ MAX_STACKS
    → mid ≡ with_bytes memory (put_word memory.bytes (PAGE_SIZE * placement.frame (Pool process) + 0) (2 ^ stacks - 1))
    → (adds : AddsPages placement (process ∷ []) (pages_of_stacks process stacks) mid new)
    → KeepsInPlace placement (placed_all placement (process ∷ []) (pages_of_stacks process stacks) mid new adds) state
    (with_server state process handler stacks) memory new

-- A view of a server goes, whose buffer is not there: its entry is cleared in the list of the thread. The rest is kept.
abbrev pub ViewRemovalsKeep : Type 0
ViewRemovalsKeep =
    (placement : Placement) (state : State) (memory new : Physical) (root : RootKernel) (number index : ℕ) (thread : Thread)
    → Keeps placement state memory → slice_get state.threads number ≡ Some thread → index ≢ 0
    → ((page : ℕ) → find_page state.pages (Buffer number index page) ≡ None)
    → ClearsEntry placement root number index memory new
    → KeepsRest placement (placed_on placement root) state (without_view state number thread index) memory new

-- ---- bind

-- the index that the root kernel gives a view is the lowest from 1 to 15 that no binding of the thread has
abbrev pub FreeIndicesAgree : Type 0
FreeIndicesAgree =
    (placement : Placement) (state : State) (memory : Physical) (number index : ℕ) (thread : Thread)
    → Keeps placement state memory → slice_get state.threads number ≡ Some thread → IsLowestFree placement.root number index
    → free_index thread.bindings ≡ index

-- the pages of the buffer of a binding
abbrev pub pages_of_buffer : ℕ → ℕ → List Page
pages_of_buffer thread index = pages_from (buffer_page thread index) 0 BUFFER_PAGES

-- bind: a view of the server is added, and then the pages of its buffer; what was there stays in its place
abbrev pub BindsKeep : Type 0
BindsKeep =
    (placement : Placement) (state : State) (memory mid new : Physical) (root : RootKernel) (number : ℕ) (thread : Thread)
    (binding : Binding)
    → Keeps placement state memory → slice_get state.threads number ≡ Some thread → binding.server < length state.processes
    → find_page state.pages (Record number binding.index) ≡ None
    → find_page state.pages (Scratch number binding.index) ≡ None
    → ((page : ℕ) → find_page state.pages (Buffer number binding.index page) ≡ None)
    → (view : AddsRootView placement root number binding.index thread.home binding.server
    (server_words number thread binding (handler_in (registration_at state binding.server))) memory mid)
    → (adds : AddsPages (placed_view placement root number binding.index view.view) (thread.home ∷ binding.server ∷ [])
    (pages_of_buffer number binding.index) mid new)
    → KeepsInPlace placement
    (placed_all (placed_view placement root number binding.index view.view) (thread.home ∷ binding.server ∷ [])
    (pages_of_buffer number binding.index) mid new adds) state (with_binding state number thread binding) memory new

-- bind of a thread, where the state is sound
abbrev pub SoundBindsKeep : Type 0
SoundBindsKeep =
    (placement : Placement) (state : State) (memory mid new : Physical) (root : RootKernel) (number : ℕ) (thread : Thread)
    (binding : Binding)
    → IsSound state → Keeps placement state memory → slice_get state.threads number ≡ Some thread
    → binding.server < length state.processes
    → (view : AddsRootView placement root number binding.index thread.home binding.server
    (server_words number thread binding (handler_in (registration_at state binding.server))) memory mid)
    → (adds : AddsPages (placed_view placement root number binding.index view.view) (thread.home ∷ binding.server ∷ [])
    (pages_of_buffer number binding.index) mid new)
    → KeepsInPlace placement
    (placed_all (placed_view placement root number binding.index view.view) (thread.home ∷ binding.server ∷ [])
    (pages_of_buffer number binding.index) mid new adds) state (with_binding state number thread binding) memory new
