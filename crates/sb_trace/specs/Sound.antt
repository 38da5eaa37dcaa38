-- What holds in each state of a run (docs/LAWS.md): it holds at the start, and each step keeps it.
use Rattle.std.specs.Prelude.{◌≡◌, ◌≢◌, ℕ, ◌%◌, ◌^◌, ◌<◌, ◌≤◌, Bool, true, false, List, [], ◌∷◌, length, Option, Some, None}
use Rattle.std.specs.List.{AllByRecursion, Contains}
use Rattle.sb_abi.specs.declared.space.TheConstants.{WINDOW_PAGES, WINDOW_THREADS, MAX_PROCESSES, MAX_BINDINGS, MAX_STACKS}
use Rattle.sb_abi.specs.declared.trampoline.TheConstants.{VMFUNC_ADDRESS, COMPARE_KEY, BRANCH_ON_KEY, LOAD_POOL, TEST_MASK, BRANCH_ON_POOL, LESS_ONE, DROP_BIT, FIND_STACK, EXCHANGE_POOL, BRANCH_ON_EXCHANGE, STACK_OFFSET, LOAD_BASE, ADD_OFFSET, CLEAR_OFFSET, CLEAR_INDEX, CLEAR_MASK, ENTER, STATUS_WRONG_KEY, SKIP, STATUS_POOL_EMPTY, LEAVE, HOME_INDEX, HOME_LEAF, JUMP_BACK, GO_HOME}
use Rattle.sb_memory.specs.declared.page.TheConstants.{PAGE_SIZE}
use Rattle.sb_tramp.specs.declared.record_words.RecordWords.{RecordWords}
use Rattle.sb_tramp.specs.Home.{home_page}
use Rattle.sb_tramp.specs.Server.{server_page}
use Rattle.sb_exec.specs.Words.{AreWords}
use Rattle.sb_state.specs.declared.end_kind.EndKind.TheVariants.{Running}
use Rattle.sb_state.specs.declared.page.PageName.{PageName}
use Rattle.sb_state.specs.declared.page.PageName.TheVariants.{Text, Area, Data, Heap, Pool, ServerStack, Save, Stack, Buffer, Record, Scratch, HomeTrampoline, ServerTrampoline}
use Rattle.sb_state.specs.declared.page.Page.{Page}
use Rattle.sb_state.specs.declared.state.Binding.{Binding}
use Rattle.sb_state.specs.declared.state.Decision.{Decision}
use Rattle.sb_state.specs.declared.state.Decision.TheVariants as decision
use Rattle.sb_state.specs.declared.state.Flight.{Flight}
use Rattle.sb_state.specs.declared.state.Registration.{Registration}
use Rattle.sb_state.specs.declared.state.Thread.{Thread}
use Rattle.sb_state.specs.State.{State, Process, find_page, thread_at, flight_at, registration_at, is_listed}
use Rattle.sb_state.specs.Windows.{process_of_view, process_shown}
use Rattle.sb_state.specs.Registers.{eax, ecx, rsi}
use Rattle.sb_state.specs.Start.{record_bytes, home_words}
use Rattle.sb_trace.specs.KernelCall.{binding_with, handler_in}
use Rattle.sb_trace.specs.SyscallBind.{server_words}
use Rattle.sb_trace.specs.Code.{code_byte, HasNoCodePattern}
use Rattle.sb_trace.specs.Table.{ArePagesOfTable}

-- ---- pages

-- a page of this name is there, with these bytes
abbrev pub HasPage : List Page → PageName → List ℕ → Type 0
HasPage pages name bytes = (page : Page) × (find_page pages name ≡ Some page) × (page.bytes ≡ bytes)

-- whether a page holds instructions for as long as it is there: it can be fetched, and never loaded
unfoldable pub is_code_name : PageName → Bool
is_code_name (Text process page) = true
is_code_name (Area process page) = true
is_code_name HomeTrampoline = true
is_code_name ServerTrampoline = true
is_code_name (Data process page) = false
is_code_name (Heap process page) = false
is_code_name (Pool process) = false
is_code_name (ServerStack process page) = false
is_code_name (Save thread) = false
is_code_name (Stack thread page) = false
is_code_name (Buffer thread index page) = false
is_code_name (Record thread view) = false
is_code_name (Scratch thread view) = false

-- Each page has 4,096 bytes, the trampoline stands, and VMFUNC's bytes stand in no text, rewrite area or executable heap.
pub record ArePagesSound (pages : List Page) : Type 0 where
  pub sizes : (name : PageName) (page : Page) → find_page pages name ≡ Some page → length page.bytes ≡ PAGE_SIZE
  -- what can be loaded is a byte
  pub bytes : (name : PageName) (page : Page) → is_code_name name ≡ false → find_page pages name ≡ Some page
      → AllByRecursion (λ byte. byte < 256) page.bytes
  pub home : HasPage pages HomeTrampoline home_page
  pub server : HasPage pages ServerTrampoline server_page
  pub text : (process : ℕ) → HasNoCodePattern (code_byte pages (Text process))
  pub area : (process : ℕ) → HasNoCodePattern (code_byte pages (Area process))
  pub heap : (process : ℕ) → HasNoCodePattern (code_byte pages (Heap process))

-- what the record page of a thread's view says: of the home view, or of that of a binding
abbrev pub words_of_view : State → ℕ → Thread → Option Binding → RecordWords
words_of_view state number thread None = home_words number thread.home
words_of_view state number thread (Some binding) =
    server_words number thread binding (handler_in (registration_at state binding.server))

-- the record page of each view of each thread has its words
abbrev pub HaveRecords : State → Type 0
HaveRecords state =
    (number view process : ℕ) → process_shown state.threads number view ≡ Some process
    → HasPage state.pages (Record number view)
    (record_bytes (words_of_view state number (thread_at state number) (binding_with (thread_at state number).bindings view)))

-- ---- processes

-- what a process told as a server: a handler, where an instruction of its text starts, and one to sixteen stacks
pub record IsRegistrationSound (process : Process) (registration : Registration) : Type 0 where
  pub listed : is_listed process.map.starts registration.handler ≡ true
  pub some : 1 ≤ registration.stacks
  pub few : registration.stacks ≤ MAX_STACKS

-- the starts of instructions are words, and the heap is within its window
pub record IsProcessSound (process : Process) : Type 0 where
  pub starts : AllByRecursion (λ start. start < 2 ^ 64) process.map.starts
  pub heap : process.heap_pages ≤ WINDOW_PAGES
  pub registration : (registration : Registration) → process.registration ≡ Some registration
      → IsRegistrationSound process registration

-- ---- threads

-- the view of the thread is its home view or that of a binding
abbrev pub HasView : Thread → Type 0
HasView thread = (process : ℕ) × (process_of_view thread.view thread ≡ Some process)

-- A binding has an index from 1 to 15, and its server is a registered process other than the thread's home.
pub record IsBindingSound (state : State) (thread : Thread) (binding : Binding) : Type 0 where
  pub least : 1 ≤ binding.index
  pub most : binding.index ≤ MAX_BINDINGS
  pub key : binding.key < 2 ^ 64
  pub away : binding.server ≢ thread.home
  pub registration : Registration
  pub registered : registration_at state binding.server ≡ Some registration

-- no two bindings have one index
abbrev pub HaveOwnIndices : List Binding → Type 0
HaveOwnIndices [] = Unit {0}
HaveOwnIndices (binding ∷ bindings) = (binding_with bindings binding.index ≡ None) × HaveOwnIndices bindings

-- The thread's home is one of the processes, its registers are words, and its bindings are sound and have indices of their own.
pub record IsThreadSound (state : State) (thread : Thread) : Type 0 where
  pub home : thread.home < length state.processes
  pub words : AreWords thread.regs
  pub each : (index : ℕ) (binding : Binding) → binding_with thread.bindings index ≡ Some binding
      → IsBindingSound state thread binding
  pub own : HaveOwnIndices thread.bindings

-- ---- flights

-- the thread stands at the VMFUNC, with leaf 0 and this index
pub record StandsAtSwitch (thread : Thread) (index : ℕ) : Type 0 where
  pub address : thread.regs.rip % 2 ^ 64 ≡ VMFUNC_ADDRESS
  pub leaf : eax thread.regs ≡ 0
  pub names : ecx thread.regs ≡ index

-- the phases of a refused call on its way home
abbrev pub phases_home : List ℕ
phases_home = LEAVE ∷ HOME_INDEX ∷ HOME_LEAF ∷ JUMP_BACK ∷ GO_HOME ∷ []

-- the phases that a flight comes to, in their order, by its decision
abbrev pub phases_of : Option Decision → List ℕ
phases_of None =
    COMPARE_KEY ∷ BRANCH_ON_KEY ∷ LOAD_POOL ∷ TEST_MASK ∷ BRANCH_ON_POOL ∷ LESS_ONE ∷ DROP_BIT ∷ FIND_STACK ∷ EXCHANGE_POOL
    ∷ BRANCH_ON_EXCHANGE ∷ []
phases_of (Some decision.WrongKey) = BRANCH_ON_KEY ∷ STATUS_WRONG_KEY ∷ SKIP ∷ phases_home
phases_of (Some decision.PoolEmpty) = TEST_MASK ∷ BRANCH_ON_POOL ∷ STATUS_POOL_EMPTY ∷ phases_home
phases_of (Some decision.Entered) =
    BRANCH_ON_EXCHANGE ∷ STACK_OFFSET ∷ LOAD_BASE ∷ ADD_OFFSET ∷ CLEAR_OFFSET ∷ CLEAR_INDEX ∷ CLEAR_MASK ∷ ENTER ∷ []

-- the mask is 0 where no stack was free, and else not, once it was loaded
abbrev pub IsMask : Option Decision → ℕ → ℕ → Type 0
IsMask None phase mask = TEST_MASK ≤ phase → mask ≢ 0
IsMask (Some decision.WrongKey) phase mask = Unit {0}
IsMask (Some decision.PoolEmpty) phase mask = mask ≡ 0
IsMask (Some decision.Entered) phase mask = mask ≢ 0

-- Before the decision the thread stands at the VMFUNC, and the comparison found the key of the binding. An entry leaves it in
-- the view of the binding, a refusal at home.
abbrev pub IsThreadOfFlight : Option Decision → Thread → Flight → Binding → Type 0
IsThreadOfFlight None thread flight binding =
    StandsAtSwitch thread flight.index × (flight.phase ≢ COMPARE_KEY → rsi thread.regs ≡ binding.key)
IsThreadOfFlight (Some decision.Entered) thread flight binding = thread.view ≡ flight.index
IsThreadOfFlight (Some decision.WrongKey) thread flight binding = thread.view ≡ 0
IsThreadOfFlight (Some decision.PoolEmpty) thread flight binding = thread.view ≡ 0

-- A thread in flight is running, the flight's index is that of a binding, also after the decision, and its phase is one of its
-- decision.
pub record IsInFlight (thread : Thread) (flight : Flight) : Type 0 where
  pub running : thread.state ≡ Running
  pub binding : Binding
  pub bound : binding_with thread.bindings flight.index ≡ Some binding
  pub phase : Contains (phases_of flight.decided) flight.phase
  pub word : flight.mask < 2 ^ 64
  pub mask : IsMask flight.decided flight.phase flight.mask
  pub stage : IsThreadOfFlight flight.decided thread flight binding

abbrev pub IsFlightSound : Thread → Option Flight → Type 0
IsFlightSound thread None = Unit {0}
IsFlightSound thread (Some flight) = IsInFlight thread flight

-- ---- the state

pub record IsSound (state : State) : Type 0 where
  pub pages : ArePagesSound state.pages
  pub table : ArePagesOfTable state
  pub records : HaveRecords state
  pub process_count : length state.processes ≤ MAX_PROCESSES
  pub processes : AllByRecursion IsProcessSound state.processes
  pub few : length state.threads ≤ WINDOW_THREADS
  pub threads : AllByRecursion (IsThreadSound state) state.threads
  pub views : (number : ℕ) → HasView (thread_at state number)
  -- a flight, or none, for each thread
  pub places : length state.flights ≡ length state.threads
  pub flights : (number : ℕ) → IsFlightSound (thread_at state number) (flight_at state number)
  pub keys : AllByRecursion (λ key. key < 2 ^ 64) state.keys
