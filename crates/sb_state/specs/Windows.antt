-- Which page a thread sees at each linear address (docs/FORMATS.md, "The memory of a thread").
use Rattle.std.specs.Prelude.{ℕ, ◌+◌, ◌-◌, ◌/◌, ◌%◌, ◌==◌, ◌&&◌, ◌||◌, Bool, false, nat_lt, nat_le, List, Option, Some, None, slice_get, unwrap_or, if◌then◌else◌}
use Rattle.std.specs.Option.{option_map, option_and_then}
use Rattle.sb_abi.specs.declared.space.TheConstants.{WINDOW_PAGES, BUFFERS_WINDOW_PAGES, AREA_PAGE, AREA_PAGES, TEXT_PAGE, DATA_PAGE, HEAP_PAGE, BUFFERS_PAGE, STACKS_PAGE, SERVER_STACKS_PAGE, THREAD_PAGES, STACK_PAGES, BUFFERS_DISTANCE_PAGES, BUFFER_PAGES, BUFFERS_PER_THREAD}
use Rattle.sb_abi.specs.declared.trampoline.TheConstants.{TRAMPOLINE_PAGE, RECORD_PAGE, SCRATCH_PAGE, POOL_PAGE}
use Rattle.sb_pages.specs.declared.page.PageName.{PageName}
use Rattle.sb_pages.specs.declared.page.PageName.TheVariants.{Text, Area, Data, Heap, Pool, ServerStack, Save, Stack, Buffer, Record, Scratch, HomeTrampoline, ServerTrampoline}
use Rattle.sb_pages.specs.PageName.{mode_of}
use Rattle.sb_pages.specs.declared.page.Page.{Page}
use Rattle.sb_pages.specs.declared.page.SeenPage.{SeenPage}
use Rattle.sb_state.specs.declared.state.Thread.{Thread}
use Rattle.sb_state.specs.declared.state.Binding.{Binding}
use Rattle.sb_pages.specs.PageLists.{find_page}
use Rattle.sb_state.specs.State.{State}
use Rattle.sb_state.specs.Bindings.{binding_with}

-- ---- the process that a view shows

-- the server of the binding with this index
abbrev pub server_of : List Binding → ℕ → Option ℕ
server_of bindings index = option_map (λ (binding : Binding). binding.server) (binding_with bindings index)

-- view 0 shows a thread's home, each other view the server of that binding
abbrev pub process_of_view : ℕ → Thread → Option ℕ
process_of_view view thread = if view == 0 then Some thread.home else server_of thread.bindings view

-- the process that a thread's present view shows: each view of a thread is its home or a binding
abbrev pub process_now : Thread → ℕ
process_now thread = unwrap_or (process_of_view thread.view thread) thread.home

unfoldable pub process_shown : List Thread → ℕ → ℕ → Option ℕ
process_shown threads thread view = option_and_then (process_of_view view) (slice_get threads thread)

abbrev pub is_process : Option ℕ → ℕ → Bool
is_process None process = false
is_process (Some one) process = one == process

-- ---- the windows: page numbers are linear addresses without their lowest twelve bits

-- a name, where a condition holds
abbrev pub name_if : Bool → PageName → Option PageName
name_if test name = if test then Some name else None

-- a page number in the window of 512 pages, which are 2 MiB, from a first one
abbrev pub is_within : ℕ → ℕ → Bool
is_within first page = nat_le first page && nat_lt page (first + WINDOW_PAGES)

-- a page number in the window of buffers, which has room for those of 32 threads
abbrev pub is_in_buffers : ℕ → Bool
is_in_buffers page = nat_le BUFFERS_PAGE page && nat_lt page (BUFFERS_PAGE + BUFFERS_WINDOW_PAGES)

-- Eight pages a thread, of which the first is its save page and the last four are its stack; of the threads at home in the
-- process.
abbrev pub stack_name : List Thread → ℕ → ℕ → Option PageName
stack_name threads process page =
    if page % THREAD_PAGES == 0
    then name_if (is_process (process_shown threads (page / THREAD_PAGES) 0) process) (Save (page / THREAD_PAGES))
    else name_if (is_process (process_shown threads (page / THREAD_PAGES) 0) process && nat_le STACK_PAGES (page % THREAD_PAGES))
    (Stack (page / THREAD_PAGES) (page % THREAD_PAGES - STACK_PAGES))

-- Four pages a binding, sixteen bindings a thread; of those whose thread is at home in the process, or whose server it is.
abbrev pub buffer_name : List Thread → ℕ → ℕ → Option PageName
buffer_name threads process page =
    name_if (is_process (process_shown threads (page / BUFFERS_DISTANCE_PAGES) 0) process || is_process
    (process_shown threads (page / BUFFERS_DISTANCE_PAGES) (page / BUFFER_PAGES % BUFFERS_PER_THREAD)) process)
    (Buffer (page / BUFFERS_DISTANCE_PAGES) (page / BUFFER_PAGES % BUFFERS_PER_THREAD) (page % BUFFER_PAGES))

-- the trampoline, record and scratch page of the view, and the pool page of the process
abbrev pub special_name : ℕ → ℕ → ℕ → ℕ → Option PageName
special_name thread view process page =
    if page == TRAMPOLINE_PAGE then Some (if view == 0 then HomeTrampoline else ServerTrampoline)
    else if page == RECORD_PAGE then Some (Record thread view)
    else if page == SCRATCH_PAGE then Some (Scratch thread view)
    else name_if (page == POOL_PAGE) (Pool process)

-- the name at a page number, where the view of the thread shows this process
unfoldable pub name_at : List Thread → ℕ → ℕ → ℕ → ℕ → Option PageName
name_at threads thread view page process =
    if nat_le AREA_PAGE page && nat_lt page (AREA_PAGE + AREA_PAGES) then Some (Area process (page - AREA_PAGE))
    else if is_within TEXT_PAGE page then Some (Text process (page - TEXT_PAGE))
    else if is_within DATA_PAGE page then Some (Data process (page - DATA_PAGE))
    else if is_within HEAP_PAGE page then Some (Heap process (page - HEAP_PAGE))
    else if is_in_buffers page then buffer_name threads process (page - BUFFERS_PAGE)
    else if is_within STACKS_PAGE page then stack_name threads process (page - STACKS_PAGE)
    else if is_within SERVER_STACKS_PAGE page then Some (ServerStack process (page - SERVER_STACKS_PAGE))
    else special_name thread view process page

-- ---- what is seen

abbrev pub page_and_mode : PageName → Page → SeenPage
page_and_mode name page = record { name = name; mode = mode_of name page.executable }

-- the page of this name, if it is there
abbrev pub page_by_name : List Page → PageName → Option SeenPage
page_by_name pages name = option_map (page_and_mode name) (find_page pages name)

-- The page that a thread sees at a page number in a view, and how it may be accessed: the table of plain memory.
unfoldable pub page_for : State → ℕ → ℕ → ℕ → Option SeenPage
page_for state thread view page =
    option_and_then (page_by_name state.pages)
    (option_and_then (name_at state.threads thread view page) (process_shown state.threads thread view))
