-- The laws of the steps of a start: what is kept before a step is kept after it, and each translation that gave an address stays.
-- The tables of a process, a list, and a thread's home view change none.
use Rattle.std.specs.Prelude.{ℕ, ◌≡◌, ◌<◌, ◌≤◌, [], ◌∷◌, ◌++◌, length}
use Rattle.sb_abi.specs.declared.space.TheConstants.{MAX_THREADS, WINDOW_PAGES, AREA_PAGES}
use Rattle.sb_memory.specs.Physical.{Physical}
use Rattle.sb_pagewalk.specs.declared.table_set.TableSet.{TableSet}
use Rattle.sb_root.specs.declared.root_kernel.RootKernel.{RootKernel}
use Rattle.sb_tramp.specs.declared.record_words.RecordWords.{RecordWords}
use Rattle.sb_state.specs.declared.state.Thread.{Thread}
use Rattle.sb_trace.specs.State.{State, Process}
use Rattle.sb_trace.specs.Start.{ProcessImage, ThreadEntry, page_count, process_pages, home_words, start_process}
use Rattle.sb_shows.specs.Placement.{Placement}
use Rattle.sb_shows.specs.Keeping.{Keeps}
use Rattle.sb_shows.specs.Calls.{AddsPages, placed_all}
use Rattle.sb_shows.specs.InPlace.{KeepsInPlace, KeepsUnseen}
use Rattle.sb_shows.specs.Views.{AddsList, AddsRootView, placed_list, placed_view, with_new_thread}
use Rattle.sb_shows.specs.Starts.{IsFirst, first_placement, AddsTables, placed_tables, HasNoPages, with_new_process, HasNoThreadPages, save_and_stack, with_whole_thread}

-- without processes and threads, what `RootKernel::new` built and the two pages of the trampoline are kept
abbrev pub FirstKeeps : Type 0
FirstKeeps = (sets : ℕ → TableSet) (state : State) (memory : Physical) → IsFirst state memory
    → Keeps (first_placement sets) state memory

-- a process is added: its tables are built, lead to the pages that each view has of its own, and are exposed
abbrev pub ProcessesKeep : Type 0
ProcessesKeep =
    (placement : Placement) (state : State) (memory new : Physical) (process : Process)
    → Keeps placement state memory → HasNoPages state.pages (length state.processes)
    → (adds : AddsTables placement (length state.processes) memory new)
    → KeepsUnseen placement (placed_tables placement (length state.processes) adds.set) state (with_new_process state process)
    memory new

-- the pages of an image are within their windows
pub record ImageFitsWindows (image : ProcessImage) : Type 0 where
  pub text : page_count (length image.text) ≤ WINDOW_PAGES
  pub area : page_count (length image.area) ≤ AREA_PAGES
  pub initial : page_count (length image.initial) ≤ WINDOW_PAGES
  pub heap : image.heap_pages ≤ WINDOW_PAGES

-- A process of an image is added whole: its tables, and then its pages. What was there stays in its place.
abbrev pub WholeProcessesKeep : Type 0
WholeProcessesKeep =
    (placement : Placement) (state : State) (memory mid new : Physical) (image : ProcessImage)
    → Keeps placement state memory → HasNoPages state.pages (length state.processes) → ImageFitsWindows image
    → (tables : AddsTables placement (length state.processes) memory mid)
    → (adds : AddsPages (placed_tables placement (length state.processes) tables.set) (length state.processes ∷ [])
    (process_pages (length state.processes) image) mid new)
    → KeepsInPlace placement
    (placed_all (placed_tables placement (length state.processes) tables.set) (length state.processes ∷ [])
    (process_pages (length state.processes) image) mid new adds) state
    (record (with_new_process state (start_process image)) {
      pages = state.pages ++ process_pages (length state.processes) image;
    }) memory new

-- a list is added
abbrev pub ListsKeep : Type 0
ListsKeep =
    (placement : Placement) (state : State) (memory new : Physical) (root : RootKernel) (thread : ℕ)
    → Keeps placement state memory → (adds : AddsList placement root thread memory new)
    → KeepsUnseen placement (placed_list placement root thread adds.frame.0) state state memory new

-- a thread is added with its home view
abbrev pub ThreadsKeep : Type 0
ThreadsKeep =
    (placement : Placement) (state : State) (memory new : Physical) (root : RootKernel) (thread : Thread) (words : RecordWords)
    → Keeps placement state memory → thread.bindings ≡ [] → thread.home < length state.processes
    → length state.threads < MAX_THREADS → HasNoThreadPages state.pages (length state.threads)
    → (adds : AddsRootView placement root (length state.threads) 0 thread.home thread.home words memory new)
    → KeepsUnseen placement (placed_view placement root (length state.threads) 0 adds.view) state
    (with_new_thread state thread words) memory new

-- A thread of an entry is added whole: its list, its home view, its save page and its stack. What was there stays in its place.
abbrev pub WholeThreadsKeep : Type 0
WholeThreadsKeep =
    (placement : Placement) (state : State) (memory listed viewed new : Physical) (first second : RootKernel)
    (entry : ThreadEntry)
    → Keeps placement state memory → entry.home < length state.processes → length state.threads < MAX_THREADS
    → HasNoThreadPages state.pages (length state.threads)
    → (list : AddsList placement first (length state.threads) memory listed)
    → (view : AddsRootView (placed_list placement first (length state.threads) list.frame.0) second (length state.threads) 0
    entry.home entry.home (home_words (length state.threads) entry.home) listed viewed)
    → (adds : AddsPages
    (placed_view (placed_list placement first (length state.threads) list.frame.0) second (length state.threads) 0 view.view)
    (entry.home ∷ []) (save_and_stack (length state.threads)) viewed new)
    → KeepsInPlace placement
    (placed_all
    (placed_view (placed_list placement first (length state.threads) list.frame.0) second (length state.threads) 0 view.view)
    (entry.home ∷ []) (save_and_stack (length state.threads)) viewed new adds) state (with_whole_thread state entry) memory new
