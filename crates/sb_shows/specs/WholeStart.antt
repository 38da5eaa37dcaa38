-- A start as a whole: from memory before there are processes and threads to that which keeps the state at the start of a bundle.
use Rattle.std.specs.Prelude.{ℕ, ◌≡◌, ◌+◌, ◌<◌, ◌≤◌, List, [], ◌∷◌, length}
use Rattle.std.specs.List.{AllByRecursion}
use Rattle.sb_abi.specs.declared.space.TheConstants.{MAX_THREADS}
use Rattle.sb_memory.specs.Physical.{Physical}
use Rattle.sb_pagewalk.specs.declared.table_set.TableSet.{TableSet}
use Rattle.sb_root.specs.declared.root_kernel.RootKernel.{RootKernel}
use Rattle.sb_trace.specs.State.{State}
use Rattle.sb_trace.specs.Start.{ProcessImage, ThreadEntry, process_pages, home_words, trampoline_pages, start_state}
use Rattle.sb_shows.specs.Placement.{Placement}
use Rattle.sb_shows.specs.Keeping.{Keeps}
use Rattle.sb_shows.specs.Calls.{AddsPages, placed_all}
use Rattle.sb_shows.specs.Views.{AddsList, AddsRootView, placed_list, placed_view}
use Rattle.sb_shows.specs.Starts.{IsFirst, first_placement, AddsTables, placed_tables, save_and_stack}
use Rattle.sb_shows.specs.StartLaws.{ImageFitsWindows}

-- the plain state before there are processes and threads
abbrev pub state_before_processes : ℕ → List ℕ → State
state_before_processes free keys = record {
  pages = trampoline_pages;
  processes = [];
  threads = [];
  flights = [];
  free = free;
  keys = keys;
}

-- ---- processes

-- a process of an image is added whole: its tables, and then its pages
pub record AddsWholeProcess (placement : Placement) (process : ℕ) (image : ProcessImage) (old new : Physical) : Type 0 where
  pub built : Physical
  pub tables : AddsTables placement process old built
  pub pages : AddsPages (placed_tables placement process tables.set) (process ∷ []) (process_pages process image) built new

-- the placement with it
abbrev pub placed_process : (placement : Placement) (process : ℕ) (image : ProcessImage) (old new : Physical)
    → AddsWholeProcess placement process image old new → Placement
placed_process placement process image old new adds =
    placed_all (placed_tables placement process adds.tables.set) (process ∷ []) (process_pages process image) adds.built new
    adds.pages

-- the processes of images are added one after another, from this number on
abbrev pub AddsProcesses : Placement → ℕ → List ProcessImage → Physical → Physical → Type 0
AddsProcesses placement process [] old new = new ≡ old
AddsProcesses placement process (image ∷ images) old new =
    (mid : Physical) × (one : AddsWholeProcess placement process image old mid)
    × AddsProcesses (placed_process placement process image old mid one) (process + 1) images mid new

-- the placement with all of them
abbrev pub placed_processes : (placement : Placement) (process : ℕ) (images : List ProcessImage) (old new : Physical)
    → AddsProcesses placement process images old new → Placement
placed_processes placement process [] old new adds = placement
placed_processes placement process (image ∷ images) old new adds =
    placed_processes (placed_process placement process image old adds.0 adds.1) (process + 1) images adds.0 new adds.2

-- ---- threads

-- a thread of an entry is added whole: its list, its home view, its save page and its stack
pub record AddsWholeThread (placement : Placement) (thread : ℕ) (entry : ThreadEntry) (old new : Physical) : Type 0 where
  pub first : RootKernel
  pub second : RootKernel
  pub listed : Physical
  pub viewed : Physical
  pub list : AddsList placement first thread old listed
  pub view : AddsRootView (placed_list placement first thread list.frame.0) second thread 0 entry.home entry.home
      (home_words thread entry.home) listed viewed
  pub pages : AddsPages (placed_view (placed_list placement first thread list.frame.0) second thread 0 view.view)
      (entry.home ∷ []) (save_and_stack thread) viewed new

-- the placement with it
abbrev pub placed_thread : (placement : Placement) (thread : ℕ) (entry : ThreadEntry) (old new : Physical)
    → AddsWholeThread placement thread entry old new → Placement
placed_thread placement thread entry old new adds =
    placed_all (placed_view (placed_list placement adds.first thread adds.list.frame.0) adds.second thread 0 adds.view.view)
    (entry.home ∷ []) (save_and_stack thread) adds.viewed new adds.pages

-- the threads of entries are added one after another, from this number on
abbrev pub AddsThreads : Placement → ℕ → List ThreadEntry → Physical → Physical → Type 0
AddsThreads placement thread [] old new = new ≡ old
AddsThreads placement thread (entry ∷ entries) old new =
    (mid : Physical) × (one : AddsWholeThread placement thread entry old mid)
    × AddsThreads (placed_thread placement thread entry old mid one) (thread + 1) entries mid new

-- the placement with all of them
abbrev pub placed_threads : (placement : Placement) (thread : ℕ) (entries : List ThreadEntry) (old new : Physical)
    → AddsThreads placement thread entries old new → Placement
placed_threads placement thread [] old new adds = placement
placed_threads placement thread (entry ∷ entries) old new adds =
    placed_threads (placed_thread placement thread entry old adds.0 adds.1) (thread + 1) entries adds.0 new adds.2

-- ---- the law

-- From memory before there are processes and threads, where all processes and then all threads are added whole, the state at the
-- start of images and entries is kept.
abbrev pub StartsKeep : Type 0
StartsKeep =
    (sets : ℕ → TableSet) (memory mid new : Physical) (images : List ProcessImage) (entries : List ThreadEntry) (free : ℕ)
    (keys : List ℕ)
    → IsFirst (state_before_processes free keys) memory → AllByRecursion ImageFitsWindows images
    → AllByRecursion (λ entry. entry.home < length images) entries → length entries ≤ MAX_THREADS
    → (processes : AddsProcesses (first_placement sets) 0 images memory mid)
    → (threads : AddsThreads (placed_processes (first_placement sets) 0 images memory mid processes) 0 entries mid new)
    → Keeps
    (placed_threads (placed_processes (first_placement sets) 0 images memory mid processes) 0 entries mid new threads)
    (start_state images entries free keys) new
