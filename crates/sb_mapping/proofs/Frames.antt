-- What is added makes no frame of memory come or go.
use Rattle.std.proofs.Common.{◌≡◌, ◌∙◌, ap, ℕ, zero, suc, ◌+◌, List, [], ◌∷◌, length}
use Rattle.sb_memory.specs.Changes.{SameOutside}
use Rattle.sb_memory.specs.Physical.{Physical, frame_count}
use Rattle.sb_memory.specs.Reading.{with_bytes}
use Rattle.sb_frames.specs.Book.{Book}
use Rattle.sb_pagewalk.specs.declared.table_set.TableSet.{TableSet}
use Rattle.sb_root.specs.declared.root_kernel.RootKernel.{RootKernel}
use Rattle.sb_state.specs.Start.{ProcessImage, process_pages}
use Rattle.sb_state.specs.declared.page.Page.{Page}
use Rattle.sb_shows.specs.Calls.{AddsPage, AddsPages, SetsPages, placed_with}
use Rattle.sb_shows.specs.Placement.{Placement}
use Rattle.sb_shows.specs.Starts.{AddsTables, ExposesTables, placed_tables, save_and_stack}
use Rattle.sb_shows.specs.Views.{placed_list, placed_view}
use Rattle.sb_mapping.specs.Carries.{TakesStacks}
use Rattle.sb_mapping.specs.StartPages.{AddsAll}
use Rattle.sb_mapping.specs.StartTables.{AddedTables}
use Rattle.sb_mapping.specs.StartThreads.{AddedHomeView}
use Rattle.sb_mapping.proofs.StartProcesses.{own_set}

-- bytes alone are written
pub written_frames : (old new : Physical) (bytes : List ℕ) → new ≡ with_bytes old bytes → frame_count new ≡ frame_count old
written_frames old new bytes is = ap (λ (memory : Physical). frame_count memory) is

-- bytes outside some frames stay
pub same_frames : (frames : List ℕ) (old new : Physical) → SameOutside frames old new → frame_count new ≡ frame_count old
same_frames frames old new same = ap length same.present

-- ---- pages of a start

sets_frames : (sets : ℕ → TableSet) (processes : List ℕ) (old new : Physical) (at entry : ℕ)
    → SetsPages sets processes old new at entry → frame_count new ≡ frame_count old
sets_frames sets [] old new at entry same = ap (λ (memory : Physical). frame_count memory) same
sets_frames sets (process ∷ processes) old new at entry (mid, one, rest) =
    sets_frames sets processes mid new at entry rest ∙ written_frames old mid _ one.written

page_frames : (placement : Placement) (processes : List ℕ) (page : Page) (old new : Physical)
    → AddsPage placement processes page old new → frame_count new ≡ frame_count old
page_frames placement processes page old new adds =
    written_frames adds.mapped new _ adds.exposed.written
    ∙ (sets_frames placement.sets processes adds.filled adds.mapped _ _ adds.sets
    ∙ same_frames _ old adds.filled adds.fills.same)

pages_frames : (placement : Placement) (processes : List ℕ) (pages : List Page) (old new : Physical)
    → AddsPages placement processes pages old new → frame_count new ≡ frame_count old
pages_frames placement processes [] old new same = ap (λ (memory : Physical). frame_count memory) same
pages_frames placement processes (page ∷ pages) old new (mid, one, rest) =
    pages_frames (placed_with placement page.name one.frame) processes pages mid new rest
    ∙ page_frames placement processes page old mid one

-- ---- a process of a start

exposed_frames : (root : RootKernel) (set : TableSet) (table count : ℕ) (old new : Physical)
    → ExposesTables root set table count old new → frame_count new ≡ frame_count old
exposed_frames root set table zero old new same = ap (λ (memory : Physical). frame_count memory) same
exposed_frames root set table (suc count) old new (mid, one, rest) =
    exposed_frames root set (table + 1) count mid new rest ∙ written_frames old mid _ one.written

tables_frames : (placement : Placement) (process : ℕ) (old new : Physical) → AddsTables placement process old new
    → frame_count new ≡ frame_count old
tables_frames placement process old new adds =
    exposed_frames placement.root adds.set 1 11 adds.mapped new adds.exposed
    ∙ (written_frames adds.second adds.mapped _ adds.trampoline.written
    ∙ (written_frames adds.first adds.second _ adds.words.written
    ∙ (written_frames adds.built adds.first _ adds.scratch.written ∙ same_frames _ old adds.built adds.same)))

-- the tables of a process are added, and then its pages
pub process_frames : (placement : Placement) (root : RootKernel) (between book : Book) (memory mid new : Physical) (process : ℕ)
    (set : TableSet) (image : ProcessImage) → AddedTables placement process root between memory mid set
    → AddsAll set root process (process_pages process image) between book mid new → frame_count new ≡ frame_count memory
process_frames placement root between book memory mid new process set image tables pages =
    let added = pages (placed_tables placement process tables.adds.set) tables.over
    (own_set placement process tables.adds.set ∙ tables.is) in
    pages_frames (placed_tables placement process tables.adds.set) (process ∷ []) (process_pages process image) mid new added.adds
    ∙ tables_frames placement process memory mid tables.adds

-- ---- a thread of a start

-- the list and the home view of a thread are added, and then its save page and its stack
pub thread_frames : (placement : Placement) (second : RootKernel) (between book : Book) (memory viewed new : Physical)
    (thread home : ℕ) (set : TableSet) → AddedHomeView placement thread home second between memory viewed
    → placement.sets home ≡ set → AddsAll set second home (save_and_stack thread) between book viewed new
    → frame_count new ≡ frame_count memory
thread_frames placement second between book memory viewed new thread home set added set_is pages =
    let all = pages (placed_view (placed_list placement added.first thread added.list.frame.0) second thread 0 added.view.view)
    added.over set_is in
    pages_frames (placed_view (placed_list placement added.first thread added.list.frame.0) second thread 0 added.view.view)
    (home ∷ []) (save_and_stack thread) viewed new all.adds
    ∙ (same_frames _ added.listed viewed (added.view.added.outside added.view.list added.view.listed)
    ∙ same_frames _ memory added.listed added.list.added.same)

-- ---- pages of stacks

pub taken_frames : (set : TableSet) (root : RootKernel) (book book' : Book) (old new : Physical) (owner count : ℕ)
    → TakesStacks set root book book' old new owner count → frame_count new ≡ frame_count old
taken_frames set root book book' old new owner zero (none, same) = ap (λ (memory : Physical). frame_count memory) same
taken_frames set root book book' old new owner (suc count) (between, mid, rest, one) =
    written_frames one.mapped new _ one.exposed.written
    ∙ (written_frames one.filled one.mapped _ one.set_page.written
    ∙ (same_frames _ mid one.filled one.same ∙ taken_frames set root book between old mid owner count rest))
