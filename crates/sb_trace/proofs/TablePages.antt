-- Pages of a table by their kind, both ways, and states that have one table.
use Rattle.std.proofs.Common.{◌≡◌, ◌≢◌, ◌∙◌, sym, ap, subst, ℕ, ◌*◌, ◌<◌, Bool, true, false, List, [], ◌++◌, ◌==◌, ◌&&◌, length, refl}
use Rattle.std.specs.Prelude.{Some, None, is_some, map, not, nat_lt, slice_get}
use Rattle.std.proofs.lemmas.Bool.Decides.{Decides-ltb}
use Rattle.std.proofs.lemmas.List.{append-nil}
use Rattle.std.proofs.Math.Bool.{and-false, or-false}
use Rattle.sb_state.specs.declared.page.PageName.{PageName}
use Rattle.sb_state.specs.declared.page.PageName.TheVariants.{Heap, Pool, ServerStack, Buffer, Record, Scratch}
use Rattle.sb_state.specs.declared.page.Page.{Page}
use Rattle.sb_state.specs.State.{State, find_page, process_at, registration_of, registration_at}
use Rattle.sb_state.specs.Windows.{process_shown}
use Rattle.sb_state.proofs.Cases.{some_there}
use Rattle.sb_trace.specs.SyscallProtect.{heap_count}
use Rattle.sb_trace.specs.Table.{ImagePages, IsThere, stacks_in, has_view, is_in_table, ArePagesOfTable}
use Rattle.sb_trace.specs.Changes.{page_name}
use Rattle.sb_trace.proofs.NamedPages.{Hold, none_there, below_none}
use Rattle.sb_trace.proofs.TableKept.{Grows, Grown, grown_held}

-- ---- the pages of one state

module _ (state : State) (table : ArePagesOfTable state) where
  -- a page that the table names is there
  pub page_there : (name : PageName) → is_in_table table.images state name ≡ true → IsThere state.pages name
  page_there name is = some_there (find_page state.pages name) (table.exactly name ∙ is)

  -- a page that is there is one that the table names
  pub in_table : (name : PageName) → IsThere state.pages name → is_in_table table.images state name ≡ true
  in_table name (page, found) = sym (table.exactly name) ∙ ap is_some found

  -- a page that the table does not name is absent
  pub page_absent : (name : PageName) → is_in_table table.images state name ≡ false → find_page state.pages name ≡ None
  page_absent name none = none_there (find_page state.pages name) (table.exactly name ∙ none)

  -- a heap page is there where its number is below that of its process's heap pages
  pub heap_there : (process page : ℕ) → page < heap_count (process_at state process) → IsThere state.pages (Heap process page)
  unfolding is_in_table
  heap_there process page below =
      page_there (Heap process page) ((Decides-ltb page (heap_count (process_at state process))).1 below)

  -- and only there
  pub heap_below : (process page : ℕ) → IsThere state.pages (Heap process page) → page < heap_count (process_at state process)
  unfolding is_in_table
  heap_below process page there =
      (Decides-ltb page (heap_count (process_at state process))).0 (in_table (Heap process page) there)

  -- each process has a pool page
  pub pool_there : (process : ℕ) → process < length state.processes → IsThere state.pages (Pool process)
  unfolding is_in_table
  pool_there process below = page_there (Pool process) ((Decides-ltb process (length state.processes)).1 below)

  -- a process that is no server has no stacks
  pub stack_absent : (process page : ℕ) → registration_at state process ≡ None
      → find_page state.pages (ServerStack process page) ≡ None
  unfolding is_in_table
  stack_absent process page none =
      page_absent (ServerStack process page) (ap (λ told. nat_lt page (4 * stacks_in told)) none ∙ below_none page)

  -- a view has its record and its scratch page
  pub view_there : (thread view process : ℕ) → process_shown state.threads thread view ≡ Some process
      → IsThere state.pages (Record thread view) × IsThere state.pages (Scratch thread view)
  unfolding is_in_table
  view_there thread view process shown =
      (page_there (Record thread view) (ap is_some shown), page_there (Scratch thread view) (ap is_some shown))

  -- an index that is that of no view has no pages
  pub view_absent : (thread view : ℕ) → process_shown state.threads thread view ≡ None
      → (find_page state.pages (Record thread view) ≡ None) × (find_page state.pages (Scratch thread view) ≡ None)
      × ((page : ℕ) → find_page state.pages (Buffer thread view page) ≡ None)
  unfolding is_in_table
  view_absent thread view none = (
    page_absent (Record thread view) (ap is_some none),
    page_absent (Scratch thread view) (ap is_some none),
    λ page. page_absent (Buffer thread view page)
        (ap (λ found. not (view == 0) && (is_some found && nat_lt page 4)) none ∙ and-false (not (view == 0))),
  )

-- ---- the pages of two states

-- pages whose names are those of a table and those that are added are of the table that grew, for the same images
pub grown_table : (old new : State) (first second : List Page) → Grown old new first second → (table : ArePagesOfTable old)
    → (after : ArePagesOfTable new) × (after.images ≡ table.images)
grown_table old new first second grown table =
    let held : Hold new.pages (is_in_table table.images new) =
    subst (λ pages. Hold pages (is_in_table table.images new)) (sym grown.pages) (grown_held old new first second table grown) in
    (record { images = table.images; windows = table.windows; once = held.once; exactly = held.exactly }, refl)

module _ (old new : State) (processes : new.processes ≡ old.processes) (count : length new.threads ≡ length old.threads)
    (shown : (thread view : ℕ) → process_shown new.threads thread view ≡ process_shown old.threads thread view) where
  views_alike : (thread view : ℕ) → has_view old thread view ≡ has_view new thread view
  views_alike thread view = ap is_some (sym (shown thread view))

  grows_none : Grows old new (λ name. false)
  unfolding is_in_table process_at registration_at
  grows_none = record {
    processes = ap length processes;
    threads = count;
    heaps = λ process. ap (λ list. heap_count (slice_get list process)) processes;
    others = λ name other. refl;
    stacks = λ images process page.
        or-false _ ∙ ap (λ list. nat_lt page (4 * stacks_in (registration_of (slice_get list process)))) (sym processes);
    buffers = λ images thread view page.
        or-false _ ∙ ap (λ (there : Bool). not (view == 0) && (there && nat_lt page 4)) (views_alike thread view);
    records = λ thread view. or-false (has_view old thread view) ∙ views_alike thread view;
    scratches = λ thread view. or-false (has_view old thread view) ∙ views_alike thread view;
  }

  -- states with the same processes, as many threads, the same views and the same names of pages have one table
  pub one_table : map page_name new.pages ≡ map page_name old.pages → ArePagesOfTable old → ArePagesOfTable new
  one_table names table =
      (grown_table old new new.pages []
      (record {
        pages = sym (append-nil new.pages);
        names = names;
        added = λ name. false;
        grows = grows_none;
        held = record { once = tt; exactly = λ name. refl };
        fresh = λ images. tt;
      }) table).0
