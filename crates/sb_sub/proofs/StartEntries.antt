-- The threads of a start are built one after another.
use Rattle.std.proofs.Common.{◌≡◌, ◌∙◌, sym, ap, subst, ℕ, zero, suc, ◌+◌, ◌-◌, ◌<◌, ◌≤◌, List, [], ◌∷◌, ◌++◌, length, drop, get_or, refl, arith, append_assoc}
use Rattle.std.specs.Prelude.{Some, map, slice_get}
use Rattle.std.specs.List.{AllByRecursion}
use Rattle.std.proofs.lemmas.List.{append-nil, length-append, length-map, drop_more}
use Rattle.std.proofs.lemmas.Option.{slice_get_within}
use Rattle.sb_memory.specs.Physical.{Physical}
use Rattle.sb_frames.specs.Book.{Book}
use Rattle.sb_root.specs.declared.root_kernel.RootKernel.{RootKernel}
use Rattle.sb_state.specs.declared.page.Page.{Page}
use Rattle.sb_state.specs.declared.state.Thread.{Thread}
use Rattle.sb_state.specs.State.{State}
use Rattle.sb_state.specs.Start.{ThreadEntry, start_process, start_thread, start_threads}
use Rattle.sb_bundle.specs.declared.bundle.CoreStart.{CoreStart}
use Rattle.sb_bundle.specs.Limits.{IsCoreStart}
use Rattle.sb_load.specs.Loading.{Load}
use Rattle.sb_load.specs.FirstState.{images_loaded, entry_of, first_state}
use Rattle.sb_load.specs.Need.{need_of, have_of}
use Rattle.sb_shows.specs.Placement.{Placement}
use Rattle.sb_shows.specs.Starts.{with_whole_thread}
use Rattle.sb_shows.proofs.ManyThreads.{HasNoThreadsFrom, pages_of_thread, pages_of_threads, with_entries, other_thread, joined_pages}
use Rattle.sb_shows.proofs.Threads.{keeps_moved}
use Rattle.sb_shows.proofs.WholeStart.{no_thread_yet, start_sight}
use Rattle.sb_mapping.specs.Carries.{Carries}
use Rattle.sb_mapping.specs.StartThreads.{IsReadyForThread, AddedThread}
use Rattle.sb_sub.specs.Kernel.{Entry}
use Rattle.sb_sub.proofs.StartImages.{drop_past}
use Rattle.sb_sub.specs.Start.{HasAllProcesses, HasStarted, threadless_state}

-- the entries that are left
abbrev pub entries_from : Load → ℕ → List ThreadEntry
entries_from load number = map entry_of (drop number load.bundle.cores)

entries_more : (load : Load) (number : ℕ) (core other : CoreStart) → number < length load.bundle.cores
    → core ≡ get_or load.bundle.cores number other
    → entries_from load number ≡ entry_of core ∷ entries_from load (number + 1)
entries_more load number core other below is = rw (drop_more load.bundle.cores number other below, ← is) refl

-- the first of the entries that are left, and the others behind it
entries_cons : (state : State) (thread : ℕ) (entry : ThreadEntry) (entries : List ThreadEntry) → length state.threads ≡ thread
    → with_entries state thread (entry ∷ entries) ≡ with_entries (with_whole_thread state entry) (thread + 1) entries
entries_cons state thread entry entries is =
    ap (λ (pages : List Page). record state {
      threads = state.threads ++ (start_thread thread entry ∷ start_threads (thread + 1) entries);
      pages = pages;
    }) (sym (append_assoc state.pages (pages_of_thread thread entry.home) (pages_of_threads (thread + 1) entries)))
    ∙ (ap (λ (threads : List Thread). record state {
      threads = threads;
      pages = (state.pages ++ pages_of_thread thread entry.home) ++ pages_of_threads (thread + 1) entries;
    }) (sym (append_assoc state.threads (start_thread thread entry ∷ []) (start_threads (thread + 1) entries)))
    ∙ (ap (λ (n : ℕ). record state {
      threads = (state.threads ++ start_thread n entry ∷ []) ++ start_threads (thread + 1) entries;
      pages = (state.pages ++ pages_of_thread n entry.home) ++ pages_of_threads (thread + 1) entries;
    }) (sym is)
    ∙ ap (λ (pages : List Page). record state {
      threads = (state.threads ++ start_thread (length state.threads) entry ∷ []) ++ start_threads (thread + 1) entries;
      pages = pages ++ pages_of_threads (thread + 1) entries;
    }) (sym (joined_pages state.pages (length state.threads) entry.home))))

-- A state is carried which, with the threads of the entries that are left, is that of all threads.
pub record EntriesLeft (load : Load) (number : ℕ) (root : RootKernel) (book : Book) (memory : Physical)
    (entries : List Entry) : Type 0 where
  pub placement : Placement
  pub state : State
  pub carries : Carries placement root book memory state
  pub count : length state.threads ≡ number
  pub none : HasNoThreadsFrom state.pages number
  pub processes : state.processes ≡ map start_process (images_loaded load)
  pub sets : (process : ℕ) (entry : Entry) → slice_get entries process ≡ Some entry → placement.sets process ≡ entry.set
  pub whole : with_entries state number (entries_from load number) ≡ with_entries (threadless_state load) 0 (entries_from load 0)

-- before the first thread
pub first_left : (load : Load) (root : RootKernel) (book : Book) (memory : Physical) (entries : List Entry)
    → HasAllProcesses root book memory load entries → EntriesLeft load 0 root book memory entries
first_left load root book memory entries built = record {
  placement = built.placement;
  state = threadless_state load;
  carries = built.carries;
  count = refl;
  none = no_thread_yet (images_loaded load);
  processes = refl;
  sets = built.sets;
  whole = refl;
}

pub ready : (load : Load) (number : ℕ) (root : RootKernel) (book : Book) (memory : Physical) (entries : List Entry)
    (home : ℕ) (entry : Entry) → (left : EntriesLeft load number root book memory entries)
    → slice_get entries home ≡ Some entry → length entries ≡ length (images_loaded load)
    → IsReadyForThread left.placement root book memory left.state number home entry.set
ready load number root book memory entries home entry left is size =
    let within = slice_get_within entries home entry is in
    let count = ap length left.processes ∙ length-map (images_loaded load) start_process in
    record {
      carries = left.carries;
      count = left.count;
      none = left.none.none number (omega arith);
      there = omega (arith, within, size, count);
      set_is = left.sets home entry is;
    }

module _ (load : Load) (number : ℕ) (root second : RootKernel) (book book' : Book) (memory new : Physical) (entries : List Entry)
    (core other : CoreStart) (below : number < length load.bundle.cores)
    (is : core ≡ get_or load.bundle.cores number other)
    (left : EntriesLeft load number root book memory entries)
    (added : AddedThread left.placement second book' new left.state (entry_of core)) where
  none_now : HasNoThreadsFrom (with_whole_thread left.state (entry_of core)).pages (number + 1)
  none_now = subst (λ (pages : List Page). HasNoThreadsFrom pages (number + 1))
      (sym (joined_pages left.state.pages (length left.state.threads) core.process))
      (record {
        none = λ other above. other_thread left.state.pages (length left.state.threads) other core.process
            (λ same. let count = left.count in absurd (omega (arith, count, same, above)))
            (left.none.none other (omega (arith, above)));
      })

  -- one thread more
  pub one_built : EntriesLeft load (number + 1) second book' new entries
  one_built = record {
    placement = added.after;
    state = with_whole_thread left.state (entry_of core);
    carries = added.carries;
    count = length-append left.state.threads (start_thread (length left.state.threads) (entry_of core) ∷ [])
        ∙ ap (λ (n : ℕ). n + 1) left.count;
    none = none_now;
    processes = left.processes;
    sets = λ process entry found. added.sets process ∙ left.sets process entry found;
    whole = sym (entries_cons left.state number (entry_of core) (entries_from load (number + 1)) left.count)
        ∙ (ap (with_entries left.state number) (sym (entries_more load number core other below is)) ∙ left.whole);
  }

pub none_from : (load : Load) (number : ℕ) → length load.bundle.cores ≤ number → entries_from load number ≡ []
none_from load number past = ap (map entry_of) (drop_past load.bundle.cores number past)

-- the home of a core is a process
pub home_there : (cores : List CoreStart) (processes number : ℕ) (other : CoreStart)
    → AllByRecursion (IsCoreStart processes) cores → number < length cores
    → (get_or cores number other).process < processes
home_there [] processes number other good below = absurd (omega (arith, below))
home_there (core ∷ cores) processes zero other good below = good.0.process
home_there (core ∷ cores) processes (suc number) other good below =
    home_there cores processes number other good.1 (omega (arith, below))

-- the entry of a process, as it is read
pub entry_read : (entries : List Entry) (process : ℕ) (entry : Entry) → process < length entries
    → entry ≡ get_or entries process entry → slice_get entries process ≡ Some entry
entry_read [] process entry below is = absurd (omega (arith, below))
entry_read (first ∷ entries) zero entry below is = ap (λ (one : Entry). Some one) (sym is)
entry_read (first ∷ entries) (suc process) entry below is = entry_read entries process entry (omega (arith, below)) is

-- no entry is left
pub all_built : (load : Load) (root : RootKernel) (book : Book) (memory : Physical) (entries : List Entry) (number : ℕ)
    → entries_from load number ≡ [] → EntriesLeft load number root book memory entries
    → HasStarted root book memory load entries
all_built load root book memory entries number none left =
    let same : left.state ≡ with_entries (threadless_state load) 0 (map entry_of load.bundle.cores) =
    sym (ap (λ (pages : List Page). record left.state { threads = left.state.threads ++ []; pages = pages })
    (append-nil left.state.pages)
    ∙ ap (λ (threads : List Thread). record left.state { threads = threads }) (append-nil left.state.threads))
    ∙ (ap (with_entries left.state number) (sym none) ∙ left.whole) in
    let carries = subst (λ (state : State). Carries left.placement root book memory state) same left.carries in
    record {
      placement = left.placement;
      carries = record {
        keeps = keeps_moved left.placement (with_entries (threadless_state load) 0 (map entry_of load.bundle.cores))
            (first_state load) memory
            (start_sight (images_loaded load) (map entry_of load.bundle.cores)
            (have_of load.bundle - need_of load.bundle load.rewritten) load.bundle.keys) carries.keeps;
        rooted = carries.rooted;
        booked = carries.booked;
        unused = carries.unused;
      };
      sets = left.sets;
    }
