-- The threads of a start are added one after another.
use Rattle.std.proofs.Common.{◌≡◌, ◌≢◌, ◌∙◌, sym, ap, subst, ℕ, ◌+◌, ◌<◌, ◌≤◌, List, [], ◌∷◌, ◌++◌, length, append_assoc, arith}
use Rattle.std.specs.Prelude.{None}
use Rattle.std.specs.List.{AllByRecursion}
use Rattle.std.proofs.lemmas.List.{append-nil, length-append}
use Rattle.sb_abi.specs.declared.space.TheConstants.{MAX_THREADS}
use Rattle.sb_memory.specs.Physical.{Physical}
use Rattle.sb_state.specs.declared.page.PageName.{PageName}
use Rattle.sb_state.specs.declared.page.PageName.TheVariants.{Save, Stack, Buffer, Record, Scratch}
use Rattle.sb_state.specs.declared.page.Page.{Page}
use Rattle.sb_trace.specs.PageWords.{zeros}
use Rattle.sb_trace.specs.State.{State, find_page, page_with}
use Rattle.sb_trace.specs.Start.{ThreadEntry, home_words, record_bytes, start_thread, start_threads}
use Rattle.sb_state.proofs.Names.{name_other}
use Rattle.sb_shows.specs.Placement.{Placement}
use Rattle.sb_shows.specs.Keeping.{Keeps}
use Rattle.sb_shows.specs.Starts.{HasNoThreadPages, stack_page, save_and_stack}
use Rattle.sb_shows.specs.WholeStart.{AddsWholeThread, placed_thread, AddsThreads, placed_threads}
use Rattle.sb_shows.proofs.Adding.{added_other}
use Rattle.sb_shows.proofs.NewPages.{absent_after}
use Rattle.sb_shows.proofs.WholeThreads.{whole_thread_kept}

-- the pages of a thread, in the order in which they are added
abbrev pub pages_of_thread : ℕ → ℕ → List Page
pages_of_thread thread home =
    page_with (Record thread 0) (record_bytes (home_words thread home)) ∷ page_with (Scratch thread 0) zeros
    ∷ save_and_stack thread

abbrev pub pages_of_threads : ℕ → List ThreadEntry → List Page
pages_of_threads thread [] = []
pages_of_threads thread (entry ∷ entries) = pages_of_thread thread entry.home ++ pages_of_threads (thread + 1) entries

-- ---- names that no page of a thread has

absent_thread : (pages : List Page) (thread home : ℕ) (name : PageName) → Record thread 0 ≢ name → Scratch thread 0 ≢ name
    → Save thread ≢ name → ((page : ℕ) → Stack thread page ≢ name) → find_page pages name ≡ None
    → find_page (pages ++ pages_of_thread thread home) name ≡ None
absent_thread pages thread home name words scratch save stack none =
    let first = page_with (Record thread 0) (record_bytes (home_words thread home)) in
    let second = page_with (Scratch thread 0) zeros in
    let third = page_with (Save thread) zeros in
    let one = added_other pages first name (name_other (Record thread 0) name words) ∙ none in
    let two = added_other (pages ++ first ∷ []) second name (name_other (Scratch thread 0) name scratch) ∙ one in
    let three = added_other ((pages ++ first ∷ []) ++ second ∷ []) third name (name_other (Save thread) name save) ∙ two in
    let four = absent_after (((pages ++ first ∷ []) ++ second ∷ []) ++ third ∷ []) (stack_page thread) 0 4 name stack three in
    ap (λ list. find_page list name)
    (sym (append_assoc pages (first ∷ []) (second ∷ save_and_stack thread))
    ∙ (sym (append_assoc (pages ++ first ∷ []) (second ∷ []) (save_and_stack thread))
    ∙ sym (append_assoc ((pages ++ first ∷ []) ++ second ∷ []) (third ∷ []) _))) ∙ four

-- none of the pages of the threads from a number on is there
pub record HasNoThreadsFrom (pages : List Page) (first : ℕ) : Type 0 where
  pub none : (thread : ℕ) → first ≤ thread → HasNoThreadPages pages thread

pub other_thread : (pages : List Page) (thread number home : ℕ) → thread ≢ number → HasNoThreadPages pages number
    → HasNoThreadPages (pages ++ pages_of_thread thread home) number
other_thread pages thread number home differ none = record {
  words = absent_thread pages thread home (Record number 0) (λ e. differ (let same : thread ≡ number = cc in same)) (λ e. cc)
      (λ e. cc) (λ one e. cc) none.words;
  scratch = absent_thread pages thread home (Scratch number 0) (λ e. cc) (λ e. differ (let same : thread ≡ number = cc in same))
      (λ e. cc) (λ one e. cc) none.scratch;
  buffers = λ index page. absent_thread pages thread home (Buffer number index page) (λ e. cc) (λ e. cc) (λ e. cc) (λ one e. cc)
      (none.buffers index page);
  save = absent_thread pages thread home (Save number) (λ e. cc) (λ e. cc) (λ e. differ (let same : thread ≡ number = cc in same))
      (λ one e. cc) none.save;
  stack = λ page. absent_thread pages thread home (Stack number page) (λ e. cc) (λ e. cc) (λ e. cc)
      (λ one e. differ (let same : thread ≡ number = cc in same)) (none.stack page);
}

-- ---- one after another

-- the state with the threads of entries
abbrev pub with_entries : State → ℕ → List ThreadEntry → State
with_entries state thread entries = record state {
  threads = state.threads ++ start_threads thread entries;
  pages = state.pages ++ pages_of_threads thread entries;
}

pub joined_pages : (pages : List Page) (thread home : ℕ)
    → ((pages ++ page_with (Record thread 0) (record_bytes (home_words thread home)) ∷ []) ++ page_with (Scratch thread 0) zeros
    ∷ []) ++ save_and_stack thread ≡ pages ++ pages_of_thread thread home
joined_pages pages thread home =
    let first = page_with (Record thread 0) (record_bytes (home_words thread home)) in
    append_assoc (pages ++ first ∷ []) (page_with (Scratch thread 0) zeros ∷ []) (save_and_stack thread)
    ∙ append_assoc pages (first ∷ []) (page_with (Scratch thread 0) zeros ∷ save_and_stack thread)

one_kept : (placement : Placement) (state : State) (memory new : Physical) (entry : ThreadEntry) (thread : ℕ)
    → length state.threads ≡ thread → Keeps placement state memory → entry.home < length state.processes
    → thread < MAX_THREADS → HasNoThreadPages state.pages thread
    → (adds : AddsWholeThread placement thread entry memory new)
    → Keeps (placed_thread placement thread entry memory new adds)
    (record state {
      threads = state.threads ++ start_thread thread entry ∷ [];
      pages = state.pages ++ pages_of_thread thread entry.home;
    }) new
one_kept placement state memory new entry thread is keeps home =
    subst (λ n. n < MAX_THREADS → HasNoThreadPages state.pages n → (adds : AddsWholeThread placement n entry memory new)
    → Keeps (placed_thread placement n entry memory new adds)
    (record state {
      threads = state.threads ++ start_thread n entry ∷ [];
      pages = state.pages ++ pages_of_thread n entry.home;
    }) new) is
    (λ served none adds. subst (λ pages. Keeps (placed_thread placement (length state.threads) entry memory new adds)
    (record state { threads = state.threads ++ start_thread (length state.threads) entry ∷ []; pages = pages }) new)
    (joined_pages state.pages (length state.threads) entry.home)
    (whole_thread_kept placement state memory adds.listed adds.viewed new adds.first adds.second entry keeps home served none
    adds.list adds.view adds.pages).keeps)

pub threads_kept : (entries : List ThreadEntry) (placement : Placement) (state : State) (memory new : Physical) (thread : ℕ)
    → length state.threads ≡ thread → Keeps placement state memory → HasNoThreadsFrom state.pages thread
    → AllByRecursion (λ entry. entry.home < length state.processes) entries → thread + length entries ≤ 8
    → (adds : AddsThreads placement thread entries memory new)
    → Keeps (placed_threads placement thread entries memory new adds) (with_entries state thread entries) new
threads_kept [] placement state memory new thread is keeps none homes few adds =
    subst (λ threads. Keeps placement (record state { threads = threads; pages = state.pages ++ [] }) new)
    (sym (append-nil state.threads))
    (subst (λ pages. Keeps placement (record state { pages = pages }) new) (sym (append-nil state.pages))
    (subst (Keeps placement state) (sym adds) keeps))
threads_kept (entry ∷ entries) placement state memory new thread is keeps none homes few adds =
    let count : length (state.threads ++ start_thread thread entry ∷ []) ≡ thread + 1 =
    length-append state.threads (start_thread thread entry ∷ []) ∙ ap (λ (n : ℕ). n + 1) is in
    let served : thread < 8 = omega (arith, few) in
    let gone = none.none thread (omega arith) in
    let first = one_kept placement state memory adds.0 entry thread is keeps homes.0 served gone adds.1 in
    let rest = threads_kept entries (placed_thread placement thread entry memory adds.0 adds.1)
    (record state {
      threads = state.threads ++ start_thread thread entry ∷ [];
      pages = state.pages ++ pages_of_thread thread entry.home;
    }) adds.0 new (thread + 1) count first
    (record {
      none = λ number above. other_thread state.pages thread number entry.home (λ same. absurd (omega (arith, same, above)))
          (none.none number (omega (arith, above)));
    }) homes.1 (omega (arith, few)) adds.2 in
    subst (λ threads. Keeps
    (placed_threads (placed_thread placement thread entry memory adds.0 adds.1) (thread + 1) entries adds.0 new adds.2)
    (record state {
      threads = threads;
      pages = state.pages ++ (pages_of_thread thread entry.home ++ pages_of_threads (thread + 1) entries);
    }) new)
    (append_assoc state.threads (start_thread thread entry ∷ []) (start_threads (thread + 1) entries))
    (subst (λ pages. Keeps
    (placed_threads (placed_thread placement thread entry memory adds.0 adds.1) (thread + 1) entries adds.0 new adds.2)
    (record state {
      threads = (state.threads ++ start_thread thread entry ∷ []) ++ start_threads (thread + 1) entries;
      pages = pages;
    }) new)
    (append_assoc state.pages (pages_of_thread thread entry.home) (pages_of_threads (thread + 1) entries)) rest)
