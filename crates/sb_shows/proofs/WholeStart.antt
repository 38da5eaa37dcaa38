-- A start as a whole keeps the first state: processes and threads are added one after another, and the pages are those of the
-- first state in another order.
use Rattle.std.proofs.Common.{◌≡◌, ◌≢◌, ◌∙◌, sym, ap, subst, ℕ, ◌+◌, ◌<◌, ◌≤◌, ◌==◌, Bool, true, false, List, [], ◌∷◌, ◌++◌, length, refl, arith}
use Rattle.std.specs.Prelude.{Option, Some, None, if◌then◌else◌}
use Rattle.std.specs.List.{AllByRecursion}
use Rattle.std.proofs.lemmas.List.{length-map}
use Rattle.std.proofs.lemmas.Bool.{eqb-true, eqb-false}
use Rattle.sb_state.specs.declared.page.PageName.{PageName}
use Rattle.sb_state.specs.declared.page.PageName.TheVariants.{Text, Area, Data, Heap, Pool, ServerStack, Save, Stack, Buffer, Record, Scratch, HomeTrampoline, ServerTrampoline}
use Rattle.sb_state.specs.declared.page.Page.{Page}
use Rattle.sb_trace.specs.PageWords.{zeros}
use Rattle.sb_trace.specs.State.{find_page, page_with, thread_at}
use Rattle.sb_trace.specs.Start.{ProcessImage, ThreadEntry, padded_page, padded_pages, page_count, heap_page, heap_pages, process_pages, home_words, record_bytes, thread_pages, trampoline_pages, images_pages, threads_pages, start_process, start_state}
use Rattle.sb_state.proofs.Names.{name_other}
use Rattle.sb_state.proofs.PageLists.{either, found_added}
use Rattle.sb_state.proofs.Start.{EachPage, each_both, each_from}
use Rattle.sb_shows.specs.Placement.{is_own}
use Rattle.sb_shows.specs.Threads.{SameSight}
use Rattle.sb_shows.specs.Starts.{first_placement, save_and_stack}
use Rattle.sb_shows.specs.WholeStart.{state_before_processes, placed_processes, StartsKeep}
use Rattle.sb_shows.proofs.Adding.{last_by}
use Rattle.sb_shows.proofs.ManyProcesses.{HasNoPagesFrom, with_images, processes_kept}
use Rattle.sb_shows.proofs.ManyThreads.{HasNoThreadsFrom, pages_of_thread, pages_of_threads, with_entries, threads_kept}
use Rattle.sb_shows.proofs.Starting.{first_kept}
use Rattle.sb_shows.proofs.Threads.{keeps_moved}

-- ---- pages by what a word says of their names

none_apart : {A : Type 0} (word : PageName → A) (value : A) (pages : List Page) (name : PageName)
    → EachPage (λ page. word page.name ≡ value) pages → word name ≢ value → find_page pages name ≡ None
none_apart word value [] name each differ = refl
none_apart word value (page ∷ pages) name each differ =
    ap (λ (test : Bool). if test then Some page else find_page pages name)
    (name_other page.name name (λ same. differ (ap word (sym same) ∙ each.0)))
    ∙ none_apart word value pages name each.1 differ

-- whether a page is of the trampoline, of a process or of a thread
abbrev kind : PageName → ℕ
kind HomeTrampoline = 0
kind ServerTrampoline = 0
kind (Text process page) = 1
kind (Area process page) = 1
kind (Data process page) = 1
kind (Heap process page) = 1
kind (Pool process) = 1
kind (ServerStack process page) = 1
kind (Save thread) = 2
kind (Stack thread page) = 2
kind (Buffer thread index page) = 2
kind (Record thread view) = 2
kind (Scratch thread view) = 2

abbrev OfKind : ℕ → Page → Type 0
OfKind number page = kind page.name ≡ number

trampoline_kind : EachPage (OfKind 0) trampoline_pages
unfolding trampoline_pages
trampoline_kind = (refl, (refl, tt))

process_kind : (process : ℕ) (image : ProcessImage) → EachPage (OfKind 1) (process_pages process image)
unfolding process_pages
process_kind process image =
    each_both (OfKind 1) (padded_pages (Text process) 0xCC image.text) _
    (each_from (OfKind 1) (padded_page (Text process) 0xCC image.text) 0 (page_count (length image.text)) (λ page. refl))
    (each_both (OfKind 1) (padded_pages (Area process) 0xCC image.area) _
    (each_from (OfKind 1) (padded_page (Area process) 0xCC image.area) 0 (page_count (length image.area)) (λ page. refl))
    (each_both (OfKind 1) (padded_pages (Data process) 0 image.initial) _
    (each_from (OfKind 1) (padded_page (Data process) 0 image.initial) 0 (page_count (length image.initial)) (λ page. refl))
    (each_both (OfKind 1) (heap_pages process image.heap_pages) (page_with (Pool process) zeros ∷ [])
    (each_from (OfKind 1) (heap_page process) 0 image.heap_pages (λ page. refl)) (refl, tt))))

images_kind : (images : List ProcessImage) (process : ℕ) → EachPage (OfKind 1) (images_pages process images)
images_kind [] process = tt
images_kind (image ∷ images) process =
    each_both (OfKind 1) (process_pages process image) (images_pages (process + 1) images) (process_kind process image)
    (images_kind images (process + 1))

threads_kind : (entries : List ThreadEntry) (thread : ℕ) → EachPage (OfKind 2) (pages_of_threads thread entries)
threads_kind [] thread = tt
threads_kind (entry ∷ entries) thread =
    each_both (OfKind 2) (pages_of_thread thread entry.home) (pages_of_threads (thread + 1) entries)
    (refl, (refl, (refl, (refl, (refl, (refl, (refl, tt))))))) (threads_kind entries (thread + 1))

-- ---- the pages of threads, in either order

abbrev view_pages : ℕ → ℕ → List Page
view_pages thread home =
    page_with (Record thread 0) (record_bytes (home_words thread home)) ∷ page_with (Scratch thread 0) zeros ∷ []

either_by : (own : Bool) (thread home : ℕ) (name : PageName) → is_own name ≡ own
    → either (find_page (save_and_stack thread) name) (find_page (view_pages thread home) name)
    ≡ either (find_page (view_pages thread home) name) (find_page (save_and_stack thread) name)
unfolding is_own
either_by true thread home name is =
    let none = none_apart is_own false (save_and_stack thread) name (refl, (refl, (refl, (refl, (refl, tt)))))
    (λ same. let e = sym is ∙ same in cc) in
    ap (λ found. either found (find_page (view_pages thread home) name)) none
    ∙ sym (ap (either (find_page (view_pages thread home) name)) none ∙ last_by (find_page (view_pages thread home) name))
either_by false thread home name is =
    let none = none_apart is_own true (view_pages thread home) name (refl, (refl, tt)) (λ same. let e = sym is ∙ same in cc) in
    ap (either (find_page (save_and_stack thread) name)) none
    ∙ (last_by (find_page (save_and_stack thread) name)
    ∙ sym (ap (λ found. either found (find_page (save_and_stack thread) name)) none))

thread_same : (thread home : ℕ) (name : PageName)
    → find_page (thread_pages thread home) name ≡ find_page (pages_of_thread thread home) name
unfolding thread_pages
thread_same thread home name =
    found_added (save_and_stack thread) (view_pages thread home) name
    ∙ (either_by (is_own name) thread home name refl
    ∙ sym (found_added (view_pages thread home) (save_and_stack thread) name))

threads_same : (entries : List ThreadEntry) (thread : ℕ) (name : PageName)
    → find_page (threads_pages thread entries) name ≡ find_page (pages_of_threads thread entries) name
threads_same [] thread name = refl
threads_same (entry ∷ entries) thread name =
    found_added (thread_pages thread entry.home) (threads_pages (thread + 1) entries) name
    ∙ (ap (λ found. either found (find_page (threads_pages (thread + 1) entries) name)) (thread_same thread entry.home name)
    ∙ (ap (either (find_page (pages_of_thread thread entry.home) name)) (threads_same entries (thread + 1) name)
    ∙ sym (found_added (pages_of_thread thread entry.home) (pages_of_threads (thread + 1) entries) name)))

-- ---- the pages of the first state, in either order

module _ (images : List ProcessImage) (entries : List ThreadEntry) (name : PageName) where
  abbrev first : Option Page
  first = find_page trampoline_pages name

  abbrev second : Option Page
  second = find_page (images_pages 0 images) name

  abbrev third : Option Page
  third = find_page (pages_of_threads 0 entries) name

  no_trampoline : kind name ≢ 0 → first ≡ None
  no_trampoline differ = none_apart kind 0 trampoline_pages name trampoline_kind differ

  no_image : kind name ≢ 1 → second ≡ None
  no_image differ = none_apart kind 1 (images_pages 0 images) name (images_kind images 0) differ

  no_thread : kind name ≢ 2 → third ≡ None
  no_thread differ = none_apart kind 2 (pages_of_threads 0 entries) name (threads_kind entries 0) differ

  order_by : (zero_kind one_kind : Bool) → (kind name == 0) ≡ zero_kind → (kind name == 1) ≡ one_kind
      → either second (either third first) ≡ either (either first second) third
  order_by true one_kind is other =
      let here = eqb-true (kind name) 0 is in
      let image = no_image (λ same. let e : 0 ≡ 1 = sym here ∙ same in cc) in
      let thread = no_thread (λ same. let e : 0 ≡ 2 = sym here ∙ same in cc) in
      ap (λ found. either found (either third first)) image
      ∙ (ap (λ found. either found first) thread
      ∙ sym (ap (either (either first second)) thread ∙ (last_by (either first second) ∙ (ap (either first) image
      ∙ last_by first))))
  order_by false true is other =
      let here = eqb-true (kind name) 1 other in
      let trampoline = no_trampoline (eqb-false (kind name) 0 is) in
      let thread = no_thread (λ same. let e : 1 ≡ 2 = sym here ∙ same in cc) in
      ap (λ found. either second (either found first)) thread
      ∙ (ap (either second) trampoline
      ∙ (last_by second
      ∙ sym (ap (either (either first second)) thread ∙ (last_by (either first second)
      ∙ ap (λ found. either found second) trampoline))))
  order_by false false is other =
      let trampoline = no_trampoline (eqb-false (kind name) 0 is) in
      let image = no_image (eqb-false (kind name) 1 other) in
      ap (λ found. either found (either third first)) image
      ∙ (ap (either third) trampoline
      ∙ (last_by third
      ∙ sym (ap (λ found. either (either found second) third) trampoline ∙ ap (λ found. either found third) image)))

  pub pages_same : find_page (images_pages 0 images ++ (threads_pages 0 entries ++ trampoline_pages)) name
      ≡ find_page ((trampoline_pages ++ images_pages 0 images) ++ pages_of_threads 0 entries) name
  pages_same =
      found_added (images_pages 0 images) (threads_pages 0 entries ++ trampoline_pages) name
      ∙ (ap (either second) (found_added (threads_pages 0 entries) trampoline_pages name
      ∙ ap (λ found. either found first) (threads_same entries 0 name))
      ∙ (order_by (kind name == 0) (kind name == 1) refl refl
      ∙ sym (found_added (trampoline_pages ++ images_pages 0 images) (pages_of_threads 0 entries) name
      ∙ ap (λ found. either found third) (found_added trampoline_pages (images_pages 0 images) name))))

-- ---- what is not there yet

pub no_process_yet : HasNoPagesFrom trampoline_pages 0
no_process_yet = record {
  none = λ process above. record {
    area = λ page. none_apart kind 0 trampoline_pages (Area process page) trampoline_kind (λ e. cc);
    text = λ page. none_apart kind 0 trampoline_pages (Text process page) trampoline_kind (λ e. cc);
    initial = λ page. none_apart kind 0 trampoline_pages (Data process page) trampoline_kind (λ e. cc);
    heap = λ page. none_apart kind 0 trampoline_pages (Heap process page) trampoline_kind (λ e. cc);
    stacks = λ page. none_apart kind 0 trampoline_pages (ServerStack process page) trampoline_kind (λ e. cc);
    pool = none_apart kind 0 trampoline_pages (Pool process) trampoline_kind (λ e. cc);
  };
}

no_page_yet : (images : List ProcessImage) (name : PageName) → kind name ≡ 2
    → find_page (trampoline_pages ++ images_pages 0 images) name ≡ None
no_page_yet images name is =
    found_added trampoline_pages (images_pages 0 images) name
    ∙ (ap (λ found. either found (find_page (images_pages 0 images) name))
    (none_apart kind 0 trampoline_pages name trampoline_kind (λ same. let e : 2 ≡ 0 = sym is ∙ same in cc))
    ∙ none_apart kind 1 (images_pages 0 images) name (images_kind images 0) (λ same. let e : 2 ≡ 1 = sym is ∙ same in cc))

pub no_thread_yet : (images : List ProcessImage) → HasNoThreadsFrom (trampoline_pages ++ images_pages 0 images) 0
no_thread_yet images = record {
  none = λ thread above. record {
    words = no_page_yet images (Record thread 0) refl;
    scratch = no_page_yet images (Scratch thread 0) refl;
    buffers = λ index page. no_page_yet images (Buffer thread index page) refl;
    save = no_page_yet images (Save thread) refl;
    stack = λ page. no_page_yet images (Stack thread page) refl;
  };
}

-- ---- the start

pub start_sight : (images : List ProcessImage) (entries : List ThreadEntry) (free : ℕ) (keys : List ℕ)
    → SameSight (with_entries (with_images (state_before_processes free keys) 0 images) 0 entries)
    (start_state images entries free keys)
unfolding thread_at
start_sight images entries free keys = record {
  pages = λ name. pages_same images entries name;
  processes = refl;
  shows = λ thread view. refl;
  home = λ thread. refl;
}

-- the state at the start is kept
pub start_kept : StartsKeep
start_kept sets memory mid new images entries free keys is fits homes few processes threads =
    let begun = first_kept sets (state_before_processes free keys) memory is in
    let with_all =
    processes_kept images (first_placement sets) (state_before_processes free keys) memory mid 0 refl begun no_process_yet fits
    processes in
    let at_home = subst (λ n. AllByRecursion (λ entry. entry.home < n) entries) (sym (length-map images start_process)) homes in
    let small : length entries ≤ 8 = few in
    let joined = threads_kept entries (placed_processes (first_placement sets) 0 images memory mid processes)
    (with_images (state_before_processes free keys) 0 images) mid new 0 refl with_all (no_thread_yet images) at_home
    (omega (arith, small)) threads in
    keeps_moved _ (with_entries (with_images (state_before_processes free keys) 0 images) 0 entries)
    (start_state images entries free keys) new (start_sight images entries free keys) joined
