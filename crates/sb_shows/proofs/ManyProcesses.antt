-- The processes of a start are added one after another.
use Rattle.std.proofs.Common.{◌≡◌, ◌≢◌, ◌∙◌, sym, ap, subst, ℕ, ◌+◌, ◌≤◌, List, [], ◌∷◌, ◌++◌, length, append_assoc, arith}
use Rattle.std.specs.Prelude.{None, map}
use Rattle.std.specs.List.{AllByRecursion}
use Rattle.std.proofs.lemmas.List.{append-nil, length-append}
use Rattle.sb_memory.specs.Physical.{Physical}
use Rattle.sb_state.specs.declared.page.PageName.{PageName}
use Rattle.sb_state.specs.declared.page.PageName.TheVariants.{Text, Area, Data, Heap, Pool, ServerStack}
use Rattle.sb_state.specs.declared.page.Page.{Page}
use Rattle.sb_trace.specs.PageWords.{zeros}
use Rattle.sb_trace.specs.State.{State, find_page, page_with}
use Rattle.sb_trace.specs.Start.{ProcessImage, padded_page, padded_pages, page_count, heap_page, heap_pages, process_pages, start_process, images_pages}
use Rattle.sb_state.proofs.Names.{name_other}
use Rattle.sb_shows.specs.Placement.{Placement}
use Rattle.sb_shows.specs.Keeping.{Keeps}
use Rattle.sb_shows.specs.Starts.{HasNoPages}
use Rattle.sb_shows.specs.StartLaws.{ImageFitsWindows}
use Rattle.sb_shows.specs.WholeStart.{AddsWholeProcess, placed_process, AddsProcesses, placed_processes}
use Rattle.sb_shows.proofs.Adding.{added_other}
use Rattle.sb_shows.proofs.NewPages.{absent_after}
use Rattle.sb_shows.proofs.WholeProcesses.{whole_kept}

-- ---- names that no page of a process has

-- a name that is none of a process's is not there after its pages
pub absent_process : (pages : List Page) (process : ℕ) (image : ProcessImage) (name : PageName)
    → ((page : ℕ) → Text process page ≢ name) → ((page : ℕ) → Area process page ≢ name)
    → ((page : ℕ) → Data process page ≢ name) → ((page : ℕ) → Heap process page ≢ name) → Pool process ≢ name
    → find_page pages name ≡ None → find_page (pages ++ process_pages process image) name ≡ None
unfolding process_pages
absent_process pages process image name text area initial heap pool none =
    let first = padded_pages (Text process) 0xCC image.text in
    let second = padded_pages (Area process) 0xCC image.area in
    let third = padded_pages (Data process) 0 image.initial in
    let fourth = heap_pages process image.heap_pages in
    let last = page_with (Pool process) zeros ∷ [] in
    let one = absent_after pages (padded_page (Text process) 0xCC image.text) 0 (page_count (length image.text)) name text none in
    let two = absent_after (pages ++ first) (padded_page (Area process) 0xCC image.area) 0 (page_count (length image.area)) name
    area one in
    let three = absent_after ((pages ++ first) ++ second) (padded_page (Data process) 0 image.initial) 0
    (page_count (length image.initial)) name initial two in
    let four = absent_after (((pages ++ first) ++ second) ++ third) (heap_page process) 0 image.heap_pages name heap three in
    let all : find_page ((((pages ++ first) ++ second) ++ third) ++ (fourth ++ last)) name ≡ None =
    ap (λ list. find_page list name) (sym (append_assoc (((pages ++ first) ++ second) ++ third) fourth last))
    ∙ (added_other ((((pages ++ first) ++ second) ++ third) ++ fourth) (page_with (Pool process) zeros) name
    (name_other (Pool process) name pool) ∙ four) in
    ap (λ list. find_page list name)
    (sym (append_assoc pages first (second ++ (third ++ (fourth ++ last))))
    ∙ (sym (append_assoc (pages ++ first) second (third ++ (fourth ++ last)))
    ∙ sym (append_assoc ((pages ++ first) ++ second) third (fourth ++ last)))) ∙ all

-- none of the pages of the processes from a number on is there
pub record HasNoPagesFrom (pages : List Page) (first : ℕ) : Type 0 where
  pub none : (process : ℕ) → first ≤ process → HasNoPages pages process

pub other_process : (pages : List Page) (process number : ℕ) (image : ProcessImage) → process ≢ number → HasNoPages pages number
    → HasNoPages (pages ++ process_pages process image) number
other_process pages process number image differ none = record {
  area = λ page. absent_process pages process image (Area number page) (λ one e. cc)
      (λ one e. differ (let same : process ≡ number = cc in same)) (λ one e. cc) (λ one e. cc) (λ e. cc) (none.area page);
  text = λ page. absent_process pages process image (Text number page)
      (λ one e. differ (let same : process ≡ number = cc in same)) (λ one e. cc) (λ one e. cc) (λ one e. cc) (λ e. cc)
      (none.text page);
  initial = λ page. absent_process pages process image (Data number page) (λ one e. cc) (λ one e. cc)
      (λ one e. differ (let same : process ≡ number = cc in same)) (λ one e. cc) (λ e. cc) (none.initial page);
  heap = λ page. absent_process pages process image (Heap number page) (λ one e. cc) (λ one e. cc) (λ one e. cc)
      (λ one e. differ (let same : process ≡ number = cc in same)) (λ e. cc) (none.heap page);
  stacks = λ page. absent_process pages process image (ServerStack number page) (λ one e. cc) (λ one e. cc) (λ one e. cc)
      (λ one e. cc) (λ e. cc) (none.stacks page);
  pool =
      absent_process pages process image (Pool number) (λ one e. cc) (λ one e. cc) (λ one e. cc) (λ one e. cc)
      (λ e. differ (let same : process ≡ number = cc in same)) none.pool;
}

-- ---- one after another

-- the state with the processes of images
abbrev pub with_images : State → ℕ → List ProcessImage → State
with_images state process images = record state {
  processes = state.processes ++ map start_process images;
  pages = state.pages ++ images_pages process images;
}

one_kept : (placement : Placement) (state : State) (memory new : Physical) (image : ProcessImage) (process : ℕ)
    → length state.processes ≡ process → Keeps placement state memory → HasNoPages state.pages process → ImageFitsWindows image
    → (adds : AddsWholeProcess placement process image memory new)
    → Keeps (placed_process placement process image memory new adds)
    (record state {
      processes = state.processes ++ start_process image ∷ [];
      pages = state.pages ++ process_pages process image;
    }) new
one_kept placement state memory new image process is keeps none fits =
    subst (λ n. HasNoPages state.pages n → (adds : AddsWholeProcess placement n image memory new)
    → Keeps (placed_process placement n image memory new adds)
    (record state {
      processes = state.processes ++ start_process image ∷ [];
      pages = state.pages ++ process_pages n image;
    }) new) is
    (λ gone adds. (whole_kept placement state memory adds.built new image keeps gone fits adds.tables adds.pages).keeps) none

pub processes_kept : (images : List ProcessImage) (placement : Placement) (state : State) (memory new : Physical) (process : ℕ)
    → length state.processes ≡ process → Keeps placement state memory → HasNoPagesFrom state.pages process
    → AllByRecursion ImageFitsWindows images → (adds : AddsProcesses placement process images memory new)
    → Keeps (placed_processes placement process images memory new adds) (with_images state process images) new
processes_kept [] placement state memory new process is keeps none fits adds =
    subst (λ processes. Keeps placement (record state { processes = processes; pages = state.pages ++ [] }) new)
    (sym (append-nil state.processes))
    (subst (λ pages. Keeps placement (record state { pages = pages }) new) (sym (append-nil state.pages))
    (subst (Keeps placement state) (sym adds) keeps))
processes_kept (image ∷ images) placement state memory new process is keeps none fits adds =
    let placed = placed_process placement process image memory adds.0 adds.1 in
    let between : State = record state {
      processes = state.processes ++ start_process image ∷ [];
      pages = state.pages ++ process_pages process image;
    } in
    let count : length (state.processes ++ start_process image ∷ []) ≡ process + 1 =
    length-append state.processes (start_process image ∷ []) ∙ ap (λ (n : ℕ). n + 1) is in
    let first = one_kept placement state memory adds.0 image process is keeps (none.none process (omega arith)) fits.0 adds.1 in
    let rest = processes_kept images (placed_process placement process image memory adds.0 adds.1)
    (record state {
      processes = state.processes ++ start_process image ∷ [];
      pages = state.pages ++ process_pages process image;
    }) adds.0 new (process + 1) count first
    (record {
      none = λ number above. other_process state.pages process number image (λ same. absurd (omega (arith, same, above)))
          (none.none number (omega (arith, above)));
    }) fits.1 adds.2 in
    subst (λ processes. Keeps
    (placed_processes (placed_process placement process image memory adds.0 adds.1) (process + 1) images adds.0 new adds.2)
    (record state {
      processes = processes;
      pages = state.pages ++ (process_pages process image ++ images_pages (process + 1) images);
    }) new)
    (append_assoc state.processes (start_process image ∷ []) (map start_process images))
    (subst (λ pages. Keeps
    (placed_processes (placed_process placement process image memory adds.0 adds.1) (process + 1) images adds.0 new adds.2)
    (record state {
      processes = (state.processes ++ start_process image ∷ []) ++ map start_process images;
      pages = pages;
    }) new)
    (append_assoc state.pages (process_pages process image) (images_pages (process + 1) images)) rest)
