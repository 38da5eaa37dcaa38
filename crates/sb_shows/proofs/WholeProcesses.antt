-- A process of an image is added whole: its tables, and its pages.
use Rattle.std.proofs.Common.{◌≡◌, ◌≢◌, sym, subst, ℕ, ◌+◌, ◌<◌, false, List, [], ◌∷◌, ◌++◌, length, refl, arith}
use Rattle.std.specs.Prelude.{None}
use Rattle.std.proofs.lemmas.List.{length-append}
use Rattle.sb_state.specs.declared.page.PageName.{PageName}
use Rattle.sb_state.specs.declared.page.PageName.TheVariants.{Text, Area, Data, Heap, Pool}
use Rattle.sb_state.specs.declared.page.Page.{Page}
use Rattle.sb_state.specs.declared.state.Thread.{Thread}
use Rattle.sb_trace.specs.PageWords.{zeros}
use Rattle.sb_trace.specs.State.{find_page, page_with}
use Rattle.sb_trace.specs.Start.{ProcessImage, padded_page, padded_pages, page_count, heap_page, heap_pages, process_pages, start_process}
use Rattle.sb_state.proofs.Filling.{page_size}
use Rattle.sb_state.proofs.Start.{zeros_size}
use Rattle.sb_shows.specs.Placement.{is_own}
use Rattle.sb_shows.specs.Calls.{IsSeenIn, AreNewPages, placed_all}
use Rattle.sb_shows.specs.Starts.{HasNoPages, placed_tables, with_new_process}
use Rattle.sb_shows.specs.StartLaws.{ImageFitsWindows, WholeProcessesKeep}
use Rattle.sb_shows.proofs.AddingPages.{pages_kept}
use Rattle.sb_shows.proofs.InPlace.{kept_in_place, stays_then}
use Rattle.sb_shows.proofs.NewPages.{absent_after, new_from, new_both}
use Rattle.sb_shows.proofs.Processes.{process_kept}
use Rattle.sb_shows.proofs.Seen.{area_seen, text_seen, data_seen, heap_seen, pool_seen}

-- ---- pages of bytes

-- bytes that go over several pages
new_padded : (name : ℕ → PageName) (filler : ℕ) (bytes : List ℕ) (threads : List Thread) (count : ℕ) (pages : List Page)
    (process : ℕ)
    → ((one other : ℕ) → one ≢ other → name one ≢ name other) → ((page : ℕ) → is_own (name page) ≡ false)
    → ((page : ℕ) → page < page_count (length bytes) → IsSeenIn threads count (name page) (process ∷ []))
    → ((page : ℕ) → find_page pages (name page) ≡ None)
    → AreNewPages threads count pages (process ∷ []) (padded_pages name filler bytes)
new_padded name filler bytes threads count pages process differ own seen none =
    new_from (page_count (length bytes)) 0 (padded_page name filler bytes) threads count pages (process ∷ []) differ
    (λ page above below. record {
      shared_page = own page;
      size = page_size filler bytes page;
      seen = seen page (omega (arith, below));
    })
    (λ page above. none page)

-- ---- the pages of a process

module _ (threads : List Thread) (count : ℕ) (pages : List Page) (process : ℕ) (image : ProcessImage) (there : process < count)
    (fits : ImageFitsWindows image) (none : HasNoPages pages process) where
  abbrev with_text : List Page
  with_text = pages ++ padded_pages (Text process) 0xCC image.text

  abbrev with_area : List Page
  with_area = with_text ++ padded_pages (Area process) 0xCC image.area

  abbrev with_data : List Page
  with_data = with_area ++ padded_pages (Data process) 0 image.initial

  abbrev with_heap : List Page
  with_heap = with_data ++ heap_pages process image.heap_pages

  after_text : (name : PageName) → ((page : ℕ) → Text process page ≢ name) → find_page pages name ≡ None
      → find_page with_text name ≡ None
  after_text name differ gone =
      absent_after pages (padded_page (Text process) 0xCC image.text) 0 (page_count (length image.text)) name differ gone

  after_area : (name : PageName) → ((page : ℕ) → Text process page ≢ name) → ((page : ℕ) → Area process page ≢ name)
      → find_page pages name ≡ None → find_page with_area name ≡ None
  after_area name differ other gone =
      absent_after with_text (padded_page (Area process) 0xCC image.area) 0 (page_count (length image.area)) name other
      (after_text name differ gone)

  after_data : (name : PageName) → ((page : ℕ) → Text process page ≢ name) → ((page : ℕ) → Area process page ≢ name)
      → ((page : ℕ) → Data process page ≢ name) → find_page pages name ≡ None → find_page with_data name ≡ None
  after_data name differ other another gone =
      absent_after with_area (padded_page (Data process) 0 image.initial) 0 (page_count (length image.initial)) name another
      (after_area name differ other gone)

  after_heap : find_page with_heap (Pool process) ≡ None
  after_heap =
      absent_after with_data (heap_page process) 0 image.heap_pages (Pool process) (λ page e. cc)
      (after_data (Pool process) (λ page e. cc) (λ page e. cc) (λ page e. cc) none.pool)

  new_text : AreNewPages threads count pages (process ∷ []) (padded_pages (Text process) 0xCC image.text)
  unfolding is_own
  new_text =
      let most = fits.text in
      new_padded (Text process) 0xCC image.text threads count pages process
      (λ one other differ same. differ (let e : one ≡ other = cc in e)) (λ page. refl)
      (λ page below. text_seen threads count process page there (omega arith)) none.text

  new_area : AreNewPages threads count with_text (process ∷ []) (padded_pages (Area process) 0xCC image.area)
  unfolding is_own
  new_area =
      let most = fits.area in
      new_padded (Area process) 0xCC image.area threads count with_text process
      (λ one other differ same. differ (let e : one ≡ other = cc in e)) (λ page. refl)
      (λ page below. area_seen threads count process page there (omega arith))
      (λ page. after_text (Area process page) (λ one e. cc) (none.area page))

  new_data : AreNewPages threads count with_area (process ∷ []) (padded_pages (Data process) 0 image.initial)
  unfolding is_own
  new_data =
      let most = fits.initial in
      new_padded (Data process) 0 image.initial threads count with_area process
      (λ one other differ same. differ (let e : one ≡ other = cc in e)) (λ page. refl)
      (λ page below. data_seen threads count process page there (omega arith))
      (λ page. after_area (Data process page) (λ one e. cc) (λ one e. cc) (none.initial page))

  new_heap : AreNewPages threads count with_data (process ∷ []) (heap_pages process image.heap_pages)
  unfolding is_own
  new_heap =
      let most = fits.heap in
      new_from image.heap_pages 0 (heap_page process) threads count with_data (process ∷ [])
      (λ one other differ same. differ (let e : one ≡ other = cc in e))
      (λ page above below. record {
        shared_page = refl;
        size = zeros_size;
        seen = heap_seen threads count process page there (omega arith);
      })
      (λ page above. after_data (Heap process page) (λ one e. cc) (λ one e. cc) (λ one e. cc) (none.heap page))

  new_pool : AreNewPages threads count with_heap (process ∷ []) (page_with (Pool process) zeros ∷ [])
  unfolding is_own
  new_pool = (
    record { absent = after_heap; shared_page = refl; size = zeros_size; seen = pool_seen threads count process there },
    tt,
  )

  -- the pages of an image are new
  pub process_new : AreNewPages threads count pages (process ∷ []) (process_pages process image)
  unfolding process_pages
  process_new =
      new_both (padded_pages (Text process) 0xCC image.text) _ pages threads count (process ∷ []) new_text
      (new_both (padded_pages (Area process) 0xCC image.area) _ with_text threads count (process ∷ []) new_area
      (new_both (padded_pages (Data process) 0 image.initial) _ with_area threads count (process ∷ []) new_data
      (new_both (heap_pages process image.heap_pages) _ with_data threads count (process ∷ []) new_heap new_pool)))

-- a process is added whole, and what was there stays in its place
pub whole_kept : WholeProcessesKeep
whole_kept placement state memory mid new image keeps none fits tables adds =
    let number = length state.processes in
    let joined = with_new_process state (start_process image) in
    let placed = placed_tables placement number tables.set in
    let pages = process_pages (length state.processes) image in
    let after = placed_all (placed_tables placement (length state.processes) tables.set) (length state.processes ∷ [])
    (process_pages (length state.processes) image) mid new adds in
    let count : length joined.processes ≡ length state.processes + 1 =
    length-append state.processes (start_process image ∷ []) in
    let there : length state.processes < length joined.processes =
    subst (λ n. length state.processes < n) (sym count) (omega arith) in
    let made = process_kept placement state memory mid (start_process image) keeps none tables in
    let added = pages_kept pages placed joined mid new (length state.processes ∷ []) made.in_place.keeps
    (process_new state.threads (length joined.processes) state.pages (length state.processes) image there fits none) adds in
    kept_in_place placement after state (record joined { pages = state.pages ++ pages }) memory new keeps added.keeps
    (stays_then placement placed after state joined (record joined { pages = state.pages ++ pages }) made.in_place.stays
    added.stays)
