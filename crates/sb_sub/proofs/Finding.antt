-- In a memory that stands for a state, the heap that is found by walks is the state's, and so is the pattern in it.
use Rattle.std.proofs.Common.{◌≡◌, ◌∙◌, sym, ap, subst, ℕ, ◌+◌, ◌-◌, ◌/◌, ◌<◌, ◌≤◌, ◌==◌, Bool, true, false, nat_lt, List, [], ◌++◌, length, take, drop, refl, arith}
use Rattle.std.specs.Prelude.{Option, Some, None, IfOk, if◌then◌else◌, slice_get}
use Rattle.std.specs.Option.{option_map}
use Rattle.std.proofs.lemmas.Option.{slice_get-map, slice_get_within}
use Rattle.std.proofs.lemmas.Grind.{common_steps}
use Rattle.sb_memory.specs.Physical.{Physical, frame_count}
use Rattle.sb_memory.specs.declared.address.Access.{Access}
use Rattle.sb_memory.specs.declared.address.Access.TheVariants as access
use Rattle.sb_memory.specs.declared.address.Frame.{Frame}
use Rattle.sb_frames.specs.Book.{Book}
use Rattle.sb_pagewalk.specs.declared.table_set.TableSet.{TableSet}
use Rattle.sb_pagewalk.specs.TableSet.{walked_in}
use Rattle.sb_root.specs.declared.root_kernel.RootKernel.{RootKernel}
use Rattle.sb_state.specs.declared.page.PageName.TheVariants.{Heap}
use Rattle.sb_state.specs.declared.page.Page.{Page}
use Rattle.sb_trace.specs.State.{State, Process, find_page, process_at}
use Rattle.sb_trace.specs.SyscallProtect.{heap_count}
use Rattle.sb_trace.specs.Pattern.{heap_pattern, heap_address, first_pattern, pattern_around, bytes_before, bytes_behind, executable_bytes}
use Rattle.sb_trace.proofs.TablePages.{heap_there, heap_below}
use Rattle.sb_shows.specs.Placement.{IsThere}
use Rattle.sb_sub.specs.Kernel.{Entry, Kernel, process_of}
use Rattle.sb_mapping.specs.StartPages.{heap_at}
use Rattle.sb_sub.specs.Heap.{FindsHeap, heap_frame, frame_bytes, frame_before, frame_behind, pattern_where, pattern_at}
use Rattle.sb_sub.specs.StandsFor.{StandsFor}
use Rattle.sb_sub.proofs.Led.{inside, above, read_frame, walk_fact, bytes_are, executed_are}

-- a page that may be there is absent
absent_by : (found : Option Page) → ((page : Page) → found ≡ Some page → ⊥) → executable_bytes found ≡ []
absent_by None none = refl
absent_by (Some page) none = absurd (none page refl)

module _ (kernel : Kernel) (root : RootKernel) (book : Book) (memory : Physical) (state : State)
    (stands : StandsFor kernel root book memory state)
    (process : ℕ) (entry : Entry) (kept : slice_get kernel.processes process ≡ Some entry) where
  abbrev count : ℕ
  count = entry.process.heap_pages

  pub process_found : slice_get state.processes process ≡ Some entry.process
  process_found =
      ap (λ (list : List Process). slice_get list process) (sym stands.processes)
      ∙ (slice_get-map process_of kernel.processes process ∙ ap (option_map process_of) kept)

  pub process_there : process < length state.processes
  process_there = slice_get_within state.processes process entry.process process_found

  pub set_is : stands.placement.sets process ≡ entry.set
  set_is = stands.sets process entry kept

  pub heap_few : count ≤ 512
  unfolding process_at
  heap_few = subst (λ (found : Option Process). heap_count found ≤ 512) process_found (stands.servable.heaps process)

  pub page_there : (page : ℕ) → page < count → IsThere state.pages (Heap process page)
  unfolding process_at
  page_there page below =
      heap_there state stands.servable.table process page
      (subst (λ (found : Option Process). page < heap_count found) (sym process_found) below)

  page_absent : (page : ℕ) → count ≤ page → (one : Page) → find_page state.pages (Heap process page) ≡ Some one → ⊥
  unfolding process_at
  page_absent page beyond one found =
      let below =
      subst (λ (found : Option Process). page < heap_count found) process_found
      (heap_below state stands.servable.table process page (one, found)) in
      omega (arith, below)

  -- ---- walks

  module _ (page : ℕ) (below : page < count) where
    page_low : page < 512
    page_low = let few = heap_few in omega arith

    abbrev there : IsThere state.pages (Heap process page)
    there = page_there page below

    pub frame_read : heap_frame memory entry.set page access.Read
        ≡ Some (record { 0 = stands.placement.frame (Heap process page) })
    frame_read =
        subst (λ (set : TableSet). heap_frame memory set page access.Read
        ≡ Some (record { 0 = stands.placement.frame (Heap process page) })) set_is
        (read_frame stands.placement state memory process page there.0 stands.keeps process_there page_low there.1)

    fact : (Claim : ℕ → Type 0) (how : Access) → Claim (stands.placement.frame (Heap process page))
        → IfOk (walked_in memory entry.set (heap_at page) how) (λ led. Claim (led.0 / 4096))
    fact Claim how holds =
        subst (λ (set : TableSet). IfOk (walked_in memory set (heap_at page) how) (λ led. Claim (led.0 / 4096))) set_is
        (walk_fact stands.placement state memory process page there.0 stands.keeps process_there page_low there.1 Claim how holds)

    frame_inside : stands.placement.frame (Heap process page) < frame_count memory
    frame_inside = inside stands.placement state memory process page there.0 stands.keeps process_there page_low there.1

    frame_above : 512 ≤ stands.placement.frame (Heap process page)
    frame_above = above stands.placement state memory process page there.0 stands.keeps process_there page_low there.1

    pub executed : frame_bytes memory (heap_frame memory entry.set page access.Fetch)
        ≡ executable_bytes (find_page state.pages (Heap process page))
    executed =
        subst (λ (set : TableSet). frame_bytes memory (heap_frame memory set page access.Fetch)
        ≡ executable_bytes (find_page state.pages (Heap process page))) set_is
        (executed_are stands.placement state memory process page there.0 stands.keeps process_there page_low there.1)

    pub page_bytes : frame_bytes memory (Some (record { 0 = stands.placement.frame (Heap process page) })) ≡ there.0.bytes
    page_bytes = bytes_are stands.placement state memory process page there.0 stands.keeps process_there page_low there.1

  pub finds_heap : FindsHeap memory entry.set count
  finds_heap = record {
    few = heap_few;
    small = (let most = stands.keeps.leads.stands.whole.most in omega arith);
    size = stands.keeps.leads.stands.whole.size.bytes;
    inside = λ page how below. fact page below (λ frame. frame < frame_count memory) how (frame_inside page below);
    above = λ page how below. fact page below (λ frame. 512 ≤ frame) how (frame_above page below);
    there = λ page below. (record { 0 = stands.placement.frame (Heap process page) }, frame_read page below);
  }

  -- ---- the pattern

  module _ (page : ℕ) (below : page < count) where
    before_by : (first : Bool) → (page == 0) ≡ first
        → drop 4094 (frame_bytes memory (if first then None else heap_frame memory entry.set (page - 1) access.Fetch))
        ≡ (if first then [] else drop 4094 (executable_bytes (find_page state.pages (Heap process (page - 1)))))
    before_by true is = refl
    before_by false is = ap (drop 4094) (executed (page - 1) (omega arith))

    before_same : drop 4094 (frame_bytes memory (frame_before memory entry.set page)) ≡ bytes_before state process page
    before_same = before_by (page == 0) refl

    behind_by : (more : Bool) → nat_lt (page + 1) count ≡ more
        → frame_bytes memory (if more then heap_frame memory entry.set (page + 1) access.Fetch else None)
        ≡ executable_bytes (find_page state.pages (Heap process (page + 1)))
    behind_by true is = let next : page + 1 < count = grind (arith, common_steps) in executed (page + 1) next
    behind_by false is =
        let last : count ≤ page + 1 = grind (arith, common_steps) in
        sym (absent_by (find_page state.pages (Heap process (page + 1))) (page_absent (page + 1) last))

    behind_same : take 2 (frame_bytes memory (frame_behind memory entry.set page count)) ≡ bytes_behind state process page
    behind_same = ap (take 2) (behind_by (nat_lt (page + 1) count) refl)

    pub pattern_same : pattern_at memory entry.set page count ≡ heap_pattern state process page
    unfolding heap_pattern
    pattern_same =
        let there = page_there page below in
        ap (λ (found : Option Frame). pattern_where memory page (frame_before memory entry.set page) found
        (frame_behind memory entry.set page count)) (frame_read page below)
        ∙ (ap (λ (prefix : List ℕ). option_map (heap_address page (length prefix))
        (first_pattern
        (prefix ++
        (frame_bytes memory (Some (record { 0 = stands.placement.frame (Heap process page) })) ++ take 2
        (frame_bytes memory (frame_behind memory entry.set page count)))))) before_same
        ∙ (ap (λ (bytes : List ℕ). option_map (heap_address page (length (bytes_before state process page)))
        (first_pattern
        (bytes_before state process page ++
        (bytes ++ take 2 (frame_bytes memory (frame_behind memory entry.set page count)))))) (page_bytes page below)
        ∙ (ap (λ (end : List ℕ). option_map (heap_address page (length (bytes_before state process page)))
        (first_pattern (bytes_before state process page ++ (there.0.bytes ++ end)))) behind_same
        ∙ ap (λ (found : Option Page). option_map (heap_address page (length (bytes_before state process page)))
        (pattern_around (bytes_before state process page) (bytes_behind state process page) found)) (sym there.1))))
