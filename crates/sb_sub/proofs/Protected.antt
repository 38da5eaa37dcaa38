-- A state that is stood for, after protect.
use Rattle.std.proofs.Common.{◌≡◌, ◌∙◌, sym, ap, subst, ℕ, ◌<◌, ◌==◌, Bool, true, false, nat_le, List, [], ◌∷◌, refl, lit<, arith}
use Rattle.std.specs.Prelude.{◌||◌, Option, Some, None, IfNone, if◌then◌else◌, slice_get}
use Rattle.std.specs.Option.{option_map}
use Rattle.std.proofs.lemmas.Grind.{common_steps}
use Rattle.std.proofs.lemmas.Option.{slice_get-map}
use Rattle.sb_memory.specs.Physical.{Physical}
use Rattle.sb_memory.specs.declared.address.Frame.{Frame}
use Rattle.sb_frames.specs.Book.{Book}
use Rattle.sb_pagewalk.specs.declared.table_set.TableSet.{TableSet}
use Rattle.sb_pagewalk.specs.TableSet.{table_frame}
use Rattle.sb_pagewalk.specs.Standing.{HasTables}
use Rattle.sb_root.specs.declared.root_kernel.RootKernel.{RootKernel}
use Rattle.sb_root.specs.Standing.{IsApart, IsBooked, Stands}
use Rattle.sb_state.specs.declared.page.PageName.{PageName}
use Rattle.sb_state.specs.declared.page.PageName.TheVariants.{Heap}
use Rattle.sb_trace.specs.PageName.{mode_of}
use Rattle.sb_trace.specs.State.{State, Process, process_at}
use Rattle.sb_trace.specs.Pattern.{heap_pattern}
use Rattle.sb_trace.specs.SyscallProtect.{heap_count, with_heap_mode}
use Rattle.sb_trace.proofs.TableKept.{mode_names}
use Rattle.sb_trace.proofs.TablePages.{one_table}
use Rattle.sb_abi.specs.declared.call.CallRefusal.{CallRefusal}
use Rattle.sb_abi.specs.declared.call.CallRefusal.TheVariants.{BadPage, BadMode}
use Rattle.sb_calls.specs.Refusals.{protect_refusal}
use Rattle.sb_shows.specs.Placement.{leaf_for, rights_for}
use Rattle.sb_shows.specs.Keeping.{Keeps}
use Rattle.sb_shows.specs.Calls.{SetsPage, ExposesFrame}
use Rattle.sb_shows.proofs.Protecting.{guest_root_apart, protected_keeps}
use Rattle.sb_state.proofs.Cases.{same_some}
use Rattle.sb_sub.specs.Kernel.{Entry, Kernel, process_of}
use Rattle.sb_mapping.specs.StartPages.{heap_at}
use Rattle.sb_sub.specs.Heap.{SetsMode, heap_mode, pattern_at}
use Rattle.sb_sub.specs.Refusals.{with_pattern, page_refusal}
use Rattle.sb_sub.specs.StandsFor.{StandsFor}
use Rattle.sb_sub.specs.Outcomes.{ProtectsBy, after_protect}
use Rattle.sb_sub.proofs.Finding.{process_found, process_there, set_is, page_there, frame_read, heap_few, pattern_same}

mode_is : (process page : ℕ) (executable : Bool) → mode_of (Heap process page) executable ≡ heap_mode executable
unfolding mode_of
mode_is process page executable = refl

module _ (kernel : Kernel) (root : RootKernel) (book : Book) (memory : Physical) (state : State)
    (stands : StandsFor kernel root book memory state)
    (process : ℕ) (entry : Entry) (kept : slice_get kernel.processes process ≡ Some entry) where
  pub tables_stand : HasTables entry.set memory
  tables_stand = subst (λ (set : TableSet). HasTables set memory) (set_is kernel root book memory state stands process entry kept)
      (stands.keeps.leads.guests process (process_there kernel root book memory state stands process entry kept)).tables

  pub root_stands : Stands root memory
  root_stands = subst (λ (one : RootKernel). Stands one memory) stands.rooted stands.keeps.leads.stands

  pub table_apart : IsApart root (table_frame entry.set 7 ∷ [])
  table_apart =
      let first =
      guest_root_apart stands.placement state stands.keeps.apart process 7
      (process_there kernel root book memory state stands process entry kept) (lit< tt) in
      let second =
      subst (λ (set : TableSet). IsApart stands.placement.root (table_frame set 7 ∷ []))
      (set_is kernel root book memory state stands process entry kept) first in
      subst (λ (one : RootKernel). IsApart one (table_frame entry.set 7 ∷ [])) stands.rooted second

  -- ---- a page got a mode

  module _ (page : ℕ) (executable : Bool) (new : Physical) (below : page < entry.process.heap_pages)
      (sets : SetsMode entry.set root memory new page executable) where
    abbrev name : PageName
    name = Heap process page

    frame_is : sets.frame.0 ≡ stands.placement.frame name
    frame_is = ap (λ (frame : Frame). frame.0) (same_some sets.frame (record { 0 = stands.placement.frame name })
        (sym sets.found ∙ frame_read kernel root book memory state stands process entry kept page below))

    page_set : SetsPage (stands.placement.sets process) memory sets.mid (heap_at page)
        (leaf_for (stands.placement.frame name) (mode_of name executable))
    page_set =
        let first =
        subst (λ (frame : ℕ). SetsPage entry.set memory sets.mid (heap_at page) (leaf_for frame (heap_mode executable)))
        frame_is sets.set_page in
        let second =
        subst (λ mode. SetsPage entry.set memory sets.mid (heap_at page) (leaf_for (stands.placement.frame name) mode))
        (sym (mode_is process page executable)) first in
        subst (λ (set : TableSet). SetsPage set memory sets.mid (heap_at page)
        (leaf_for (stands.placement.frame name) (mode_of name executable)))
        (sym (set_is kernel root book memory state stands process entry kept)) second

    page_exposed : ExposesFrame stands.placement.root sets.mid new (stands.placement.frame name)
        (rights_for (mode_of name executable))
    page_exposed =
        let first =
        subst (λ (frame : ℕ). ExposesFrame root sets.mid new frame (rights_for (heap_mode executable))) frame_is
        sets.exposed in
        let second =
        subst (λ mode. ExposesFrame root sets.mid new (stands.placement.frame name) (rights_for mode))
        (sym (mode_is process page executable)) first in
        subst (λ (one : RootKernel). ExposesFrame one sets.mid new (stands.placement.frame name)
        (rights_for (mode_of name executable))) (sym stands.rooted) second

    kept_now : Keeps stands.placement (with_heap_mode state process page executable) new
    kept_now =
        let few = heap_few kernel root book memory state stands process entry kept in
        protected_keeps stands.placement state memory sets.mid new process page executable stands.keeps
        (process_there kernel root book memory state stands process entry kept) (omega arith)
        (page_there kernel root book memory state stands process entry kept page below) page_set page_exposed

    booked_now : IsBooked root book new
    booked_now =
        let mid : IsBooked root book sets.mid =
        subst (IsBooked root book) (sym sets.set_page.written)
        (record { size = stands.booked.size; held = stands.booked.held }) in
        subst (IsBooked root book) (sym sets.exposed.written) (record { size = mid.size; held = mid.held })

    pub protected_stands : StandsFor kernel root book new (with_heap_mode state process page executable)
    unfolding with_heap_mode process_at
    protected_stands = record {
      placement = stands.placement;
      keeps = kept_now;
      rooted = stands.rooted;
      sets = stands.sets;
      processes = stands.processes;
      seats = stands.seats;
      keys = stands.keys;
      servable = record {
        table = one_table state (with_heap_mode state process page executable) refl refl (λ thread view. refl)
            (mode_names state.pages name executable) stands.servable.table;
        heaps = stands.servable.heaps;
        few = stands.servable.few;
        places = stands.servable.places;
      };
      booked = booked_now;
      unused = stands.unused;
      count = stands.count;
    }

  -- ---- the refusal

  refusal_by : (page mode : ℕ) (beyond : Bool) → nat_le entry.process.heap_pages page ≡ beyond
      → with_pattern (if beyond then Some BadPage else if (mode == 0) || (mode == 1) then None else Some BadMode) (mode == 1)
      (pattern_at memory entry.set page entry.process.heap_pages)
      ≡ with_pattern (if beyond then Some BadPage else if (mode == 0) || (mode == 1) then None else Some BadMode) (mode == 1)
      (heap_pattern state process page)
  refusal_by page mode true is = refl
  refusal_by page mode false is =
      let below : page < entry.process.heap_pages = grind (arith, common_steps) in
      ap (with_pattern (if (mode == 0) || (mode == 1) then None else Some BadMode) (mode == 1))
      (pattern_same kernel root book memory state stands process entry kept page below)

  pub refusal_same : (page mode : ℕ)
      → page_refusal entry.process.heap_pages page mode (pattern_at memory entry.set page entry.process.heap_pages)
      ≡ page_refusal (heap_count (process_at state process)) page mode (heap_pattern state process page)
  unfolding process_at protect_refusal
  refusal_same page mode =
      refusal_by page mode (nat_le entry.process.heap_pages page) refl
      ∙ ap (λ (found : Option Process). page_refusal (heap_count found) page mode (heap_pattern state process page))
      (sym (process_found kernel root book memory state stands process entry kept))

  after_by : (refusal : Option (CallRefusal × ℕ)) (page mode : ℕ) (new : Physical)
      → ((answer : CallRefusal × ℕ) → refusal ≡ Some answer → new ≡ memory) → IfNone refusal (page < entry.process.heap_pages)
      → IfNone refusal (SetsMode entry.set root memory new page (mode == 1))
      → StandsFor kernel root book new (after_protect state process page mode refusal)
  after_by None page mode new same below sets = protected_stands page (mode == 1) new below sets
  after_by (Some answer) page mode new same below sets =
      subst (λ (one : Physical). StandsFor kernel root book one state) (sym (same answer refl)) stands

  pub protects_by : (refusal : Option (CallRefusal × ℕ)) (page mode : ℕ) (new : Physical)
      → refusal ≡ page_refusal entry.process.heap_pages page mode (pattern_at memory entry.set page entry.process.heap_pages)
      → ((answer : CallRefusal × ℕ) → refusal ≡ Some answer → new ≡ memory) → IfNone refusal (page < entry.process.heap_pages)
      → IfNone refusal (SetsMode entry.set root memory new page (mode == 1))
      → ProtectsBy kernel root book new state process page mode refusal
  protects_by refusal page mode new is same below sets = record {
    is = is ∙ refusal_same page mode;
    stands = after_by refusal page mode new same below sets;
  }

-- a process that is not there has no heap
pub absent_protects : (kernel : Kernel) (root : RootKernel) (book : Book) (memory : Physical) (state : State)
    → StandsFor kernel root book memory state
    → (process page mode : ℕ) → slice_get kernel.processes process ≡ None
    → ProtectsBy kernel root book memory state process page mode (Some (BadPage, 0))
unfolding process_at protect_refusal
absent_protects kernel root book memory state stands process page mode none =
    let absent : slice_get state.processes process ≡ None =
    ap (λ (list : List Process). slice_get list process) (sym stands.processes)
    ∙ (slice_get-map process_of kernel.processes process ∙ ap (option_map process_of) none) in
    let beyond : nat_le 0 page ≡ true = grind (arith, common_steps) in
    let is : page_refusal 0 page mode (heap_pattern state process page) ≡ Some (BadPage, 0) =
    ap (λ (test : Bool). with_pattern (if test then Some BadPage else if (mode == 0) || (mode == 1) then None else Some BadMode)
    (mode == 1)
    (heap_pattern state process page)) beyond in
    record {
      is = sym
          (ap (λ (found : Option Process). page_refusal (heap_count found) page mode (heap_pattern state process page)) absent
          ∙ is);
      stands = stands;
    }
