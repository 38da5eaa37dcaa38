-- Where a view shows the page that it showed, a translation is what it was: the same address or the same refusal.
use Rattle.std.proofs.Common.{◌≡◌, ◌∙◌, sym, ap, ℕ, ◌+◌, ◌*◌, ◌/◌, ◌%◌, ◌^◌, ◌<◌, ◌==◌, Bool, true, false, List, Result, Err, refl}
use Rattle.std.specs.Prelude.{Option, Some, None, if◌then◌else◌}
use Rattle.std.specs.Option.{option_map, option_and_then}
use Rattle.std.proofs.lemmas.Bool.{eqb-true, eqb-false}
use Rattle.sb_memory.specs.Physical.{Physical}
use Rattle.sb_memory.specs.declared.address.Access.{Access}
use Rattle.sb_memory.specs.declared.address.PhysAddr.{PhysAddr}
use Rattle.sb_memory.specs.declared.address.GuestPhys.{GuestPhys}
use Rattle.sb_walks.specs.declared.stop.WalkStop.{WalkStop}
use Rattle.sb_walks.specs.declared.stop.WalkStop.TheVariants as guest
use Rattle.sb_walks.specs.declared.stop.NestedStop.{NestedStop}
use Rattle.sb_walks.specs.declared.stop.NestedStop.TheVariants as nested
use Rattle.sb_walks.specs.Guest.{guest_entry_answer}
use Rattle.sb_walks.specs.Nested.{memory_behind, page_behind, page_answer, translation}
use Rattle.sb_pagewalk.specs.Windows.{IsInWindow, region_of, page_table_of}
use Rattle.sb_pagewalk.specs.TableSet.{page_walked}
use Rattle.sb_pagewalk.proofs.OnePage.{set_walked_same, set_walked_window}
use Rattle.sb_root.specs.Entry.{entry_reached}
use Rattle.sb_root.specs.Root.{list_entry, eptp_of_view}
use Rattle.sb_state.specs.declared.page.PageName.{PageName}
use Rattle.sb_state.specs.declared.page.PageName.TheVariants.{Text, Area, Data, Heap, Pool, ServerStack, Save, Stack, Buffer, Record, Scratch, HomeTrampoline, ServerTrampoline}
use Rattle.sb_state.specs.declared.page.Page.{Page}
use Rattle.sb_state.specs.declared.page.SeenPage.{SeenPage}
use Rattle.sb_state.specs.declared.page.Mode.{Mode}
use Rattle.sb_trace.specs.PageName.{mode_of}
use Rattle.sb_trace.specs.State.{State, find_page}
use Rattle.sb_trace.specs.Windows.{name_at, page_by_name, page_and_mode, process_shown, page_for}
use Rattle.sb_shows.specs.Placement.{Placement, IsThere, is_own, guest_page, leaf_for, leaf_if, rights_for, entry_of, entries_of}
use Rattle.sb_shows.specs.Keeping.{HasView, Leads, Keeps}
use Rattle.sb_shows.specs.Related.{cr3_of}
use Rattle.sb_shows.specs.Shows.{IsView}
use Rattle.sb_shows.specs.InPlace.{SameFrames, ViewsStay, StaysInPlace, SamePages, KeepsFrames, KeepsUnseen}
use Rattle.sb_shows.specs.Laws.{TranslationsStayWhereSeen}
use Rattle.sb_shows.proofs.Names.{IsOwnOf, own_name}
use Rattle.sb_shows.proofs.Leaves.{guest_permits, leaf_answered}
use Rattle.sb_shows.proofs.Nested.{OwnPage, own_page, base_page, outside, seen_of, walk_is}
use Rattle.sb_shows.proofs.Bytes.{IsFound, seen_there, small_frames, pointer_is}
use Rattle.sb_shows.proofs.InPlace.{views_paged, kept_in_place}

-- ---- what an address of a window answers

-- by the page that is seen: what its mode refuses to the guest, or what the EPT answers of its frame; and that nothing is there
abbrev page_gives : (PageName → ℕ) → Option SeenPage → ℕ → Access → Result PhysAddr NestedStop
page_gives frame None linear access = Err (nested.Walk (guest.NotPresent 1))
page_gives frame (Some seen) linear access =
    if guest_permits seen.mode access then page_answer
    (entry_reached (frame seen.name) (rights_for seen.mode) (4096 * guest_page frame seen.name + linear % 4096) access)
    else Err (nested.Walk (guest.Denied 1))

guest_shared : (frame : PageName → ℕ) (name : PageName) → is_own name ≡ false → guest_page frame name ≡ frame name
unfolding is_own guest_page
guest_shared frame HomeTrampoline is = cc
guest_shared frame ServerTrampoline is = cc
guest_shared frame (Record a b) is = cc
guest_shared frame (Scratch a b) is = cc
guest_shared frame (Text process page) is = refl
guest_shared frame (Area process page) is = refl
guest_shared frame (Data process page) is = refl
guest_shared frame (Heap process page) is = refl
guest_shared frame (Pool process) is = refl
guest_shared frame (ServerStack process page) is = refl
guest_shared frame (Save thread) is = refl
guest_shared frame (Stack thread page) is = refl
guest_shared frame (Buffer thread index page) is = refl

guest_same : (frame frame' : PageName → ℕ) (name : PageName) → frame' name ≡ frame name
    → guest_page frame' name ≡ guest_page frame name
unfolding guest_page
guest_same frame frame' HomeTrampoline is = refl
guest_same frame frame' ServerTrampoline is = refl
guest_same frame frame' (Record a b) is = refl
guest_same frame frame' (Scratch a b) is = refl
guest_same frame frame' (Text process page) is = is
guest_same frame frame' (Area process page) is = is
guest_same frame frame' (Data process page) is = is
guest_same frame frame' (Heap process page) is = is
guest_same frame frame' (Pool process) is = is
guest_same frame frame' (ServerStack process page) is = is
guest_same frame frame' (Save thread) is = is
guest_same frame frame' (Stack thread page) is = is
guest_same frame frame' (Buffer thread index page) is = is

module _ (placement : Placement) (state : State) (memory : Physical) (leads : Leads placement state memory)
    (small : (name : PageName) (page : Page) → find_page state.pages name ≡ Some page → placement.frame name < 2 ^ 32)
    (thread view process : ℕ) (has : HasView placement state thread view process) where
  abbrev answered : Access → Result GuestPhys WalkStop → Result PhysAddr NestedStop
  answered access answer = page_behind (memory_behind memory (eptp_of_view has.kept)) access answer

  nothing_gives : (linear : ℕ) (access : Access) → answered access (page_walked 0 linear access)
      ≡ Err (nested.Walk (guest.NotPresent 1))
  unfolding guest_entry_answer
  nothing_gives linear access = refl

  own_gives : (name : PageName) (found : Option Page) → find_page state.pages name ≡ found
      → OwnPage memory (eptp_of_view has.kept) placement.frame state.pages name → (linear : ℕ) (access : Access)
      → answered access (page_walked (leaf_for (guest_page placement.frame name) (mode_of name false)) linear access)
      ≡ page_gives placement.frame (option_map (page_and_mode name) found) linear access
  own_gives name None is own linear access = absurd (let there = own.there.1 in cc)
  own_gives name (Some page) is own linear access =
      leaf_answered memory (eptp_of_view has.kept) (guest_page placement.frame name) (placement.frame name) linear
      (mode_of name false) access own.small own.behind
      ∙ ap (λ (how : Mode). page_gives placement.frame (Some (record { name = name; mode = how })) linear access)
      (sym (own.mode page.executable))

  base_gives : (name : PageName) (found : Option Page) → find_page state.pages name ≡ found → is_own name ≡ false
      → (linear : ℕ) (access : Access)
      → answered access (page_walked (leaf_if placement.frame name found) linear access)
      ≡ page_gives placement.frame (option_map (page_and_mode name) found) linear access
  base_gives name None is own linear access = nothing_gives linear access
  base_gives name (Some page) is own linear access =
      leaf_answered memory (eptp_of_view has.kept) (placement.frame name) (placement.frame name) linear
      (mode_of name page.executable) access (small name page is)
      (base_page placement state memory leads small thread view process has name page is own)
      ∙ ap (λ (n : ℕ). if guest_permits (mode_of name page.executable) access then page_answer
      (entry_reached (placement.frame name) (rights_for (mode_of name page.executable)) (4096 * n + linear % 4096) access)
      else Err (nested.Walk (guest.Denied 1))) (sym (guest_shared placement.frame name own))

  name_gives : (own : Bool) (name : PageName) → is_own name ≡ own → IsOwnOf thread view name → (linear : ℕ) (access : Access)
      → answered access
      (page_walked
      (if own then leaf_for (guest_page placement.frame name) (mode_of name false) else leaf_if placement.frame name
      (find_page state.pages name)) linear access)
      ≡ page_gives placement.frame (page_by_name state.pages name) linear access
  name_gives true name is own linear access =
      own_gives name (find_page state.pages name) refl
      (own_page placement state memory leads small thread view process has name own is) linear access
  name_gives false name is own linear access = base_gives name (find_page state.pages name) refl is linear access

  option_gives : (name : Option PageName) → ((one : PageName) → name ≡ Some one → IsOwnOf thread view one)
      → (linear : ℕ) (access : Access)
      → answered access (page_walked (entry_of placement.frame state.pages name) linear access)
      ≡ page_gives placement.frame (option_and_then (page_by_name state.pages) name) linear access
  option_gives None own linear access = nothing_gives linear access
  option_gives (Some name) own linear access = name_gives (is_own name) name refl (own name refl) linear access

  -- an address of a window, by the page that is seen
  pub window_gives : (linear : ℕ) (access : Access) → process_shown state.threads thread view ≡ Some process
      → IsInWindow linear
      → translation (memory_behind memory (eptp_of_view has.kept)) (cr3_of state thread) linear access
      ≡ page_gives placement.frame (page_for state thread view (linear / 4096)) linear access
  unfolding translation
  window_gives linear access is window =
      ap (answered access)
      (walk_is placement state memory leads small thread view process has linear access
      ∙ set_walked_window (entries_of placement.frame state thread view process) linear access window)
      ∙ (option_gives (name_at state.threads thread view (linear / 4096) process)
      (λ one named. own_name state.threads thread view (linear / 4096) process one named) linear access
      ∙ ap (λ page. page_gives placement.frame page linear access)
      (sym (seen_of placement state memory leads small thread view process has (linear / 4096) is)))

  -- one of no window, whatever is seen
  pub none_gives : (linear : ℕ) (access : Access) (none : page_table_of (region_of linear) ≡ 0)
      → translation (memory_behind memory (eptp_of_view has.kept)) (cr3_of state thread) linear access
      ≡ Err (nested.Walk (outside (λ page. 0) linear access none).stop)
  unfolding translation
  none_gives linear access none =
      ap (answered access)
      (walk_is placement state memory leads small thread view process has linear access
      ∙ (set_walked_same (entries_of placement.frame state thread view process) (λ page. 0) linear access
      (λ inside. absurd (inside none))
      ∙ (outside (λ page. 0) linear access none).is))

-- ---- two memories

gives_same : (frame frame' : PageName → ℕ) (pages : List Page) (seen : Option SeenPage) (linear : ℕ) (access : Access)
    → ((name : PageName) → IsThere pages name → frame' name ≡ frame name) → IsFound pages seen
    → page_gives frame' seen linear access ≡ page_gives frame seen linear access
gives_same frame frame' pages None linear access same there = refl
gives_same frame frame' pages (Some seen) linear access same there =
    ap (λ (n : ℕ). if guest_permits seen.mode access then page_answer
    (entry_reached n (rights_for seen.mode) (4096 * guest_page frame' seen.name + linear % 4096) access)
    else Err (nested.Walk (guest.Denied 1))) (same seen.name there)
    ∙ ap (λ (n : ℕ). if guest_permits seen.mode access then page_answer
    (entry_reached (frame seen.name) (rights_for seen.mode) (4096 * n + linear % 4096) access)
    else Err (nested.Walk (guest.Denied 1))) (guest_same frame frame' seen.name (same seen.name there))

module _ (old new : Placement) (state state' : State) (memory memory' : Physical) (keeps : Keeps old state memory)
    (keeps' : Keeps new state' memory') (frames : SameFrames old new state) (views : ViewsStay old new state state')
    (thread index : ℕ) (shows : IsView state thread index) where
  abbrev has : HasView old state thread index shows.0
  has = keeps.leads.views thread index shows.0 shows.1

  abbrev has_still : HasView new state' thread index shows.0
  has_still = keeps'.leads.views thread index shows.0 (views.shown thread index shows.0 shows.1)

  -- the pointer is the same, and the CR3
  pointers_same : (linear : ℕ) (access : Access)
      → translation (memory_behind memory' (list_entry old.root thread index)) (cr3_of state thread) linear access
      ≡ translation (memory_behind memory' (eptp_of_view has_still.kept)) (cr3_of state' thread) linear access
  pointers_same linear access =
      ap (λ eptp. translation (memory_behind memory' eptp) (cr3_of state thread) linear access)
      (sym (views.entries thread index shows) ∙ pointer_is new state' thread index shows.0 has_still)
      ∙ ap (λ (home : ℕ). translation (memory_behind memory' (eptp_of_view has_still.kept)) (4096 * (16 + home)) linear access)
      (sym (views.homes thread index shows))

  pointer_was : (linear : ℕ) (access : Access)
      → translation (memory_behind memory (list_entry old.root thread index)) (cr3_of state thread) linear access
      ≡ translation (memory_behind memory (eptp_of_view has.kept)) (cr3_of state thread) linear access
  pointer_was linear access =
      ap (λ eptp. translation (memory_behind memory eptp) (cr3_of state thread) linear access)
      (pointer_is old state thread index shows.0 has)

  answers_same : (linear : ℕ) (access : Access) (none : Bool) → (page_table_of (region_of linear) == 0) ≡ none
      → page_for state' thread index (linear / 4096) ≡ page_for state thread index (linear / 4096)
      → translation (memory_behind memory' (eptp_of_view has_still.kept)) (cr3_of state' thread) linear access
      ≡ translation (memory_behind memory (eptp_of_view has.kept)) (cr3_of state thread) linear access
  answers_same linear access true is same =
      none_gives new state' memory' keeps'.leads (small_frames new state' memory' keeps') thread index shows.0 has_still linear
      access (eqb-true _ _ is)
      ∙ sym (none_gives old state memory keeps.leads (small_frames old state memory keeps) thread index shows.0 has linear access
      (eqb-true _ _ is))
  answers_same linear access false is same =
      let window = eqb-false (page_table_of (region_of linear)) 0 is in
      window_gives new state' memory' keeps'.leads (small_frames new state' memory' keeps') thread index shows.0 has_still linear
      access (views.shown thread index shows.0 shows.1) window
      ∙ (ap (λ page. page_gives new.frame page linear access) same
      ∙ (gives_same old.frame new.frame state.pages (page_for state thread index (linear / 4096)) linear access frames
      (seen_there state thread index (linear / 4096))
      ∙ sym (window_gives old state memory keeps.leads (small_frames old state memory keeps) thread index shows.0 has linear
      access shows.1 window)))

  translation_same : (linear : ℕ) (access : Access)
      → page_for state' thread index (linear / 4096) ≡ page_for state thread index (linear / 4096)
      → translation (memory_behind memory' (list_entry old.root thread index)) (cr3_of state thread) linear access
      ≡ translation (memory_behind memory (list_entry old.root thread index)) (cr3_of state thread) linear access
  translation_same linear access same =
      pointers_same linear access
      ∙ (answers_same linear access (page_table_of (region_of linear) == 0) refl same ∙ sym (pointer_was linear access))

-- each translation stays where a view shows the page that it showed
pub seen_stay : TranslationsStayWhereSeen
seen_stay old new state state' memory memory' keeps keeps' frames views thread index shows =
    translation_same old new state state' memory memory' keeps keeps' frames views thread index shows

-- so a call that adds nothing that a view shows
pub kept_unseen : (old new : Placement) (state state' : State) (memory memory' : Physical) → Keeps old state memory
    → Keeps new state' memory' → StaysInPlace old new state state' → SamePages state state'
    → KeepsUnseen old new state state' memory memory'
kept_unseen old new state state' memory memory' keeps keeps' stays same = record {
  in_place = kept_in_place old new state state' memory memory' keeps keeps' stays;
  pages = same;
  translations = λ thread index shows linear access.
      seen_stay old new state state' memory memory' keeps keeps' stays.frames stays.views thread index shows linear access
      (same thread index shows (linear / 4096));
}

-- and one that changes pages alone, and no frame
pub kept_frames : (placement : Placement) (state : State) (pages : List Page) (memory memory' : Physical)
    → Keeps placement state memory → Keeps placement (record state { pages = pages }) memory'
    → KeepsFrames placement state (record state { pages = pages }) memory memory'
kept_frames placement state pages memory memory' keeps keeps' = record {
  keeps = keeps';
  translations =
      seen_stay placement placement state (record state { pages = pages }) memory memory' keeps keeps' (λ name there. refl)
      (views_paged placement state pages);
}
