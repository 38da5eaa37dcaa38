-- Pages are taken away: no process maps them, the base exposes their frames no more, and these are not used then.
use Rattle.std.proofs.Common.{◌≡◌, ◌≢◌, ◌∙◌, sym, ap, subst, ℕ, ◌*◌, ◌/◌, ◌<◌, ◌≤◌, ◌⊎◌, inl, inr, Bool, true, false, List, [], ◌∷◌, length, refl, arith}
use Rattle.std.specs.Prelude.{Option, Some, None, if◌then◌else◌}
use Rattle.std.specs.List.{Contains}
use Rattle.std.proofs.lemmas.Bool.{ne_eqb}
use Rattle.sb_memory.specs.Physical.{Physical}
use Rattle.sb_memory.specs.Changes.{SameOutside}
use Rattle.sb_root.specs.Root.{eptp_list_frame, list_entry}
use Rattle.sb_root.specs.Tables.{base_frames, shared_table}
use Rattle.sb_root.proofs.Frames.{shared_in_base}
use Rattle.sb_state.specs.declared.page.PageName.{PageName}
use Rattle.sb_state.specs.declared.page.Page.{Page}
use Rattle.sb_trace.specs.PageName.{same_name, mode_of}
use Rattle.sb_trace.specs.State.{State, find_page, thread_at}
use Rattle.sb_trace.specs.Windows.{name_at}
use Rattle.sb_state.proofs.Names.{name_same}
use Rattle.sb_shows.specs.Placement.{Placement, Purpose, Unused, BaseTable, RootTable, GuestTable, Holds, IsThere, IsOneToOne, is_own, guest_page, leaf_for, leaf_if, name_entry, entry_of}
use Rattle.sb_shows.specs.Keeping.{HasContents, Keeps}
use Rattle.sb_shows.specs.Windows.{page_number}
use Rattle.sb_shows.specs.Calls.{SetsPages, ExposesFrame, IsSeenIn, RemovesPages, placed_without, placed_without_all, without_page, without_pages, AreGoingPages}
use Rattle.sb_shows.specs.InPlace.{StaysInPlace, KeepsRest}
use Rattle.sb_shows.proofs.Names.{name_self}
use Rattle.sb_shows.proofs.Numbers.{name_number}
use Rattle.sb_shows.proofs.Changing.{contents_still}
use Rattle.sb_shows.proofs.Between.{Claims, entries_in, leads_between, between_leads, between_exposed}
use Rattle.sb_shows.proofs.Protecting.{base_word, base_sets_apart, base_no_page}
use Rattle.sb_shows.proofs.Mapping.{Half, all_set}
use Rattle.sb_shows.proofs.InPlace.{addresses_stay}
use Rattle.sb_shows.proofs.Unseen.{seen_stay}

-- ---- the pages without it

other_by : (page : Page) (name other : PageName) (rest : Option Page) → same_name page.name name ≡ true
    → same_name name other ≡ false → (if same_name page.name other then Some page else rest) ≡ rest
other_by page name other rest is differ =
    ap (λ (test : Bool). if test then Some page else rest) (ap (λ n. same_name n other) (name_same page.name name is) ∙ differ)

without_by : (test : Bool) (pages : List Page) (page : Page) (name other : PageName) → same_name page.name name ≡ test
    → same_name name other ≡ false → find_page (without_page pages name) other ≡ find_page pages other
    → find_page (if test then without_page pages name else page ∷ without_page pages name) other
    ≡ (if same_name page.name other then Some page else find_page pages other)
without_by true pages page name other is differ rest =
    rest ∙ sym (other_by page name other (find_page pages other) is differ)
without_by false pages page name other is differ rest =
    ap (λ (found : Option Page). if same_name page.name other then Some page else found) rest

-- other pages are found as before
pub without_other : (pages : List Page) (name other : PageName) → same_name name other ≡ false
    → find_page (without_page pages name) other ≡ find_page pages other
without_other [] name other differ = refl
without_other (page ∷ pages) name other differ =
    without_by (same_name page.name name) pages page name other refl differ (without_other pages name other differ)

gone_by : (test : Bool) (pages : List Page) (page : Page) (name : PageName) → same_name page.name name ≡ test
    → find_page (without_page pages name) name ≡ None
    → find_page (if test then without_page pages name else page ∷ without_page pages name) name ≡ None
gone_by true pages page name is rest = rest
gone_by false pages page name is rest =
    ap (λ (test : Bool). if test then Some page else find_page (without_page pages name) name) is ∙ rest

-- and none of the name
pub without_gone : (pages : List Page) (name : PageName) → find_page (without_page pages name) name ≡ None
without_gone [] name = refl
without_gone (page ∷ pages) name = gone_by (same_name page.name name) pages page name refl (without_gone pages name)

found_by : (test : Bool) (pages : List Page) (name other : PageName) (page : Page) → same_name name other ≡ test
    → find_page (without_page pages name) other ≡ Some page
    → (same_name name other ≡ false) × (find_page pages other ≡ Some page)
found_by true pages name other page is found =
    absurd (let e = sym (without_gone pages name) ∙ (ap (find_page (without_page pages name)) (name_same name other is) ∙ found)
    in cc)
found_by false pages name other page is found = (is, sym (without_other pages name other is) ∙ found)

-- what is found is another page, which was there
pub without_found : (pages : List Page) (name other : PageName) (page : Page)
    → find_page (without_page pages name) other ≡ Some page
    → (same_name name other ≡ false) × (find_page pages other ≡ Some page)
without_found pages name other page = found_by (same_name name other) pages name other page refl

-- ---- one page

module _ (placement : Placement) (state : State) (memory : Physical) (keeps : Keeps placement state memory) (name : PageName)
    (there : IsThere state.pages name) (shared_page : is_own name ≡ false) where
  abbrev pages : List Page
  pages = without_page state.pages name

  abbrev after : State
  after = record state { pages = without_page state.pages name }

  abbrev frame : ℕ
  frame = placement.frame name

  abbrev left : Placement
  left = placed_without placement name

  frame_purpose : placement.purpose (placement.frame name) ≡ Holds name
  frame_purpose = keeps.apart.pages name there

  used_other : (one : ℕ) (purpose : Purpose) → placement.purpose one ≡ purpose → (purpose ≡ Holds name → ⊥)
      → one ≢ placement.frame name
  used_other one purpose is differ same = differ (sym is ∙ (ap placement.purpose same ∙ frame_purpose))

  purpose_other : (one : ℕ) (purpose : Purpose) → placement.purpose one ≡ purpose → (purpose ≡ Holds name → ⊥)
      → left.purpose one ≡ purpose
  purpose_other one purpose is differ =
      ap (λ (test : Bool). if test then Unused else placement.purpose one)
      (ne_eqb one (placement.frame name) (used_other one purpose is differ)) ∙ is

  holds_differ : (other : PageName) → same_name name other ≡ false → Holds other ≡ Holds name → ⊥
  holds_differ other differ same =
      let one : other ≡ name = cc in
      let e = sym (ap (same_name name) one ∙ name_self name) ∙ differ in cc

  left_there : (other : PageName) → IsThere (without_page state.pages name) other
      → (same_name name other ≡ false) × IsThere state.pages other
  left_there other (page, found) = let was = without_found state.pages name other page found in (was.0, (page, was.1))

  left_apart : IsOneToOne left after
  left_apart = record {
    base = λ one among. purpose_other one BaseTable (keeps.apart.base one among) (λ e. cc);
    root = λ part one table used. purpose_other one (RootTable part) (keeps.apart.root part one table used) (λ e. cc);
    guest = λ process table within number. purpose_other _ (GuestTable process table)
        (keeps.apart.guest process table within number) (λ e. cc);
    pages = λ other still.
        let was = left_there other still in
        purpose_other _ (Holds other) (keeps.apart.pages other was.1) (holds_differ other was.0);
  }

  -- ---- entries

  abbrev at : ℕ
  at = 4096 * page_number name

  page_is : (4096 * page_number name) / 4096 ≡ page_number name
  page_is = omega arith

  entry_own : (other : PageName) → same_name name other ≡ false → (own : Bool) → is_own other ≡ own
      → (if own then leaf_for (guest_page placement.frame other) (mode_of other false) else leaf_if placement.frame other
      (find_page (without_page state.pages name) other))
      ≡ (if own then leaf_for (guest_page placement.frame other) (mode_of other false) else leaf_if placement.frame other
      (find_page state.pages other))
  entry_own other differ true own = refl
  entry_own other differ false own = ap (leaf_if placement.frame other) (without_other state.pages name other differ)

  entry_by : (test : Bool) (other : PageName) → same_name name other ≡ test → name ≢ other
      → name_entry placement.frame (without_page state.pages name) other ≡ name_entry placement.frame state.pages other
  entry_by true other is differ = absurd (differ (name_same name other is))
  entry_by false other is differ = entry_own other is (is_own other) refl

  entry_beside : (other : Option PageName) → ((one : PageName) → other ≡ Some one → name ≢ one)
      → entry_of placement.frame (without_page state.pages name) other ≡ entry_of placement.frame state.pages other
  entry_beside None differ = refl
  entry_beside (Some other) differ = entry_by (same_name name other) other refl (differ other refl)

  entry_gone : entry_of placement.frame (without_page state.pages name) (Some name) ≡ 0
  entry_gone =
      ap (λ (test : Bool). if test then leaf_for (guest_page placement.frame name)
      (mode_of name false) else leaf_if placement.frame name (find_page (without_page state.pages name) name)) shared_page
      ∙ ap (leaf_if placement.frame name) (without_gone state.pages name)

  -- ---- what is kept

  abbrev OldClaims : ℕ → ℕ → Type 0
  OldClaims = Claims placement (length state.processes) placement.frame state.pages

  claimed : (one rights : ℕ)
      → Claims placement (length state.processes) placement.frame (without_page state.pages name) one rights
      → ((one ≢ placement.frame name) × OldClaims one rights) ⊎ ((one ≡ placement.frame name) × (rights ≡ 0))
  claimed one rights (inl claim) = inl (
    used_other one (GuestTable claim.process claim.table) (ap placement.purpose claim.is
        ∙ keeps.apart.guest claim.process claim.table claim.there claim.number) (λ e. cc),
    inl claim,
  )
  claimed one rights (inr claim) =
      let was = without_found state.pages name claim.name claim.page claim.found in
      inl (
        used_other one (Holds claim.name) (ap placement.purpose claim.is ∙ keeps.apart.pages claim.name (claim.page, was.1))
            (holds_differ claim.name was.0),
        inr (record {
          name = claim.name;
          page = claim.page;
          found = was.1;
          own = claim.own;
          is = claim.is;
          may = claim.may;
        }),
      )

  own_stays : (test : Bool) (other : PageName) → same_name name other ≡ test → is_own other ≡ true
      → IsThere state.pages other → IsThere (without_page state.pages name) other
  own_stays true other is own was =
      absurd (let e = sym (ap is_own (name_same name other is) ∙ own) ∙ shared_page in cc)
  own_stays false other is own was = (was.0, without_other state.pages name other is ∙ was.1)

  frame_high : 512 ≤ placement.frame name
  frame_high = (keeps.leads.pages name there.0 there.1 shared_page).above

  frame_low : placement.frame name < 8192
  frame_low =
      let most = keeps.leads.stands.whole.most in
      let inside = (keeps.contents.page name there.0 there.1).inside in
      omega arith

  shared : Contains base_frames (shared_table (placement.frame name / 512))
  shared = let high = frame_high in let low = frame_low in
      shared_in_base (placement.frame name / 512) (omega arith) (omega arith)

  module _ (processes : List ℕ) (seen : IsSeenIn state.threads (length state.processes) name processes)
      (cleared new : Physical) (sets : SetsPages placement.sets processes memory cleared (4096 * page_number name) 0)
      (hidden : ExposesFrame placement.root cleared new (placement.frame name) 0) where
    here : (process thread view : ℕ) → process < length state.processes → seen.sees process ≡ true
        → entries_in placement.frame after process thread view ((4096 * page_number name) / 4096) ≡ 0
    here process thread view within is =
        ap (λ (n : ℕ). entry_of placement.frame (without_page state.pages name) (name_at state.threads thread view n process))
        page_is
        ∙ (ap (entry_of placement.frame (without_page state.pages name)) (seen.seen process thread view within is) ∙ entry_gone)

    beside : (process thread view page : ℕ) → page ≢ (4096 * page_number name) / 4096
        → entries_in placement.frame after process thread view page
        ≡ entries_in placement.frame state process thread view page
    beside process thread view page differ =
        entry_beside (name_at state.threads thread view page process)
        (λ one is same. differ ((name_number state.threads thread view page process one is).0
        ∙ (ap page_number (sym same) ∙ sym page_is)))

    unseen : (process thread view page : ℕ) → process < length state.processes → seen.sees process ≡ false
        → entries_in placement.frame after process thread view page
        ≡ entries_in placement.frame state process thread view page
    unseen process thread view page within is =
        entry_beside (name_at state.threads thread view page process)
        (λ one named same. seen.unseen process thread view page within is (named ∙ ap Some (sym same)))

    half : Half placement state keeps.apart OldClaims (entries_in placement.frame state) (entries_in placement.frame after)
        (4096 * page_number name) 0 seen.window seen.sees here beside unseen (entries_in placement.frame after) cleared
    half =
        all_set placement state keeps.apart OldClaims (entries_in placement.frame state) (entries_in placement.frame after)
        (4096 * page_number name) 0 seen.window seen.sees here beside unseen processes (λ one. false) memory cleared seen.each
        seen.all
        (record { between = leads_between placement state memory keeps.leads; contents = keeps.contents }) sets

    word_same : SameOutside (shared_table (placement.frame name / 512) ∷ []) cleared new
    word_same = base_word cleared new (placement.frame name) _ hidden.written

    contents_new : HasContents placement state new
    contents_new =
        contents_still placement state cleared new (shared_table (placement.frame name / 512) ∷ []) state.pages half.contents
        keeps.apart word_same (base_no_page placement state keeps.apart _ shared)
        (record { before = λ one page found. (page, found, refl) })

    pub keeps_left : Keeps left after new
    keeps_left = record {
      leads = between_leads placement state memory new keeps.leads placement.frame left.purpose
          (without_page state.pages name) (λ one own. refl)
          (λ one own was. own_stays (same_name name one) one refl own was)
          (λ one page found own. (keeps.leads.pages one page (without_found state.pages name one page found).1 own).above)
          (between_exposed placement (length state.processes) (entries_in placement.frame after) OldClaims cleared new
          (shared_table (placement.frame name / 512) ∷ []) half.between word_same
          (placement.frame name) 0 hidden.stands hidden.exposes
          (λ other within. base_sets_apart placement state keeps.apart _ shared other within)
          (Claims placement (length state.processes) placement.frame (without_page state.pages name)) claimed);
      apart = left_apart;
      contents =
          record {
            page = λ one page found.
                let held = contents_new.page one page (without_found state.pages name one page found).1 in
                record { inside = held.inside; size = held.size; byte = held.byte };
          };
    }

-- ---- what is left stays

-- the pages of one list are pages of another, in the same modes
abbrev pub AreAmong : List Page → List Page → Type 0
AreAmong few many = (name : PageName) (page : Page) → find_page few name ≡ Some page → find_page many name ≡ Some page

-- what is left was there, in its place
left_stays : (old new : Placement) (state : State) (pages : List Page) → new.frame ≡ old.frame → new.root ≡ old.root
    → AreAmong pages state.pages → StaysInPlace new old (record state { pages = pages }) state
unfolding thread_at
left_stays old new state pages frames root among = record {
  frames = λ name there. sym (ap (λ (frame : PageName → ℕ). frame name) frames);
  modes = λ name page found. (page, among name page found, refl);
  views = record {
    shown = λ thread index process shows. shows;
    entries = λ thread index shows. sym (ap (λ one. list_entry one thread index) root);
    homes = λ thread index shows. refl;
    lists = λ thread index shows. sym (ap (λ one. eptp_list_frame one thread) root);
  };
}

-- so the rest is kept
pub kept_rest : (old new : Placement) (state state' : State) (memory memory' : Physical) → Keeps old state memory
    → Keeps new state' memory' → StaysInPlace new old state' state → KeepsRest old new state state' memory memory'
kept_rest old new state state' memory memory' keeps keeps' stays = record {
  keeps = keeps';
  stays = stays;
  translations = seen_stay new old state' state memory' memory keeps' keeps stays.frames stays.views;
  addresses = addresses_stay new old state' state memory' memory keeps' keeps stays;
}

-- ---- several pages

removed_keeps : (names : List PageName) (placement : Placement) (state : State) (memory new : Physical) (processes : List ℕ)
    → Keeps placement state memory
    → AreGoingPages state.threads (length state.processes) state.pages processes names
    → RemovesPages placement processes names memory new
    → Keeps (placed_without_all placement names) (record state { pages = without_pages state.pages names }) new
removed_keeps [] placement state memory new processes keeps are removes = subst (Keeps placement state) (sym removes) keeps
removed_keeps (name ∷ names) placement state memory new processes keeps are removes =
    removed_keeps names (placed_without placement name) (record state { pages = without_page state.pages name }) removes.0 new
    processes
    (keeps_left placement state memory keeps name are.0.there are.0.shared_page processes are.0.seen removes.1.cleared removes.0
    removes.1.sets removes.1.hidden) are.1 removes.2

pub without_among : (names : List PageName) (pages : List Page) → AreAmong (without_pages pages names) pages
without_among [] pages name page found = found
without_among (one ∷ names) pages name page found =
    (without_found pages one name page (without_among names (without_page pages one) name page found)).1

frames_left : (names : List PageName) (placement : Placement) → (placed_without_all placement names).frame ≡ placement.frame
frames_left [] placement = refl
frames_left (name ∷ names) placement = frames_left names (placed_without placement name)

root_left : (names : List PageName) (placement : Placement) → (placed_without_all placement names).root ≡ placement.root
root_left [] placement = refl
root_left (name ∷ names) placement = root_left names (placed_without placement name)

-- pages are taken away, and the rest is kept
pub pages_removed : (names : List PageName) (placement : Placement) (state : State) (memory new : Physical) (processes : List ℕ)
    → Keeps placement state memory
    → AreGoingPages state.threads (length state.processes) state.pages processes names
    → RemovesPages placement processes names memory new
    → KeepsRest placement (placed_without_all placement names) state
    (record state { pages = without_pages state.pages names }) memory new
pages_removed names placement state memory new processes keeps are removes =
    kept_rest placement (placed_without_all placement names) state
    (record state { pages = without_pages state.pages names }) memory new keeps
    (removed_keeps names placement state memory new processes keeps are removes)
    (left_stays placement (placed_without_all placement names) state (without_pages state.pages names)
    (frames_left names placement) (root_left names placement) (without_among names state.pages))
