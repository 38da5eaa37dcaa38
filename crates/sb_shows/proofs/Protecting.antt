-- A heap page gets another mode.
use Rattle.std.proofs.Common.{◌≡◌, ◌≢◌, ◌∙◌, sym, ap, subst, ℕ, zero, ◌+◌, ◌*◌, ◌/◌, ◌<◌, ◌≤◌, ◌&&◌, ◌⊎◌, inl, inr, Bool, true, false, nat_le, nat_lt, List, [], ◌∷◌, length, refl, lit<, arith}
use Rattle.std.specs.Prelude.{Option, Some, None, if◌then◌else◌}
use Rattle.std.specs.Option.{option_map}
use Rattle.std.specs.List.{Contains}
use Rattle.std.proofs.lemmas.Grind.{common_steps}
use Rattle.sb_memory.specs.Physical.{Physical, frame_of}
use Rattle.sb_memory.specs.Reading.{with_bytes}
use Rattle.sb_memory.specs.Words.{put_word}
use Rattle.sb_memory.specs.Changes.{SameOutside}
use Rattle.sb_memory.proofs.Changes.{same_outside_word}
use Rattle.sb_pagewalk.specs.Windows.{IsInWindow, region_of, page_table_of}
use Rattle.sb_pagewalk.specs.TableSet.{table_frame, page_place}
use Rattle.sb_pagewalk.specs.Standing.{IsApart as IsSetApart}
use Rattle.sb_pagewalk.proofs.Regions.{page_table_small}
use Rattle.sb_root.specs.Tables.{base_frames, shared_place, shared_table}
use Rattle.sb_root.specs.Standing.{IsApart as IsRootApart}
use Rattle.sb_root.proofs.Frames.{only_one, shared_in_base}
use Rattle.sb_state.specs.declared.page.PageName.{PageName}
use Rattle.sb_state.specs.declared.page.PageName.TheVariants.{Heap}
use Rattle.sb_state.specs.declared.page.Page.{Page}
use Rattle.sb_state.specs.declared.state.Thread.{Thread}
use Rattle.sb_trace.specs.PageName.{same_name, mode_of}
use Rattle.sb_trace.specs.State.{State, find_page, with_mode}
use Rattle.sb_trace.specs.Windows.{name_at, is_within}
use Rattle.sb_trace.specs.SyscallProtect.{with_heap_mode}
use Rattle.sb_state.proofs.Names.{name_same}
use Rattle.sb_state.proofs.PageLists.{with_executable}
use Rattle.sb_state.proofs.Modes.{mode_same, mode_other}
use Rattle.sb_shows.specs.Placement.{Placement, BaseTable, GuestTable, Holds, IsThere, IsOneToOne, is_own, guest_page, leaf_for, leaf_if, rights_for, name_entry, entry_of}
use Rattle.sb_shows.specs.Keeping.{HasContents, Keeps}
use Rattle.sb_shows.specs.Windows.{page_number, NamesNoOtherProcess}
use Rattle.sb_shows.specs.Calls.{SetsPage, ExposesFrame}
use Rattle.sb_shows.proofs.Names.{name_self}
use Rattle.sb_shows.proofs.Numbers.{name_number}
use Rattle.sb_shows.proofs.Changing.{HoldNoPage, one_holds_none, SameBytes, contents_still}
use Rattle.sb_shows.proofs.Between.{Between, Claims, IsPageClaim, entries_in, leads_between, between_leads, between_set, between_exposed}

-- ---- frames of tables

-- a word is put into a table of a process
pub guest_word : (placement : Placement) (processes : ℕ) (memory new : Physical) (process at entry : ℕ)
    → new ≡ with_bytes memory (put_word memory.bytes (page_place (placement.sets process) at) entry)
    → SameOutside (table_frame (placement.sets process) (page_table_of (region_of at)) ∷ []) memory new
guest_word placement processes memory new process at entry written =
    let place : frame_of (page_place (placement.sets process) at)
    ≡ table_frame (placement.sets process) (page_table_of (region_of at)) = omega arith in
    subst (SameOutside (table_frame (placement.sets process) (page_table_of (region_of at)) ∷ []) memory) (sym written)
    (same_outside_word _ memory (page_place (placement.sets process) at) entry (omega arith) (zero, lit< tt, sym place))

-- one into a shared table of the base
pub base_word : (memory new : Physical) (frame word : ℕ)
    → new ≡ with_bytes memory (put_word memory.bytes (shared_place frame) word)
    → SameOutside (shared_table (frame / 512) ∷ []) memory new
base_word memory new frame word written =
    let place : frame_of (shared_place frame) ≡ shared_table (frame / 512) = omega arith in
    subst (SameOutside (shared_table (frame / 512) ∷ []) memory) (sym written)
    (same_outside_word _ memory (shared_place frame) word (omega arith) (zero, lit< tt, sym place))

module _ (placement : Placement) (state : State) (apart : IsOneToOne placement state) where
  -- a table of a process, and the other tables
  pub guest_root_apart : (process table : ℕ) → process < length state.processes → table < 12
      → IsRootApart placement.root (table_frame (placement.sets process) table ∷ [])
  guest_root_apart process table there number =
      let is = apart.guest process table there number in
      record {
        base = λ frame among changed.
            let e = sym (apart.base frame among) ∙ (ap placement.purpose (only_one _ frame changed) ∙ is) in cc;
        tables =
            λ part frame table used changed.
            let e = sym (apart.root part frame table used) ∙ (ap placement.purpose (only_one _ frame changed) ∙ is) in cc;
      }

  pub guest_sets_apart : (process table : ℕ) → process < length state.processes → table < 12 → (other : ℕ)
      → other < length state.processes → other ≢ process
      → IsSetApart (placement.sets other) (table_frame (placement.sets process) table ∷ [])
  guest_sets_apart process table there number other within differ one few changed =
      let e : GuestTable other one ≡ GuestTable process table =
      sym (apart.guest other one within few)
      ∙ (ap placement.purpose (only_one _ _ changed) ∙ apart.guest process table there number) in
      let same : other ≡ process = cc in
      differ same

  pub guest_no_page : (process table : ℕ) → process < length state.processes → table < 12
      → HoldNoPage placement (table_frame (placement.sets process) table ∷ [])
  guest_no_page process table there number =
      one_holds_none placement _ (λ name is. let e = sym (apart.guest process table there number) ∙ is in cc)

  -- a shared table of the base
  pub base_sets_apart : (frame : ℕ) → Contains base_frames frame → (other : ℕ) → other < length state.processes
      → IsSetApart (placement.sets other) (frame ∷ [])
  base_sets_apart frame among other within one few changed =
      let e : GuestTable other one ≡ BaseTable =
      sym (apart.guest other one within few) ∙ (ap placement.purpose (only_one _ _ changed) ∙ apart.base frame among) in cc

  pub base_no_page : (frame : ℕ) → Contains base_frames frame → HoldNoPage placement (frame ∷ [])
  base_no_page frame among = one_holds_none placement _ (λ name is. let e = sym (apart.base frame among) ∙ is in cc)

-- ---- the heap's window

pub heap_named : (threads : List Thread) (thread view page process : ℕ) → page < 512
    → name_at threads thread view (0xC00 + page) process ≡ Some (Heap process page)
unfolding name_at
heap_named threads thread view page process few =
    let area : (nat_le 1 (0xC00 + page) && nat_lt (0xC00 + page) 17) ≡ false = grind (arith, common_steps) in
    let text : is_within 0x400 (0xC00 + page) ≡ false = grind (arith, common_steps) in
    let data_at : is_within 0x800 (0xC00 + page) ≡ false = grind (arith, common_steps) in
    let heap : is_within 0xC00 (0xC00 + page) ≡ true = grind (arith, common_steps) in
    rw (area, text, data_at, heap) (ap (λ (n : ℕ). Some (Heap process n)) (omega arith))

pub heap_window : (page : ℕ) → page < 512 → IsInWindow (0xC00000 + 4096 * page)
unfolding page_table_of
heap_window page few = let region : region_of (0xC00000 + 4096 * page) ≡ 6 = omega arith in rw region (λ e. cc)

-- ---- the call

mode_bytes_same : (was : Option Page) (pages : List Page) (name other : PageName) (executable : Bool) (page : Page)
    → name ≡ other → find_page pages name ≡ was → find_page (with_mode pages name executable) other ≡ Some page
    → (first : Page) × (find_page pages other ≡ Some first) × (page.bytes ≡ first.bytes)
mode_bytes_same None pages name other executable page is was found =
    absurd (let e = sym (mode_same pages name executable ∙ ap (option_map (with_executable executable)) was)
    ∙ (ap (find_page (with_mode pages name executable)) is ∙ found) in cc)
mode_bytes_same (Some first) pages name other executable page is was found =
    let e = sym (mode_same pages name executable ∙ ap (option_map (with_executable executable)) was)
    ∙ (ap (find_page (with_mode pages name executable)) is ∙ found) in
    let same : with_executable executable first ≡ page = cc in
    (first, ap (find_page pages) (sym is) ∙ was, ap (λ (p : Page). p.bytes) (sym same))

pub there_mode : (test : Bool) (pages : List Page) (name other : PageName) (executable : Bool) → same_name name other ≡ test
    → IsThere pages other → IsThere (with_mode pages name executable) other
there_mode true pages name other executable is (page, found) =
    let same = name_same name other is in (
      with_executable executable page,
      ap (find_page (with_mode pages name executable)) (sym same)
          ∙ (mode_same pages name executable ∙ ap (option_map (with_executable executable)) (ap (find_page pages) same ∙ found)),
    )
there_mode false pages name other executable is (page, found) = (page, mode_other pages name other executable is ∙ found)

mode_bytes_by : (test : Bool) (pages : List Page) (name other : PageName) (executable : Bool) (page : Page)
    → same_name name other ≡ test → find_page (with_mode pages name executable) other ≡ Some page
    → (first : Page) × (find_page pages other ≡ Some first) × (page.bytes ≡ first.bytes)
mode_bytes_by true pages name other executable page is found =
    mode_bytes_same (find_page pages name) pages name other executable page (name_same name other is) refl found
mode_bytes_by false pages name other executable page is found =
    (page, sym (mode_other pages name other executable is) ∙ found, refl)

module _ (placement : Placement) (state : State) (memory mid new : Physical) (process page : ℕ) (executable : Bool)
    (keeps : Keeps placement state memory)
    (there : process < length state.processes) (few : page < 512) (found : IsThere state.pages (Heap process page))
    (set : SetsPage (placement.sets process) memory mid (0xC00000 + 4096 * page)
    (leaf_for (placement.frame (Heap process page)) (mode_of (Heap process page) executable)))
    (exposed : ExposesFrame placement.root mid new (placement.frame (Heap process page))
    (rights_for (mode_of (Heap process page) executable))) where
  abbrev name : PageName
  name = Heap process page

  abbrev at : ℕ
  at = 0xC00000 + 4096 * page

  abbrev table : ℕ
  table = page_table_of (region_of at)

  abbrev pages : List Page
  pages = with_mode state.pages name executable

  abbrev after : State
  after = record state { pages = pages }

  same_set : SameOutside (table_frame (placement.sets process) table ∷ []) memory mid
  same_set = guest_word placement (length state.processes) memory mid process at _ set.written

  heap_own : is_own name ≡ false
  unfolding is_own
  heap_own = refl

  frame_above : 512 ≤ placement.frame name
  frame_above = (keeps.leads.pages name found.0 found.1 heap_own).above

  frame_below : placement.frame name < 8192
  frame_below = let inside = (keeps.contents.page name found.0 found.1).inside in let most = keeps.leads.stands.whole.most in
      omega arith

  shared : Contains base_frames (shared_table (placement.frame name / 512))
  shared = let above = frame_above in let below = frame_below in
      shared_in_base (placement.frame name / 512) (omega arith) (omega arith)

  same_exposed : SameOutside (shared_table (placement.frame name / 512) ∷ []) mid new
  same_exposed = base_word mid new (placement.frame name) _ exposed.written

  page_is : at / 4096 ≡ 0xC00 + page
  page_is = omega arith

  found_now : find_page pages name ≡ Some (with_executable executable found.0)
  found_now = mode_same state.pages name executable ∙ ap (option_map (with_executable executable)) found.1

  -- the entry of the page is the new one
  entry_here : (thread view : ℕ)
      → entries_in placement.frame after process thread view (at / 4096)
      ≡ leaf_for (placement.frame name) (mode_of name executable)
  entry_here thread view =
      ap (λ (n : ℕ). entry_of placement.frame pages (name_at state.threads thread view n process)) page_is
      ∙ (ap (entry_of placement.frame pages) (heap_named state.threads thread view page process few)
      ∙ (ap (λ (test : Bool). if test then leaf_for (guest_page placement.frame name)
      (mode_of name false) else leaf_if placement.frame name (find_page pages name)) heap_own
      ∙ ap (leaf_if placement.frame name) found_now))

  other_entry : (other : ℕ) (seen : ℕ) (test : Bool) (one : PageName) → same_name name one ≡ test
      → (seen ≡ page_number one) × NamesNoOtherProcess other one → (other ≡ process → seen ≡ at / 4096 → ⊥)
      → name_entry placement.frame pages one ≡ name_entry placement.frame state.pages one
  unfolding page_number
  other_entry other seen true one is stands differ =
      let same : name ≡ one = name_same name one is in
      let here = subst (λ n. (seen ≡ page_number n) × NamesNoOtherProcess other n) (sym same) stands in
      absurd (differ (sym here.1) (here.0 ∙ sym page_is))
  other_entry other seen false one is stands differ =
      ap (λ (found : Option Page). if is_own one then leaf_for (guest_page placement.frame one)
      (mode_of one false) else leaf_if placement.frame one found) (mode_other state.pages name one executable is)

  entry_option : (other seen : ℕ) (one : Option PageName)
      → ((n : PageName) → one ≡ Some n → (seen ≡ page_number n) × NamesNoOtherProcess other n)
      → (other ≡ process → seen ≡ at / 4096 → ⊥)
      → entry_of placement.frame pages one ≡ entry_of placement.frame state.pages one
  entry_option other seen None stands differ = refl
  entry_option other seen (Some one) stands differ = other_entry other seen (same_name name one) one refl (stands one refl) differ

  entry_beside : (other thread view seen : ℕ) → (other ≡ process → seen ≡ at / 4096 → ⊥)
      → entries_in placement.frame after other thread view seen ≡ entries_in placement.frame state other thread view seen
  entry_beside other thread view seen differ =
      entry_option other seen (name_at state.threads thread view seen other)
      (λ n is. name_number state.threads thread view seen other n is) differ

  between_mid : Between placement (length state.processes) (entries_in placement.frame after)
      (Claims placement (length state.processes) placement.frame state.pages) mid
  between_mid =
      between_set placement (length state.processes) (entries_in placement.frame state)
      (Claims placement (length state.processes) placement.frame state.pages) memory mid
      (table_frame (placement.sets process) table ∷ []) (leads_between placement state memory keeps.leads) same_set
      process at (leaf_for (placement.frame name) (mode_of name executable)) there (heap_window page few)
      (record { tables = set.tables; page = set.page; others = set.others })
      (guest_root_apart placement state keeps.apart process table there (page_table_small (region_of at)))
      (λ other within differ. guest_sets_apart placement state keeps.apart process table there
      (page_table_small (region_of at)) other within differ)
      (entries_in placement.frame after) entry_here entry_beside

  -- the claims of the pages
  frame_purpose : placement.purpose (placement.frame name) ≡ Holds name
  frame_purpose = keeps.apart.pages name found

  page_claim : (test : Bool) (frame rights : ℕ) (claim : IsPageClaim placement.frame pages frame rights)
      → same_name name claim.name ≡ test
      → ((frame ≢ placement.frame name) × Claims placement (length state.processes) placement.frame state.pages frame rights)
      ⊎ ((frame ≡ placement.frame name) × (rights ≡ rights_for (mode_of name executable)))
  page_claim true frame rights claim is =
      let same : name ≡ claim.name = name_same name claim.name is in
      let one = sym found_now ∙ (ap (find_page pages) same ∙ claim.found) in
      let page_now : with_executable executable found.0 ≡ claim.page = cc in
      inr (
        claim.is ∙ ap placement.frame (sym same),
        claim.may
            ∙ (ap (λ (n : PageName). rights_for (mode_of n claim.page.executable)) (sym same)
            ∙ ap (λ (p : Page). rights_for (mode_of name p.executable)) (sym page_now)),
      )
  page_claim false frame rights claim is =
      let old : find_page state.pages claim.name ≡ Some claim.page =
      sym (mode_other state.pages name claim.name executable is) ∙ claim.found in
      let purpose = keeps.apart.pages claim.name (claim.page, old) in
      inl (
        (λ same.
            let e : Holds claim.name ≡ Holds name = sym purpose ∙ (ap placement.purpose (sym claim.is ∙ same) ∙ frame_purpose) in
            let one : claim.name ≡ name = cc in
            let self = name_self name in
            let other : same_name name name ≡ false = subst (λ n. same_name name n ≡ false) one is in cc),
        inr (record { name = claim.name; page = claim.page; found = old; own = claim.own; is = claim.is; may = claim.may }),
      )

  claimed : (frame rights : ℕ) → Claims placement (length state.processes) placement.frame pages frame rights
      → ((frame ≢ placement.frame name) × Claims placement (length state.processes) placement.frame state.pages frame rights)
      ⊎ ((frame ≡ placement.frame name) × (rights ≡ rights_for (mode_of name executable)))
  claimed frame rights (inl claim) = inl (
    (λ same.
        let e : GuestTable claim.process claim.table ≡ Holds name =
        sym (keeps.apart.guest claim.process claim.table claim.there claim.number)
        ∙ (ap placement.purpose (sym claim.is ∙ same) ∙ frame_purpose) in cc),
    inl claim,
  )
  claimed frame rights (inr claim) = page_claim (same_name name claim.name) frame rights claim refl

  between_new : Between placement (length state.processes) (entries_in placement.frame after)
      (Claims placement (length state.processes) placement.frame pages) new
  between_new =
      between_exposed placement (length state.processes) (entries_in placement.frame after)
      (Claims placement (length state.processes) placement.frame state.pages) mid new
      (shared_table (placement.frame name / 512) ∷ []) between_mid same_exposed
      (placement.frame name) (rights_for (mode_of name executable)) exposed.stands exposed.exposes
      (λ other within. base_sets_apart placement state keeps.apart _ shared other within)
      (Claims placement (length state.processes) placement.frame pages) claimed

  bytes_before : SameBytes state.pages pages
  bytes_before =
      record { before = λ one page found. mode_bytes_by (same_name name one) state.pages name one executable page refl found }

  there_now : (one : PageName) → IsThere state.pages one → IsThere pages one
  there_now one was = there_mode (same_name name one) state.pages name one executable refl was

  there_before : (one : PageName) → IsThere pages one → IsThere state.pages one
  there_before one now = let first = bytes_before.before one now.0 now.1 in (first.0, first.1)

  above_now : (one : PageName) (page : Page) → find_page pages one ≡ Some page → is_own one ≡ false → 512 ≤ placement.frame one
  above_now one page found own = let first = bytes_before.before one page found in
      (keeps.leads.pages one first.0 first.1 own).above

  contents_mid : HasContents placement state mid
  contents_mid =
      contents_still placement state memory mid
      (table_frame (placement.sets process) table ∷ []) state.pages keeps.contents keeps.apart same_set
      (guest_no_page placement state keeps.apart process table there (page_table_small (region_of at)))
      (record { before = λ one page found. (page, found, refl) })

  -- a heap page in its new mode is kept
  pub keeps_protected : Keeps placement after new
  keeps_protected = record {
    leads = between_leads placement state memory new keeps.leads placement.frame placement.purpose pages (λ one own. refl)
        (λ one own was. there_now one was) above_now between_new;
    apart = record {
      base = keeps.apart.base;
      root = keeps.apart.root;
      guest = keeps.apart.guest;
      pages = λ one now. keeps.apart.pages one (there_before one now);
    };
    contents =
        contents_still placement state mid new
        (shared_table (placement.frame name / 512) ∷ []) pages contents_mid keeps.apart same_exposed
        (base_no_page placement state keeps.apart _ shared) bytes_before;
  }

pub protected_keeps : (placement : Placement) (state : State) (memory mid new : Physical) (process page : ℕ) (executable : Bool)
    → Keeps placement state memory
    → process < length state.processes → page < 512 → IsThere state.pages (Heap process page)
    → SetsPage (placement.sets process) memory mid (0xC00000 + 4096 * page)
    (leaf_for (placement.frame (Heap process page)) (mode_of (Heap process page) executable))
    → ExposesFrame placement.root mid new (placement.frame (Heap process page))
    (rights_for (mode_of (Heap process page) executable)) → Keeps placement (with_heap_mode state process page executable) new
unfolding with_heap_mode
protected_keeps placement state memory mid new process page executable keeps there few found set exposed =
    keeps_protected placement state memory mid new process page executable keeps there few found set exposed
