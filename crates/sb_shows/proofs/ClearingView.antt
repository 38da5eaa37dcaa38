-- A view goes: the entry of its list is cleared, and its binding and its own pages are there no more.
use Rattle.std.proofs.Common.{◌≡◌, ◌≢◌, ◌∙◌, sym, ap, subst, ℕ, zero, ◌+◌, ◌/◌, ◌<◌, ◌==◌, ◌⊎◌, inl, inr, Bool, true, false, List, [], ◌∷◌, length, refl, lit<, arith}
use Rattle.std.specs.Prelude.{Option, Some, None, slice_get, unwrap_or, if◌then◌else◌}
use Rattle.std.specs.Option.{option_and_then}
use Rattle.std.proofs.lemmas.Bool.{eqb-true, eqb-false, ne_eqb}
use Rattle.sb_memory.specs.Physical.{Physical, frame_of}
use Rattle.sb_memory.specs.Changes.{SameOutside}
use Rattle.sb_memory.proofs.Changes.{same_outside_word}
use Rattle.sb_walks.specs.Entry.{entry_in}
use Rattle.sb_pagewalk.specs.Standing.{IsApart as IsSetApart}
use Rattle.sb_pagewalk.proofs.OnePage.{set_walked_same}
use Rattle.sb_pagewalk.proofs.Untouched.{tables_stay, walks_stay}
use Rattle.sb_root.specs.declared.root_kernel.RootKernel.{RootKernel}
use Rattle.sb_root.specs.Root.{Use, ListOf, IsSet, is_listed, view_of, without_listing, used_frame, entry_of_index, eptp_list_frame}
use Rattle.sb_root.proofs.ClearingEntry.{set_few}
use Rattle.sb_root.proofs.Frames.{only_one}
use Rattle.sb_root.proofs.Uses.{Place, here, elsewhere, place_of_index, view_same, view_other, used_list, unlisted_uses}
use Rattle.sb_state.specs.declared.page.PageName.{PageName}
use Rattle.sb_state.specs.declared.page.PageName.TheVariants.{Buffer, Save, Stack, Record, Scratch, HomeTrampoline, ServerTrampoline}
use Rattle.sb_state.specs.declared.page.Page.{Page}
use Rattle.sb_state.specs.declared.state.Binding.{Binding}
use Rattle.sb_state.specs.declared.state.Thread.{Thread}
use Rattle.sb_state.specs.Bindings.{binding_with}
use Rattle.sb_state.proofs.Names.{name_other}
use Rattle.sb_state.proofs.Threads.{set_other}
use Rattle.sb_trace.specs.State.{State, find_page, thread_at, no_thread}
use Rattle.sb_trace.specs.Windows.{process_shown, process_of_view}
use Rattle.sb_shows.specs.Placement.{Placement, RootTable, GuestTable, IsThere, IsOneToOne, is_own, entries_of}
use Rattle.sb_shows.specs.Keeping.{IsExposed, HasGuest, HasPage, HasView, Leads, HasContents, Keeps}
use Rattle.sb_shows.specs.Calls.{without_page}
use Rattle.sb_shows.specs.Views.{ClearsEntry, placed_on, without_index, without_view}
use Rattle.sb_shows.specs.InPlace.{StaysInPlace}
use Rattle.sb_shows.specs.CallLaws.{ViewRemovalsKeep}
use Rattle.sb_shows.proofs.Binding.{server_in, slice_same, home_shown}
use Rattle.sb_shows.proofs.Changing.{one_holds_none, contents_still}
use Rattle.sb_shows.proofs.BesideView.{name_entries}
use Rattle.sb_shows.proofs.Removing.{kept_rest, without_other, without_among}

-- ---- the bindings that are left

gone_by : (test : Bool) (binding : Binding) (bindings : List Binding) (index : ℕ) → (binding.index == index) ≡ test
    → binding_with (without_index bindings index) index ≡ None
    → binding_with (if test then without_index bindings index else binding ∷ without_index bindings index) index ≡ None
gone_by true binding bindings index is rest = rest
gone_by false binding bindings index is rest =
    ap (λ (test : Bool). if test then Some binding else binding_with (without_index bindings index) index) is ∙ rest

binding_gone : (bindings : List Binding) (index : ℕ) → binding_with (without_index bindings index) index ≡ None
binding_gone [] index = refl
binding_gone (binding ∷ bindings) index =
    gone_by (binding.index == index) binding bindings index refl (binding_gone bindings index)

left_by : (test : Bool) (binding : Binding) (bindings : List Binding) (index other : ℕ) → (binding.index == index) ≡ test
    → other ≢ index → binding_with (without_index bindings index) other ≡ binding_with bindings other
    → binding_with (if test then without_index bindings index else binding ∷ without_index bindings index) other
    ≡ (if binding.index == other then Some binding else binding_with bindings other)
left_by true binding bindings index other is differ rest =
    rest
    ∙ sym (ap (λ (test : Bool). if test then Some binding else binding_with bindings other)
    (ne_eqb binding.index other (λ same. differ (sym same ∙ eqb-true binding.index index is))))
left_by false binding bindings index other is differ rest =
    ap (λ (found : Option Binding). if binding.index == other then Some binding else found) rest

binding_left : (bindings : List Binding) (index other : ℕ) → other ≢ index
    → binding_with (without_index bindings index) other ≡ binding_with bindings other
binding_left [] index other differ = refl
binding_left (binding ∷ bindings) index other differ =
    left_by (binding.index == index) binding bindings index other refl differ (binding_left bindings index other differ)

-- ---- the state that is left

module _ (state : State) (number index : ℕ) (thread : Thread) (there : slice_get state.threads number ≡ Some thread)
    (away : index ≢ 0) where
  abbrev left : State
  left = without_view state number thread index

  abbrev unbound : Thread
  unbound = record thread { bindings = without_index thread.bindings index }

  thread_there : slice_get left.threads number ≡ Some unbound
  thread_there = slice_same state.threads number unbound thread there

  shown_left : (view : ℕ) → process_shown left.threads number view ≡ process_of_view view unbound
  unfolding process_shown
  shown_left view = ap (option_and_then (process_of_view view)) thread_there

  shown_was : (view : ℕ) → process_shown state.threads number view ≡ process_of_view view thread
  unfolding process_shown
  shown_was view = ap (option_and_then (process_of_view view)) there

  -- the view is there no more
  pub hidden : process_shown left.threads number index ≡ None
  hidden =
      shown_left index
      ∙ (ap (λ (test : Bool). if test then Some thread.home else server_in
      (binding_with (without_index thread.bindings index) index))
      (ne_eqb index 0 away) ∙ ap server_in (binding_gone thread.bindings index))

  same_view : (view : ℕ) → view ≢ index → process_shown left.threads number view ≡ process_shown state.threads number view
  same_view view differ =
      shown_left view
      ∙ (ap (λ (found : Option Binding). if view == 0 then Some thread.home else server_in found)
      (binding_left thread.bindings index view differ) ∙ sym (shown_was view))

  other_thread : (other view : ℕ) → other ≢ number
      → process_shown left.threads other view ≡ process_shown state.threads other view
  unfolding process_shown
  other_thread other view differ =
      ap (option_and_then (process_of_view view)) (set_other state.threads number other unbound differ)

  others_by : (test : Bool) (other view : ℕ) → (other == number) ≡ test → (other ≡ number → view ≡ index → ⊥)
      → process_shown left.threads other view ≡ process_shown state.threads other view
  others_by true other view is differ =
      let same = eqb-true other number is in
      subst (λ n. process_shown left.threads n view ≡ process_shown state.threads n view) (sym same)
      (same_view view (λ again. differ same again))
  others_by false other view is differ = other_thread other view (eqb-false other number is)

  -- and each other one shows what it showed
  pub others_left : (other view : ℕ) → (other ≡ number → view ≡ index → ⊥)
      → process_shown left.threads other view ≡ process_shown state.threads other view
  others_left other view differ = others_by (other == number) other view refl differ

  home_by : (test : Bool) (other : ℕ) → (other == number) ≡ test → (thread_at left other).home ≡ (thread_at state other).home
  unfolding thread_at
  home_by true other is =
      let same = eqb-true other number is in
      subst (λ n. (unwrap_or (slice_get left.threads n) no_thread).home ≡ (unwrap_or (slice_get state.threads n) no_thread).home)
      (sym same)
      (ap (λ (found : Option Thread). (unwrap_or found no_thread).home) thread_there
      ∙ sym (ap (λ (found : Option Thread). (unwrap_or found no_thread).home) there))
  home_by false other is =
      ap (λ (found : Option Thread). (unwrap_or found no_thread).home)
      (set_other state.threads number other unbound (eqb-false other number is))

  pub home_left : (other : ℕ) → (thread_at left other).home ≡ (thread_at state other).home
  home_left other = home_by (other == number) other refl

  pub found_left : (name : PageName) → name ≢ Record number index → name ≢ Scratch number index
      → find_page left.pages name ≡ find_page state.pages name
  found_left name first second =
      without_other (without_page state.pages (Record number index)) (Scratch number index) name
      (name_other (Scratch number index) name (λ e. second (sym e)))
      ∙ without_other state.pages (Record number index) name (name_other (Record number index) name (λ e. first (sym e)))

  pub was_there : (name : PageName) (page : Page) → find_page left.pages name ≡ Some page → find_page state.pages name ≡ Some page
  was_there = without_among (Record number index ∷ Scratch number index ∷ []) state.pages

-- ---- what is kept

module _ (placement : Placement) (state : State) (memory new : Physical) (root : RootKernel) (number index : ℕ) (thread : Thread)
    (keeps : Keeps placement state memory) (there : slice_get state.threads number ≡ Some thread) (away : index ≢ 0)
    (no_buffer : (page : ℕ) → find_page state.pages (Buffer number index page) ≡ None)
    (clears : ClearsEntry placement root number index memory new) where
  abbrev remains : State
  remains = without_view state number thread index

  abbrev after : Placement
  after = placed_on placement root

  small : number < 32
  small =
      let served : number < 8 = (keeps.leads.views number 0 thread.home (home_shown state number thread there)).served in
      omega arith

  few : index < 16
  few = set_few placement.root number index keeps.leads.stands.shape small clears.set

  same : SameOutside (clears.list.0 ∷ []) memory new
  same =
      let low = few in
      let place : frame_of (entry_in clears.list.0 index) ≡ clears.list.0 = omega arith in
      subst (SameOutside (clears.list.0 ∷ []) memory) (sym clears.written)
      (same_outside_word (clears.list.0 ∷ []) memory (entry_in clears.list.0 index) 0 (omega arith) (zero, lit< tt, sym place))

  list_purpose : placement.purpose clears.list.0 ≡ RootTable (ListOf number)
  list_purpose = keeps.apart.root (ListOf number) clears.list.0 tt (used_list placement.root number clears.list clears.listed)

  sets_apart : (process : ℕ) → process < length state.processes → IsSetApart (placement.sets process) (clears.list.0 ∷ [])
  sets_apart process within table number_table changed =
      let e : RootTable (ListOf number) ≡ GuestTable process table =
      sym list_purpose
      ∙ (ap placement.purpose (sym (only_one clears.list.0 _ changed))
      ∙ keeps.apart.guest process table within number_table) in cc

  exposed_now : (frame rights : ℕ) → IsExposed memory frame rights → IsExposed new frame rights
  exposed_now frame rights exposed =
      record { answer = λ at access is. clears.answers.base at access ∙ exposed.answer at access is }

  buffer_gone : (other page : ℕ) → (other ≡ index) ⊎ (0 ≡ index) → find_page state.pages (Buffer number other page) ≡ None
  buffer_gone other page (inl again) =
      subst (λ n. find_page state.pages (Buffer number n page) ≡ None) (sym again) (no_buffer page)
  buffer_gone other page (inr zero_index) = absurd (away (sym zero_index))

  stack_gone : 0 ≡ index → (page : ℕ)
      → (find_page state.pages (Save number) ≡ None) × (find_page state.pages (Stack number page) ≡ None)
  stack_gone zero_index page = absurd (away (sym zero_index))

  guest_now : (process : ℕ) → process < length state.processes → HasGuest after remains new process
  guest_now process within =
      let guest = keeps.leads.guests process within in
      let size = keeps.leads.stands.whole.size in
      record {
        tables =
            tables_stay (placement.sets process) (clears.list.0 ∷ []) memory new guest.tables size same
            (sets_apart process within);
        root = guest.root;
        few = guest.few;
        maps = λ other seen linear access.
            walks_stay (placement.sets process) (clears.list.0 ∷ []) memory new guest.tables size same
            (sets_apart process within) linear access
            ∙ guest.maps other seen linear access
            ∙ set_walked_same (entries_of placement.frame state other seen process)
            (entries_of placement.frame remains other seen process) linear access
            (λ inside. sym
            (name_entries placement.frame placement.frame state remains number index
            (others_left state number index thread there away) (found_left state number index thread there away)
            (λ name first second. refl) buffer_gone stack_gone other seen (linear / 4096) process).same);
        above = guest.above;
        readable = λ table first number_table. exposed_now _ 1 (guest.readable table first number_table);
      }

  page_now : (name : PageName) (page : Page) → find_page remains.pages name ≡ Some page → is_own name ≡ false
      → HasPage after new name page
  page_now name page found own =
      let kept = keeps.leads.pages name page (was_there state number index thread there away name page found) own in
      record { above = kept.above; exposed = exposed_now (placement.frame name) _ kept.exposed }

  view_is : (other second : ℕ) → (other ≡ number → second ≡ index → ⊥)
      → view_of root other second ≡ view_of placement.root other second
  view_is other second differ =
      ap (λ one. view_of one other second) clears.cleared
      ∙ view_other placement.root number index other second (without_listing clears.view) keeps.leads.stands.shape small differ

  other_record : (other second : ℕ) → (other ≡ number → second ≡ index → ⊥) → Record other second ≢ Record number index
  other_record other second differ same =
      let first : other ≡ number = cc in let again : second ≡ index = cc in differ first again

  other_scratch : (other second : ℕ) → (other ≡ number → second ≡ index → ⊥) → Scratch other second ≢ Scratch number index
  other_scratch other second differ same =
      let first : other ≡ number = cc in let again : second ≡ index = cc in differ first again

  there_still : (name : PageName) → name ≢ Record number index → name ≢ Scratch number index → IsThere state.pages name
      → IsThere remains.pages name
  there_still name first second was = (was.0, found_left state number index thread there away name first second ∙ was.1)

  view_now : (other second process : ℕ) → (other ≡ number → second ≡ index → ⊥)
      → HasView placement state other second process → HasView after remains other second process
  view_now other second process differ has =
      let home = sym (home_left state number index thread there away other) in
      record {
        served = has.served;
        few = has.few;
        process_there = has.process_there;
        home_there = subst (λ n. n < length state.processes) home has.home_there;
        kept = has.kept;
        is = view_is other second differ ∙ has.is;
        listed = has.listed;
        home = has.home ∙ ap (λ (n : ℕ). 16 + n) home;
        target = has.target;
        server = has.server;
        words = has.words;
        scratch = has.scratch;
        words_there = there_still (Record other second) (other_record other second differ) (λ e. cc) has.words_there;
        scratch_there = there_still (Scratch other second) (λ e. cc) (other_scratch other second differ) has.scratch_there;
      }

  -- the view is hidden
  not_shown : (other second process : ℕ) → process_shown remains.threads other second ≡ Some process → other ≡ number
      → second ≡ index → ⊥
  not_shown other second process shows same_thread again =
      let none : process_shown remains.threads other second ≡ None =
      ap (λ n. process_shown remains.threads n second) same_thread
      ∙ (ap (process_shown remains.threads number) again ∙ hidden state number index thread there away) in
      let e = sym none ∙ shows in cc

  views_now : (other second process : ℕ) → process_shown remains.threads other second ≡ Some process
      → HasView after remains other second process
  views_now other second process shows =
      let differ = not_shown other second process shows in
      view_now other second process differ
      (keeps.leads.views other second process
      (sym (others_left state number index thread there away other second differ) ∙ shows))

  only_by : (other second : ℕ) → Place number index other second → IsSet root other second
      → (process : ℕ) × (process_shown remains.threads other second ≡ Some process)
  only_by other second (here same_thread again) set =
      let unset : is_listed (view_of root other second) ≡ false =
      ap (λ n. is_listed (view_of root n second)) same_thread
      ∙ (ap (λ n. is_listed (view_of root number n)) again
      ∙ (ap (λ one. is_listed (view_of one number index)) clears.cleared
      ∙ ap is_listed
      (view_same placement.root number index (without_listing clears.view) keeps.leads.stands.shape small few))) in
      absurd (let e = sym unset ∙ set in cc)
  only_by other second (elsewhere differ) set =
      let old = keeps.leads.only other second (sym (ap is_listed (view_is other second differ)) ∙ set) in
      (old.0, others_left state number index thread there away other second differ ∙ old.1)

  leads_now : Leads after remains new
  leads_now = record {
    stands = clears.stands;
    guests = guest_now;
    pages = page_now;
    views = views_now;
    only = λ other second set. only_by other second (place_of_index number index other second) set;
    home = (keeps.leads.home.0, there_still HomeTrampoline (λ e. cc) (λ e. cc) keeps.leads.home.1);
    server = (keeps.leads.server.0, there_still ServerTrampoline (λ e. cc) (λ e. cc) keeps.leads.server.1);
  }

  use_was : (part : Use) (frame : ℕ) → used_frame root part ≡ Some frame → used_frame placement.root part ≡ Some frame
  use_was part frame used =
      sym (unlisted_uses placement.root number index clears.view keeps.leads.stands.shape small few clears.was part)
      ∙ (ap (λ one. used_frame one part) (sym clears.cleared) ∙ used)

  apart_now : IsOneToOne after remains
  apart_now = record {
    base = keeps.apart.base;
    root = λ part frame table used. keeps.apart.root part frame table (use_was part frame used);
    guest = keeps.apart.guest;
    pages = λ name still.
        keeps.apart.pages name (still.0, was_there state number index thread there away name still.0 still.1);
  }

  contents_now : HasContents placement state new
  contents_now =
      contents_still placement state memory new (clears.list.0 ∷ []) state.pages keeps.contents keeps.apart same
      (one_holds_none placement clears.list.0 (λ name is. let e = sym list_purpose ∙ is in cc))
      (record { before = λ one page found. (page, found, refl) })

  keeps_left : Keeps after remains new
  keeps_left = record {
    leads = leads_now;
    apart = apart_now;
    contents =
        record {
          page = λ name page found.
              let held = contents_now.page name page (was_there state number index thread there away name page found) in
              record { inside = held.inside; size = held.size; byte = held.byte };
        };
  }

  left_stays : StaysInPlace after placement remains state
  left_stays = record {
    frames = λ name still. refl;
    modes = λ name page found. (page, was_there state number index thread there away name page found, refl);
    views = record {
      shown = λ other second process shows.
          sym (others_left state number index thread there away other second (not_shown other second process shows)) ∙ shows;
      entries = λ other second shows.
          sym (ap entry_of_index (view_is other second (not_shown other second shows.0 shows.1)));
      homes = λ other second shows. sym (home_left state number index thread there away other);
      lists = λ other second shows. sym (ap (λ one. eptp_list_frame one other) clears.cleared);
    };
  }

-- a view goes, and the rest is kept
pub view_cleared : ViewRemovalsKeep
view_cleared placement state memory new root number index thread keeps there away no_buffer clears =
    kept_rest placement (placed_on placement root) state (without_view state number thread index) memory new keeps
    (keeps_left placement state memory new root number index thread keeps there away no_buffer clears)
    (left_stays placement state memory new root number index thread keeps there away no_buffer clears)
