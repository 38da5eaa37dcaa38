-- A thread is added to a state that is carried.
use Rattle.std.proofs.Common.{◌≡◌, ◌≢◌, ◌∙◌, sym, ap, subst, ℕ, zero, suc, ◌+◌, ◌-◌, ◌*◌, ◌<◌, inl, inr, Bool, false, List, [], ◌∷◌, length, refl, arith}
use Rattle.std.specs.Prelude.{None, Some, if◌then◌else◌}
use Rattle.std.specs.List.{Contains}
use Rattle.std.proofs.lemmas.Bool.{ne_eqb}
use Rattle.std.proofs.lemmas.List.{length-set}
use Rattle.sb_memory.specs.Physical.{Physical}
use Rattle.sb_memory.specs.declared.address.Frame.{Frame}
use Rattle.sb_frames.specs.Book.{Book, IsInBook, with_holder}
use Rattle.sb_frames.specs.declared.kind.Kind.{Kind}
use Rattle.sb_frames.specs.declared.kind.Kind.TheVariants.{EptpList}
use Rattle.sb_pagewalk.specs.declared.table_set.TableSet.{TableSet}
use Rattle.sb_pagewalk.specs.Windows.{IsInWindow, region_of, page_table_of}
use Rattle.sb_root.specs.declared.root_kernel.RootKernel.{RootKernel}
use Rattle.sb_root.specs.declared.view.View.{View}
use Rattle.sb_root.specs.Root.{ListOf, IsLowestFree, is_listed, eptp_list_frame, view_of, view_frames, part_kind}
use Rattle.sb_root.specs.Standing.{IsBooked, Stands}
use Rattle.sb_tramp.specs.declared.record_words.RecordWords.{RecordWords}
use Rattle.sb_root.specs.Answers.{SameViews}
use Rattle.sb_root.specs.Calls.{IsFree, with_parts, IsAddedList, IsAddedView}
use Rattle.sb_root.proofs.Frames.{among_cases}
use Rattle.sb_root.proofs.Uses.{list_same, list_other, view_other}
use Rattle.sb_state.specs.declared.page.PageName.TheVariants.{Save, Stack}
use Rattle.sb_trace.specs.PageName.{mode_of}
use Rattle.sb_trace.specs.State.{State}
use Rattle.sb_trace.specs.Start.{home_words, save_address, start_thread}
use Rattle.sb_state.specs.declared.page.Mode.TheVariants.{ReadWrite}
use Rattle.sb_shows.specs.Placement.{Placement, Unused, RootTable}
use Rattle.sb_shows.specs.Starts.{HasNoThreadPages, save_and_stack}
use Rattle.sb_shows.specs.Views.{AddsList, AddsRootView, part_purpose, placed_list, placed_view, with_new_thread}
use Rattle.sb_shows.specs.Windows.{page_number}
use Rattle.sb_shows.proofs.Listing.{list_kept}
use Rattle.sb_shows.proofs.Placing.{others_kept}
use Rattle.sb_shows.proofs.Starting.{thread_kept}
use Rattle.sb_shows.proofs.WholeThreads.{whole_thread_kept}
use Rattle.sb_mapping.specs.Carries.{Carries}
use Rattle.sb_mapping.specs.Taking.{CanTake}
use Rattle.sb_mapping.specs.StartPages.{IsOver, AddedPages, AddsAll}
use Rattle.sb_mapping.specs.StartThreads.{HasNoViews, AddedHomeView, IsReadyForThread, AddedThread}
use Rattle.sb_mapping.proofs.Carried.{can_take}
use Rattle.sb_mapping.proofs.Taken.{free_before}

-- ---- what is free after a view took its frames

in_book : (book : Book) (frame one : ℕ) (held : Kind × ℕ) → IsInBook book one → IsInBook (with_holder book frame (Some held)) one
in_book book frame one held inside =
    (inside.0, subst (λ (n : ℕ). one < 512 + n) (sym (length-set book (frame - 512) (Some held))) inside.1)

-- what is free after frames were taken for parts of a view was free before, and is none of them
pub free_parts : (frames : List ℕ) (book : Book) (thread part one : ℕ)
    → ((frame : ℕ) → Contains frames frame → IsInBook book frame) → IsFree (with_parts book thread part frames) one
    → IsFree book one × ¬ Contains frames one
free_parts [] book thread part one inside free = (free, λ (k, within, is). absurd (omega (arith, within)))
free_parts (frame ∷ frames) book thread part one inside free =
    let here : IsInBook book frame = inside frame (zero, omega arith, refl) in
    let later = free_parts frames (with_holder book frame (Some (part_kind part, thread))) thread (part + 1) one
    (λ other among. in_book book frame other (part_kind part, thread)
    (inside other (let k = among.0 in (suc among.0, omega (arith, among.1), among.2)))) free in
    let before = free_before book frame one (part_kind part, thread) here later.0 in (
      before.0,
      λ among. elim (among_cases frame one frames among) [ inl same ↦ before.1 same | inr rest ↦ later.1 rest ],
    )

-- ---- a list and a home view

-- the index of the first view of a thread without views is 0
pub first_index : (root : RootKernel) (thread index : ℕ) → ((view : ℕ) → view_of root thread view ≡ None)
    → IsLowestFree root thread index → index ≡ 0
first_index root thread zero none lowest = refl
first_index root thread (suc index) none lowest =
    absurd (let set = lowest.lowest index (omega arith) in let e = sym (ap is_listed (none index)) ∙ set in cc)

-- the first view of a thread is at index 0
pub view_first : (root second : RootKernel) (book book' : Book) (memory new : Physical) (thread index : ℕ) (table : Frame)
    (words wanted : RecordWords) (view : View) → ((index : ℕ) → view_of root thread index ≡ None) → words ≡ wanted
    → IsAddedView root second book book' memory new thread table table words false index view
    → IsAddedView root second book book' memory new thread table table wanted false 0 view
view_first root second book book' memory new thread index table words wanted view none is added =
    subst (λ (one : RecordWords). IsAddedView root second book book' memory new thread table table one false 0 view) is
    (subst (λ (n : ℕ). IsAddedView root second book book' memory new thread table table words false n view)
    (first_index root thread index none added.lowest) added)

-- after a thread got a list, it has one,
pub list_there : (root first : RootKernel) (book between : Book) (memory listed : Physical) (thread : ℕ) (frame : Frame)
    → IsAddedList root first book between memory listed thread frame → Stands root memory → thread < 8
    → eptp_list_frame first thread ≢ None
list_there root first book between memory listed thread frame list stands small none =
    let e = sym none ∙ (ap (λ (one : RootKernel). eptp_list_frame one thread) list.kept
    ∙ list_same root thread frame stands.shape (omega (arith, small))) in cc

-- and as yet no view
pub no_view_listed : (root first : RootKernel) (book between : Book) (memory listed : Physical) (thread : ℕ) (frame : Frame)
    → IsAddedList root first book between memory listed thread frame → HasNoViews root thread
    → (index : ℕ) → view_of first thread index ≡ None
no_view_listed root first book between memory listed thread frame list none index =
    ap (λ (one : RootKernel). view_of one thread index) list.kept ∙ none.views index

module _ (root first second : RootKernel) (book between book' : Book) (memory listed new : Physical) (thread home : ℕ)
    (frame : Frame) (list : IsAddedList root first book between memory listed thread frame) (stands : Stands root memory)
    (stands_listed : Stands first listed) (small : thread < 8)
    (table : Frame) (table_is : table.0 ≡ 16 + home) (view : View)
    (added : IsAddedView first second between book' listed new thread table table (home_words thread home) false 0 view)
    (stands_new : Stands second new) (answers : SameViews first listed new) where
  list_is : eptp_list_frame first thread ≡ Some frame
  list_is =
      ap (λ (one : RootKernel). eptp_list_frame one thread) list.kept
      ∙ list_same root thread frame stands.shape (omega (arith, small))

  module _ (placement : Placement) (over : IsOver placement root book) where
    adds_list : AddsList placement first thread memory listed
    adds_list = record {
      before = book;
      after = between;
      frame = frame;
      added = subst (λ (one : RootKernel). IsAddedList one first book between memory listed thread frame) (sym over.rooted) list;
      stands = stands_listed;
      small = omega (arith, small);
      unused = over.unused frame.0 list.free;
    }

    free_listed : (one : ℕ) → IsFree between one → IsFree book one × (one ≢ frame.0)
    free_listed one free =
        free_before book frame.0 one (EptpList, thread) list.free.0 (subst (λ (after : Book). IsFree after one) list.taken free)

    unused_listed : (one : ℕ) → IsFree between one → (placed_list placement first thread frame.0).purpose one ≡ Unused
    unused_listed one free =
        let known = free_listed one free in
        ap (λ (test : Bool). if test then RootTable (ListOf thread) else placement.purpose one) (ne_eqb one frame.0 known.1)
        ∙ over.unused one known.0

    adds_view : AddsRootView (placed_list placement first thread frame.0) second thread 0 home home (home_words thread home)
        listed new
    adds_view = record {
      before = between;
      after = book';
      home_root = table;
      target_root = table;
      view = view;
      added = added;
      home_is = table_is;
      target_is = table_is;
      stands = stands_new;
      answers = answers;
      list = frame;
      listed = list_is;
      unused = λ one among. unused_listed one (added.free one among);
    }

    unused_new : (one : ℕ) → IsFree book' one
        → (placed_view (placed_list placement first thread frame.0) second thread 0 view).purpose one ≡ Unused
    unused_new one free =
        let known = free_parts (view_frames view) between thread 0 one (λ other among. (added.free other among).0)
        (subst (λ (after : Book). IsFree after one) added.taken free) in
        others_kept (part_purpose thread 0) (placed_list placement first thread frame.0).purpose (view_frames view) 0 one known.1
        ∙ unused_listed one known.0

    -- the list and the view are added over each placement
    pub home_view_added : AddedHomeView placement thread home second book' memory new
    unfolding adds_list adds_view
    home_view_added = record {
      first = first;
      listed = listed;
      list = adds_list;
      view = adds_view;
      over = record { rooted = refl; unused = unused_new };
    }

  -- no other thread gets a list or a view
  pub others_stay : (other : ℕ) → other ≢ thread → HasNoViews root other → HasNoViews second other
  others_stay other differ none = record {
    list = ap (λ (one : RootKernel). eptp_list_frame one other) added.kept
        ∙ (ap (λ (one : RootKernel). eptp_list_frame one other) list.kept
        ∙ (list_other root thread other frame differ ∙ none.list));
    views = λ index. ap (λ (one : RootKernel). view_of one other index) added.kept
        ∙ (view_other first thread 0 other index view stands_listed.shape (omega (arith, small)) (λ same e. differ same)
        ∙ (ap (λ (one : RootKernel). view_of one other index) list.kept ∙ none.views index));
  }

-- ---- the save page and the stack

pub save_window : (thread : ℕ) → thread < 8 → IsInWindow (4096 * page_number (Save thread))
unfolding page_table_of page_number
save_window thread few =
    let region : region_of (4096 * (0x3000 + 8 * thread)) ≡ 24 = omega (arith, few) in rw region (λ e. cc)

pub save_number : (thread : ℕ) → save_address thread ≡ 4096 * page_number (Save thread)
unfolding page_number
save_number thread = omega arith

pub stack_window : (thread page : ℕ) → thread < 8 → page < 4 → IsInWindow (4096 * page_number (Stack thread page))
unfolding page_table_of page_number
stack_window thread page few low =
    let region : region_of (4096 * (0x3000 + (8 * thread + (4 + page)))) ≡ 24 = omega (arith, few, low) in rw region (λ e. cc)

pub save_mode : (thread : ℕ) → mode_of (Save thread) false ≡ ReadWrite
unfolding mode_of
save_mode thread = refl

pub stack_mode : (thread page : ℕ) → mode_of (Stack thread page) false ≡ ReadWrite
unfolding mode_of
stack_mode thread page = refl

-- ---- the state with the thread

module _ (placement : Placement) (root second : RootKernel) (book between : Book) (memory viewed : Physical) (state : State)
    (home : ℕ) (set : TableSet) (carries : Carries placement root book memory state)
    (none : HasNoThreadPages state.pages (length state.threads)) (there : home < length state.processes)
    (set_is : placement.sets home ≡ set) (served : length state.threads < 8)
    (added : AddedHomeView placement (length state.threads) home second between memory viewed)
    (booked : IsBooked second between viewed) where
  module _ (address : ℕ) where
    carries_view : Carries
        (placed_view (placed_list placement added.first (length state.threads) added.list.frame.0) second (length state.threads) 0
        added.view.view) second between viewed
        (with_new_thread state (start_thread (length state.threads) (record { home = home; address = address }))
        (home_words (length state.threads) home))
    carries_view = record {
      keeps = (thread_kept (placed_list placement added.first (length state.threads) added.list.frame.0) state added.listed viewed
          second (start_thread (length state.threads) (record { home = home; address = address }))
          (home_words (length state.threads) home)
          (list_kept placement state memory added.listed added.first (length state.threads) carries.keeps
          added.list).in_place.keeps
          refl there served none added.view).in_place.keeps;
      rooted = added.over.rooted;
      booked = booked;
      unused = added.over.unused;
    }

    can_by : CanTake set second between viewed
    can_by =
        subst (λ (one : TableSet). CanTake one second between viewed) set_is
        (can_take _ second between viewed _ carries_view home there)

    module _ (book' : Book) (new : Physical)
        (pages : AddsAll set second home (save_and_stack (length state.threads)) between book' viewed new)
        (booked' : IsBooked second book' new) where
      all : AddedPages
          (placed_view (placed_list placement added.first (length state.threads) added.list.frame.0) second
          (length state.threads) 0 added.view.view) home
          (save_and_stack (length state.threads)) second book' viewed new
      all = pages _ added.over set_is

      added_by : AddedThread placement second book' new state (record { home = home; address = address })
      added_by = record {
        after = _;
        carries = record {
          keeps = (whole_thread_kept placement state memory added.listed viewed new added.first second
              (record { home = home; address = address }) carries.keeps there served none added.list added.view all.adds).keeps;
          rooted = all.over.rooted;
          booked = booked';
          unused = all.over.unused;
        };
        sets = λ process. all.sets process;
      }

-- pages may be taken for the home of a thread whose home view was added
pub can_take_home : (placement : Placement) (root second : RootKernel) (book between : Book) (memory viewed : Physical)
    (state : State) (thread home : ℕ) (set : TableSet) → IsReadyForThread placement root book memory state thread home set
    → thread < 8 → AddedHomeView placement thread home second between memory viewed → IsBooked second between viewed
    → CanTake set second between viewed
can_take_home placement root second book between memory viewed state thread home set ready =
    subst (λ (n : ℕ). HasNoThreadPages state.pages n → n < 8 → AddedHomeView placement n home second between memory viewed
    → IsBooked second between viewed → CanTake set second between viewed) ready.count
    (λ none served added booked. can_by placement root second book between memory viewed state home set ready.carries none
    ready.there ready.set_is served added booked 0) ready.none

-- a thread is added to each state to which it can be
pub thread_added : (placement : Placement) (root second : RootKernel) (book between book' : Book) (memory viewed new : Physical)
    (state : State) (thread home address : ℕ) (set : TableSet)
    → IsReadyForThread placement root book memory state thread home set
    → thread < 8 → AddedHomeView placement thread home second between memory viewed → IsBooked second between viewed
    → AddsAll set second home (save_and_stack thread) between book' viewed new → IsBooked second book' new
    → AddedThread placement second book' new state (record { home = home; address = address })
thread_added placement root second book between book' memory viewed new state thread home address set ready =
    subst (λ (n : ℕ). HasNoThreadPages state.pages n → n < 8 → AddedHomeView placement n home second between memory viewed
    → IsBooked second between viewed → AddsAll set second home (save_and_stack n) between book' viewed new
    → IsBooked second book' new → AddedThread placement second book' new state (record { home = home; address = address }))
    ready.count
    (λ none served added booked pages booked'. added_by placement root second book between memory viewed state home set
    ready.carries none ready.there ready.set_is served added booked address book' new pages booked') ready.none
