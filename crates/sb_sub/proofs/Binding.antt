-- A view of a server is added for a thread of a state that is stood for: what the code asks, and what is carried then.
use Rattle.std.proofs.Common.{◌≡◌, ◌≢◌, ◌∙◌, sym, ap, subst, ℕ, zero, suc, ◌+◌, ◌<◌, ◌==◌, Bool, true, false, not, List, [], ◌∷◌, ◌++◌, length, get_or, refl, arith}
use Rattle.std.specs.Prelude.{Option, Some, None, is_some, if◌then◌else◌, slice_get, unwrap_or}
use Rattle.std.specs.Option.{option_and_then}
use Rattle.std.specs.List.{Contains}
use Rattle.std.proofs.lemmas.Bool.{ne_eqb}
use Rattle.std.proofs.lemmas.List.{length-map}
use Rattle.std.proofs.lemmas.List.Elements.{Contains-get_or}
use Rattle.sb_memory.specs.Physical.{Physical}
use Rattle.sb_memory.specs.declared.address.Frame.{Frame}
use Rattle.sb_frames.specs.Book.{Book, holder}
use Rattle.sb_pagewalk.specs.declared.table_set.TableSet.{TableSet}
use Rattle.sb_pagewalk.specs.TableSet.{table_frame}
use Rattle.sb_root.specs.declared.root_kernel.RootKernel.{RootKernel}
use Rattle.sb_root.specs.declared.view.View.{View}
use Rattle.sb_root.specs.Answers.{SameViews}
use Rattle.sb_root.specs.Calls.{IsAddedView, IsFree}
use Rattle.sb_root.specs.Root.{HasFreeIndex, PartOf, is_listed, eptp_list_frame, view_of, view_frames}
use Rattle.sb_root.specs.Standing.{IsBooked, IsRootFrame, Stands}
use Rattle.sb_root.proofs.Frames.{contains_index}
use Rattle.sb_root.proofs.InTurn.{length_with_parts, parts_other}
use Rattle.sb_root.proofs.Uses.{used_part, view_same}
use Rattle.sb_tramp.specs.declared.record_words.RecordWords.{RecordWords}
use Rattle.sb_state.specs.declared.page.PageName.TheVariants.{Buffer, Record, Scratch}
use Rattle.sb_state.specs.declared.state.Binding.{Binding}
use Rattle.sb_state.specs.declared.state.Thread.{Thread}
use Rattle.sb_state.specs.Bindings.{free_index}
use Rattle.sb_state.proofs.Indices.{indices_are_free}
use Rattle.sb_trace.specs.State.{State, find_page, no_thread, thread_at}
use Rattle.sb_trace.specs.Windows.{process_shown, process_of_view, server_of}
use Rattle.sb_trace.proofs.TablePages.{view_absent}
use Rattle.sb_shows.specs.Placement.{Unused, GuestTable}
use Rattle.sb_shows.specs.Keeping.{HasGuest, HasView}
use Rattle.sb_shows.specs.Views.{AddsRootView, part_purpose, placed_view}
use Rattle.sb_shows.proofs.Binding.{binds_view, free_away, free_fresh, home_shown, server_in, slice_same, viewed}
use Rattle.sb_shows.proofs.Placing.{others_kept, view_kept}
use Rattle.sb_mapping.specs.Carries.{Carries}
use Rattle.sb_mapping.specs.Taking.{CanTake}
use Rattle.sb_mapping.proofs.Carried.{can_take}
use Rattle.sb_sub.specs.Kernel.{Entry, Kernel, Seat, process_of, seat_in, seat_of}
use Rattle.sb_sub.specs.Sharing.{CanShare}
use Rattle.sb_sub.specs.StandsFor.{StandsFor}
use Rattle.sb_sub.proofs.Calling.{count_same}
use Rattle.sb_sub.proofs.Finding.{process_there, set_is}
use Rattle.sb_sub.proofs.Moves.{seat_at}

-- ---- small laws

-- an element at a place of a list is found
found_within : {A : Type 0} (list : List A) (index : ℕ) (default : A) → index < length list
    → slice_get list index ≡ Some (unwrap_or (slice_get list index) default)
found_within [] index default below = absurd (omega (arith, below))
found_within (first ∷ list) zero default below = refl
found_within (first ∷ list) (suc index) default below = found_within list index default (omega arith)

-- a frame that is not missing is there
some_frame : (found : Option Frame) → found ≢ None → (frame : Frame) × (found ≡ Some frame)
some_frame None is = absurd (is refl)
some_frame (Some frame) is = (frame, refl)

-- an entry is not set for a view that is not there
not_set_by : (set shown : Bool) → (set ≡ true → shown ≡ true) → shown ≡ false → set ≡ false
not_set_by true shown is none = absurd (let e = is refl in cc)
not_set_by false shown is none = refl

-- the frame at a place of a list is in it
contains_at : (frames : List ℕ) (k : ℕ) → k < length frames → Contains frames (get_or frames k 0)
contains_at frames k within = Contains-get_or frames k 0 within

-- a frame is the table of one process
same_tables : (home server table other : ℕ) → GuestTable home table ≡ GuestTable server other → home ≡ server
same_tables home server table other same = cc

module _ (kernel : Kernel) (root : RootKernel) (book : Book) (memory : Physical) (state : State)
    (stands : StandsFor kernel root book memory state) (number : ℕ) (inside : number < length kernel.seats) where
  abbrev thread : Thread
  thread = thread_at state number

  -- ---- the thread

  -- it is there
  pub there : slice_get state.threads number ≡ Some (thread_at state number)
  unfolding thread_at
  there =
      found_within state.threads number no_thread
      (subst (λ (n : ℕ). number < n) (count_same kernel root book memory state stands) inside)

  -- what the kernel keeps of it is its home and its bindings
  pub seat_is : seat_in kernel number ≡ seat_of (thread_at state number)
  seat_is =
      sym (seat_at state number
      ∙ ap (λ (seats : List Seat). unwrap_or (slice_get seats number) (seat_of no_thread)) stands.seats)

  home_view : HasView stands.placement state number 0 thread.home
  home_view = stands.keeps.leads.views number 0 thread.home (home_shown state number thread there)

  -- the page tables serve it
  pub served : number < 8
  served = home_view.served

  home_there : thread.home < length state.processes
  home_there = home_view.home_there

  -- its home is one of the processes
  pub home_inside : (seat_in kernel number).home < length kernel.processes
  home_inside =
      let count : length kernel.processes ≡ length state.processes =
      sym (length-map kernel.processes process_of) ∙ ap length stands.processes in
      subst (λ (seat : Seat). seat.home < length kernel.processes) (sym seat_is)
      (subst (λ (n : ℕ). thread.home < n) (sym count) home_there)

  -- ---- its list

  -- the root kernel's tables stand
  pub root_stands : Stands root memory
  root_stands = subst (λ (one : RootKernel). Stands one memory) stands.rooted stands.keeps.leads.stands

  -- it has a list
  pub placed_list : (list : Frame) × (eptp_list_frame stands.placement.root number ≡ Some list)
  placed_list =
      some_frame (eptp_list_frame stands.placement.root number)
      (stands.keeps.leads.stands.listed number 0 home_view.kept home_view.is)

  pub has_list : eptp_list_frame root number ≢ None
  has_list none =
      let e = sym placed_list.1 ∙ (ap (λ (one : RootKernel). eptp_list_frame one number) stands.rooted ∙ none) in cc

  -- an index without a binding shows nothing
  shown_none : (index : ℕ) → index ≢ 0 → server_of thread.bindings index ≡ None → process_shown state.threads number index ≡ None
  unfolding process_shown
  shown_none index away fresh =
      ap (option_and_then (process_of_view index)) there
      ∙ (ap (λ (test : Bool). if test then Some thread.home else server_of thread.bindings index) (ne_eqb index 0 away) ∙ fresh)

  -- and its entry is not set
  free_listed : (index : ℕ) → process_shown state.threads number index ≡ None
      → is_listed (view_of root number index) ≡ false
  free_listed index none =
      subst (λ (one : RootKernel). is_listed (view_of one number index) ≡ false) stands.rooted
      (not_set_by (is_listed (view_of stands.placement.root number index)) (is_some (process_shown state.threads number index))
      (λ set. ap is_some (stands.keeps.leads.only number index set).1) (ap is_some none))

  -- a thread with fewer than fifteen bindings has an index that is free
  pub has_room : length (seat_in kernel number).bindings < 15 → HasFreeIndex root number
  has_room room =
      let few : length thread.bindings < 15 = subst (λ (seat : Seat). length seat.bindings < 15) seat_is room in
      let free = indices_are_free thread.bindings few in
      let least = free.least in
      let most = free.most in
      let fresh : server_of thread.bindings (free_index thread.bindings) ≡ None = ap server_in free.free in
      let away : free_index thread.bindings ≢ 0 = λ zero_index. omega (arith, least, zero_index) in (
        free_index thread.bindings,
        omega arith,
        free_listed (free_index thread.bindings) (shown_none (free_index thread.bindings) away fresh),
      )

  -- ---- the roots of page tables

  module _ (process : ℕ) (entry : Entry) (kept : slice_get kernel.processes process ≡ Some entry) where
    below : process < length state.processes
    below = process_there kernel root book memory state stands process entry kept

    guest : HasGuest stands.placement state memory process
    guest = stands.keeps.leads.guests process below

    -- the root of a process's page tables is in the frame of its number
    pub root_number : entry.set.root.0 ≡ 16 + process
    root_number =
        ap (λ (set : TableSet). set.root.0) (sym (set_is kernel root book memory state stands process entry kept))
        ∙ guest.root

    pub is_root_frame : IsRootFrame entry.set.root.0
    is_root_frame = let few = guest.few in let is = root_number in (omega arith, omega arith)

  -- ---- the view

  module _ (server : ℕ) (client target : Entry)
      (client_there : slice_get kernel.processes thread.home ≡ Some client)
      (target_there : slice_get kernel.processes server ≡ Some target)
      (root' : RootKernel) (between : Book) (mid : Physical) (words : RecordWords) (index : ℕ) (view : View)
      (added : IsAddedView root root' book between memory mid number client.set.root target.set.root words true index view)
      (stood : Stands root' mid) (booked : IsBooked root' between mid) (answers : SameViews root memory mid) where
    free_index_is : is_listed (view_of stands.placement.root number index) ≡ false
    free_index_is =
        subst (λ (one : RootKernel). is_listed (view_of one number index) ≡ false) (sym stands.rooted) added.lowest.free

    -- the index is not that of the home view
    pub away : index ≢ 0
    away = free_away stands.placement state memory stands.keeps number index thread there free_index_is

    -- nor of a binding
    pub fresh : server_of (thread_at state number).bindings index ≡ None
    fresh = free_fresh stands.placement state memory stands.keeps number index thread there free_index_is

    -- and it has no pages
    pub absent : (find_page state.pages (Record number index) ≡ None) × (find_page state.pages (Scratch number index) ≡ None)
        × ((page : ℕ) → find_page state.pages (Buffer number index page) ≡ None)
    absent = view_absent state stands.servable.table number index (shown_none index away fresh)

    few : index < 16
    few = added.lowest.inside

    -- so the view has the servers' trampoline page
    pub server_flag : true ≡ not (index == 0)
    server_flag = ap not (sym (ne_eqb index 0 away))

    -- it is a view that was added to the placement
    unfoldable pub adds_view : AddsRootView stands.placement root' number index (thread_at state number).home server words
        memory mid
    adds_view = record {
      before = book;
      after = between;
      home_root = client.set.root;
      target_root = target.set.root;
      view = view;
      added =
          subst (λ (one : RootKernel). IsAddedView one root' book between memory mid number client.set.root target.set.root words
          (not (index == 0)) index view) (sym stands.rooted)
          (subst (λ (flag : Bool). IsAddedView root root' book between memory mid number client.set.root target.set.root words
          flag index view) server_flag added);
      home_is = root_number thread.home client client_there;
      target_is = root_number server target target_there;
      stands = stood;
      answers = subst (λ (one : RootKernel). SameViews one memory mid) (sym stands.rooted) answers;
      list = placed_list.0;
      listed = placed_list.1;
      unused = λ frame among. stands.unused frame (added.free frame among);
    }

    -- ---- frames that are free then

    kept_view : view_of root' number index ≡ Some view
    kept_view =
        let low = served in
        ap (λ (one : RootKernel). view_of one number index) added.kept
        ∙ view_same root number index view root_stands.shape (omega arith) few

    -- a frame of the view is not free then
    held_part : (frame : ℕ) → IsFree between frame → Contains (view_frames view) frame → ⊥
    held_part frame free among =
        let at = contains_index (view_frames view) frame among in
        let used = used_part root' number index at.0 view kept_view at.1 ∙ ap (λ (n : ℕ). Some n) at.2 in
        let e = sym free.1 ∙ booked.held (PartOf number index at.0) frame used in cc

    part_free : (k : ℕ) → k < length (view_frames view) → IsFree book (get_or (view_frames view) k 0)
    part_free k within = added.free (get_or (view_frames view) k 0) (contains_at (view_frames view) k within)

    -- what is free then was free before
    free_first : (frame : ℕ) → IsFree between frame → IsFree book frame
    free_first frame free =
        let size = ap length added.taken ∙ length_with_parts book number 0 (view_frames view) in
        let inside_book = free.0 in (
          (inside_book.0, subst (λ (n : ℕ). frame < 512 + n) size inside_book.1),
          sym (ap (λ (one : Book). holder one frame) added.taken
              ∙ parts_other book number 0 (view_frames view) frame (λ k within. (part_free k within).0.0) inside_book.0
              (λ k within same. held_part frame free
              (subst (Contains (view_frames view)) (sym same) (contains_at (view_frames view) k within))))
              ∙ free.1,
        )

    -- a free frame is used for nothing
    pub unused_then : (frame : ℕ) → IsFree between frame
        → (placed_view stands.placement root' number index view).purpose frame ≡ Unused
    unused_then frame free =
        others_kept (part_purpose number index) stands.placement.purpose (view_frames view) 0 frame (held_part frame free)
        ∙ stands.unused frame (free_first frame free)

    -- ---- the state with the view

    module _ (key : ℕ) where
      abbrev binding : Binding
      binding = record { index = index; server = server; key = key }

      abbrev with_its_view : State
      with_its_view = viewed state number thread binding words there away fresh

      home_same : thread.home ≡ (thread_at with_its_view number).home
      unfolding thread_at
      home_same =
          sym (ap (λ (found : Option Thread). (unwrap_or found no_thread).home)
          (slice_same state.threads number (record thread { bindings = thread.bindings ++ binding ∷ [] }) thread there))

      -- it is carried
      carried : Carries (placed_view stands.placement root' number index view) root' between mid with_its_view
      unfolding adds_view
      carried = record {
        keeps =
            (view_kept stands.placement state with_its_view memory mid root' number index thread.home server words stands.keeps
            (binds_view state number thread binding words there away fresh absent.0 absent.1 absent.2) adds_view home_same served
            (process_there kernel root book memory state stands server target target_there) home_there).in_place.keeps;
        rooted = refl;
        booked = booked;
        unused = unused_then;
      }

      can_take_then : (process : ℕ) (entry : Entry) → slice_get kernel.processes process ≡ Some entry
          → CanTake entry.set root' between mid
      can_take_then process entry kept =
          subst (λ (set : TableSet). CanTake set root' between mid)
          (set_is kernel root book memory state stands process entry kept)
          (can_take (placed_view stands.placement root' number index view) root' between mid with_its_view carried process
          (process_there kernel root book memory state stands process entry kept))

      -- no table of the home is one of the server's
      tables_apart : server ≢ thread.home → (table other : ℕ) → table < 12 → other < 12
          → table_frame (stands.placement.sets thread.home) table ≢ table_frame (stands.placement.sets server) other
      tables_apart differ table other low below same =
          let guests = stands.keeps.apart.guest in
          differ (sym (same_tables thread.home server table other
          (sym (guests thread.home table home_there low)
          ∙ (ap stands.placement.purpose same
          ∙ guests server other (process_there kernel root book memory state stands server target target_there) below))))

      -- the code may share pages
      pub can_share : server ≢ (thread_at state number).home → CanShare client.set target.set root' between mid
      can_share differ = record {
        at_home = can_take_then thread.home client client_there;
        at_server = can_take_then server target target_there;
        apart =
            subst (λ (set : TableSet). (table other : ℕ) → table < 12 → other < 12 → table_frame set table
            ≢ table_frame target.set other)
            (set_is kernel root book memory state stands thread.home client client_there)
            (subst (λ (set : TableSet). (table other : ℕ) → table < 12 → other < 12
            → table_frame (stands.placement.sets thread.home) table ≢ table_frame set other)
            (set_is kernel root book memory state stands server target target_there) (tables_apart differ));
      }
