-- A state that is stood for, after bind.
use Rattle.std.proofs.Common.{◌≡◌, ◌≢◌, ◌∙◌, sym, ap, subst, ℕ, zero, suc, ◌+◌, ◌-◌, ◌*◌, ◌<◌, ◌≤◌, ◌==◌, Bool, true, false, List, [], ◌∷◌, ◌++◌, length, length-set, refl, arith}
use Rattle.std.specs.Prelude.{Option, Some, None, Ok, Err, drop, map, slice_get, slice_set, unwrap_or}
use Rattle.std.specs.Option.{option_map}
use Rattle.std.proofs.lemmas.Option.{slice_get_within}
use Rattle.std.proofs.lemmas.Bool.{eqb-true, eqb-false}
use Rattle.sb_abi.specs.declared.call.CallRefusal.{CallRefusal}
use Rattle.sb_calls.specs.Refusals.{bind_refusal}
use Rattle.sb_calls.specs.Views.{server_record}
use Rattle.sb_memory.specs.Physical.{Physical}
use Rattle.sb_memory.specs.declared.address.Access.{Access}
use Rattle.sb_memory.specs.declared.address.PhysAddr.{PhysAddr}
use Rattle.sb_frames.specs.Book.{Book, free_count}
use Rattle.sb_root.specs.declared.root_kernel.RootKernel.{RootKernel}
use Rattle.sb_root.specs.Calls.{IsAddedView}
use Rattle.sb_root.specs.Root.{list_entry}
use Rattle.sb_tramp.specs.declared.record_words.RecordWords.{RecordWords}
use Rattle.sb_state.specs.declared.page.PageName.TheVariants.{Buffer, Record, Scratch}
use Rattle.sb_state.specs.declared.state.Binding.{Binding}
use Rattle.sb_state.specs.declared.state.Registration.{Registration}
use Rattle.sb_state.specs.declared.state.Thread.{Thread}
use Rattle.sb_state.specs.Bindings.{free_index}
use Rattle.sb_state.proofs.Threads.{set_other, set_within}
use Rattle.sb_trace.specs.KernelCall.{handler_in}
use Rattle.sb_trace.specs.State.{State, find_page, no_thread, registration_of, registration_at, thread_at, flight_at}
use Rattle.sb_trace.specs.SyscallBind.{first_key, new_binding, refusal_of_bind, server_words, with_binding}
use Rattle.sb_trace.specs.SyscallRegister.{is_registered}
use Rattle.sb_trace.proofs.Accepted.{IsBinding, binding}
use Rattle.sb_shows.specs.InPlace.{KeepsInPlace, ViewsStay}
use Rattle.sb_shows.specs.Placement.{Placement}
use Rattle.sb_shows.specs.Related.{HasCores}
use Rattle.sb_shows.specs.Shows.{CoreWords, IsView, LeadsTo, index_of, present_index, seen_through}
use Rattle.sb_shows.specs.Views.{AddsRootView, placed_view}
use Rattle.sb_shows.specs.Calls.{placed_all}
use Rattle.sb_shows.specs.CallLaws.{pages_of_buffer}
use Rattle.sb_shows.proofs.Binding.{bound_keeps}
use Rattle.sb_shows.proofs.Bytes.{IsFound, seen_there}
use Rattle.sb_shows.proofs.FreeIndices.{free_indices_agree}
use Rattle.sb_shows.proofs.InPlace.{seen_still}
use Rattle.sb_shows.proofs.Steps.{cores_see}
use Rattle.sb_sub.specs.Binding.{AddsServerView, BindsBy, binding_by, binding_refusal, kernel_with, record_of_server, seat_with}
use Rattle.sb_sub.specs.Kernel.{Entry, Kernel, Seat, process_of, seat_in, seat_of}
use Rattle.sb_sub.specs.Refusals.{process_in}
use Rattle.sb_sub.specs.Serving.{KeepsLists}
use Rattle.sb_sub.specs.StandsFor.{IsServable, StandsFor}
use Rattle.sb_sub.specs.Translations.{PlacesStay}
use Rattle.sb_sub.proofs.Accepting.{found_same}
use Rattle.sb_sub.proofs.Binding.{absent, adds_view, root_stands, seat_is, served, there, unused_then}
use Rattle.sb_sub.proofs.BoundTable.{bound_servable}
use Rattle.sb_sub.proofs.Calling.{count_same}
use Rattle.sb_sub.proofs.Finding.{process_there, set_is}
use Rattle.sb_sub.proofs.Lists.{lists_kept}
use Rattle.sb_sub.proofs.SharedPages.{AreShared, are_shared}
use Rattle.sb_sub.proofs.Translated.{translations_kept}

-- what is kept of a thread that is set
seats_map : (threads : List Thread) (number : ℕ) (thread : Thread)
    → map seat_of (slice_set threads number thread) ≡ slice_set (map seat_of threads) number (seat_of thread)
seats_map [] number thread = refl
seats_map (first ∷ threads) zero thread = refl
seats_map (first ∷ threads) (suc number) thread =
    ap (λ (rest : List Seat). seat_of first ∷ rest) (seats_map threads number thread)

-- a process that told something is there
entry_by : (found : Option Entry) (registration : Registration)
    → registration_of (option_map process_of found) ≡ Some registration → (entry : Entry) × (found ≡ Some entry)
entry_by None registration is = absurd (let e = is in cc)
entry_by (Some entry) registration is = (entry, refl)

module _ (kernel : Kernel) (root : RootKernel) (book : Book) (memory : Physical) (state : State)
    (stands : StandsFor kernel root book memory state) (number : ℕ) (inside : number < length kernel.seats) where
  abbrev thread : Thread
  thread = thread_at state number

  thread_there : slice_get state.threads number ≡ Some (thread_at state number)
  thread_there = there kernel root book memory state stands number inside

  seat_same : seat_in kernel number ≡ seat_of (thread_at state number)
  seat_same = seat_is kernel root book memory state stands number inside

  -- ---- who is refused

  registered_same : (server : ℕ) → registration_of (process_in kernel server) ≡ registration_at state server
  unfolding registration_at
  registered_same server = ap registration_of (found_same kernel root book memory state stands server)

  -- the refusal is that of the definitions
  pub bind_refusal_same : (view server : ℕ) → binding_refusal kernel (free_count book) number view server
      ≡ refusal_of_bind state (record (thread_at state number) { view = view }) server
  bind_refusal_same view server =
      ap (λ (seat : Seat). bind_refusal view seat.home server (is_registered (registration_of (process_in kernel server)))
      (length seat.bindings) (length kernel.keys) (free_count book)) seat_same
      ∙ (ap (λ (told : Bool). bind_refusal view thread.home server told (length thread.bindings) (length kernel.keys)
      (free_count book)) (ap is_registered (registered_same server))
      ∙ (ap (λ (keys : List ℕ). bind_refusal view thread.home server (is_registered (registration_at state server))
      (length thread.bindings) (length keys) (free_count book)) stands.keys
      ∙ ap (λ (free : ℕ). bind_refusal view thread.home server (is_registered (registration_at state server))
      (length thread.bindings) (length state.keys) free) stands.count))

  -- what a bind that is not refused found
  pub bind_accepted : (view server : ℕ) → binding_refusal kernel (free_count book) number view server ≡ None
      → IsBinding state (record (thread_at state number) { view = view }) server
  bind_accepted view server accepts =
      binding state (record (thread_at state number) { view = view }) server (sym (bind_refusal_same view server) ∙ accepts)

  refusal_by_view : (view server : ℕ) → (thread_at state number).view ≡ view
      → binding_refusal kernel (free_count book) number view server ≡ refusal_of_bind state (thread_at state number) server
  refusal_by_view view server is =
      bind_refusal_same view server
      ∙ ap (λ (one : ℕ). bind_refusal one thread.home server (is_registered (registration_at state server))
      (length thread.bindings) (length state.keys) state.free) (sym is)

  -- a refused bind leaves the state
  pub refused_by : (view server : ℕ) (refusal : CallRefusal)
      → Some refusal ≡ binding_refusal kernel (free_count book) number view server → (thread_at state number).view ≡ view
      → BindsBy kernel root book memory state number server (Err refusal)
  refused_by view server refusal refused is = record {
    is = ap (λ (why : Option CallRefusal). binding_by why (new_binding state (thread_at state number) server))
        (refused ∙ refusal_by_view view server is);
    stands = stands;
  }

  -- ---- what the code asks of a server

  module _ (view server : ℕ) (accepts : binding_refusal kernel (free_count book) number view server ≡ None) where
    accepted : IsBinding state (record (thread_at state number) { view = view }) server
    accepted = bind_accepted view server accepts

    server_entry : (entry : Entry) × (slice_get kernel.processes server ≡ Some entry)
    server_entry =
        entry_by (slice_get kernel.processes server) accepted.registration (registered_same server ∙ accepted.registered)

    -- the server is one of the processes,
    pub server_inside : server < length kernel.processes
    server_inside = slice_get_within kernel.processes server server_entry.0 server_entry.1

    -- of at most sixteen,
    pub server_few : server < 16
    server_few =
        (stands.keeps.leads.guests server
        (process_there kernel root book memory state stands server server_entry.0 server_entry.1)).few

    -- and not the thread's home;
    pub server_away : server ≢ (seat_in kernel number).home
    server_away = subst (λ (seat : Seat). server ≢ seat.home) (sym seat_same) accepted.away

    -- the thread has fewer than fifteen bindings,
    pub bindings_few : length (seat_in kernel number).bindings < 15
    bindings_few = subst (λ (seat : Seat). length seat.bindings < 15) (sym seat_same) accepted.few

    -- and ten frames are free
    pub frames_free : 10 ≤ free_count book
    frames_free = let left = accepted.room in let count = stands.count in omega arith

  -- ---- what stands afterwards

  module _ (view server : ℕ) (asks : IsBinding state (record (thread_at state number) { view = view }) server)
      (root' : RootKernel) (book' : Book) (new : Physical) (index : ℕ)
      (pages : AddsServerView kernel.processes root root' book book' memory new number (seat_in kernel number).home server
      (record_of_server kernel number server (first_key kernel.keys)) index)
      (fewer : free_count book' + 10 ≡ free_count book) where
    client_there : slice_get kernel.processes thread.home ≡ Some pages.client
    client_there = ap (λ (seat : Seat). slice_get kernel.processes seat.home) (sym seat_same) ∙ pages.client_there

    server_there : server < length state.processes
    server_there = process_there kernel root book memory state stands server pages.target pages.target_there

    -- the record page says what the definitions say
    words_same : record_of_server kernel number server (first_key kernel.keys)
        ≡ server_words number (thread_at state number) (new_binding state (thread_at state number) server)
        (handler_in (registration_at state server))
    words_same =
        ap (λ (seat : Seat). server_record number seat.home (first_key kernel.keys)
        (handler_in (registration_of (process_in kernel server)))) seat_same
        ∙ (ap (λ (keys : List ℕ). server_record number thread.home (first_key keys)
        (handler_in (registration_of (process_in kernel server)))) stands.keys
        ∙ ap (λ (told : ℕ). server_record number thread.home (first_key state.keys) told)
        (ap handler_in (registered_same server)))

    abbrev told : RecordWords
    told =
        server_words number (thread_at state number) (new_binding state (thread_at state number) server)
        (handler_in (registration_at state server))

    added_told : IsAddedView root root' book pages.between memory pages.mid number pages.client.set.root pages.target.set.root
        told true index pages.view
    added_told = subst (λ (words : RecordWords). IsAddedView root root' book pages.between memory pages.mid number
        pages.client.set.root pages.target.set.root words true index pages.view) words_same pages.added

    view_added : AddsRootView stands.placement root' number index (thread_at state number).home server told memory pages.mid
    view_added =
        adds_view kernel root book memory state stands number inside server pages.client pages.target client_there
        pages.target_there root' pages.between pages.mid told index pages.view added_told pages.stands pages.booked_between
        pages.answers

    -- the index is the lowest that the thread has free
    index_is : free_index (thread_at state number).bindings ≡ index
    index_is =
        free_indices_agree stands.placement state memory number index thread stands.keeps thread_there view_added.added.lowest

    abbrev made : Binding
    made = record { index = index; server = server; key = first_key state.keys }

    made_is : made ≡ new_binding state (thread_at state number) server
    made_is = ap (λ (n : ℕ). record made { index = n }) (sym index_is)

    abbrev bound : Thread
    bound = record thread { bindings = thread.bindings ++ made ∷ [] }

    abbrev now : State
    now = with_binding state number thread made

    abbrev placed : Placement
    placed = placed_view stands.placement root' number index pages.view

    shared : AreShared placed book' pages.mid new thread.home server number index 0 4
    shared =
        are_shared thread.home server pages.client.set pages.target.set root' (seat_in kernel number).home number index 4 0 placed
        pages.between book' pages.mid new refl
        (set_is kernel root book memory state stands thread.home pages.client client_there)
        (set_is kernel root book memory state stands server pages.target pages.target_there)
        (unused_then kernel root book memory state stands number inside server pages.client pages.target client_there
        pages.target_there root' pages.between pages.mid told index pages.view added_told pages.stands pages.booked_between
        pages.answers)
        pages.buffer

    abbrev after : Placement
    after = placed_all placed (thread.home ∷ server ∷ []) (pages_of_buffer number index) pages.mid new shared.adds

    none : (find_page state.pages (Record number index) ≡ None) × (find_page state.pages (Scratch number index) ≡ None)
        × ((page : ℕ) → find_page state.pages (Buffer number index page) ≡ None)
    none =
        absent kernel root book memory state stands number inside server pages.client pages.target client_there
        pages.target_there root' pages.between pages.mid told index pages.view added_told pages.stands pages.booked_between
        pages.answers

    -- the state with the binding is kept, and all that was there stays in its place
    kept : KeepsInPlace stands.placement after state now memory new
    unfolding view_added adds_view
    kept =
        bound_keeps stands.placement state memory pages.mid new root' number thread made stands.keeps thread_there server_there
        none.0 none.1 none.2 view_added shared.adds

    seats_now : map seat_of now.threads ≡ slice_set kernel.seats number (seat_with (seat_in kernel number) made)
    unfolding with_binding
    seats_now =
        seats_map state.threads number bound
        ∙ (ap (λ (seats : List Seat). slice_set seats number (seat_of bound)) stands.seats
        ∙ ap (λ (seat : Seat). slice_set kernel.seats number (seat_with seat made)) (sym seat_same))

    processes_now : now.processes ≡ state.processes
    unfolding with_binding
    processes_now = refl

    keys_now : now.keys ≡ drop 1 state.keys
    unfolding with_binding
    keys_now = refl

    free_now : now.free ≡ state.free - 10
    unfolding with_binding
    free_now = refl

    made_stands : StandsFor (kernel_with kernel number made) root' book' new now
    made_stands = record {
      placement = after;
      keeps = kept.keeps;
      rooted = shared.rooted;
      sets = λ process entry found. shared.sets process ∙ stands.sets process entry found;
      processes = stands.processes ∙ sym processes_now;
      seats = seats_now;
      keys = ap (drop 1) stands.keys ∙ sym keys_now;
      servable =
          subst (λ (one : Binding). IsServable (with_binding state number thread one)) (sym made_is)
          (bound_servable state number server view thread_there asks stands.servable);
      booked = pages.booked;
      unused = shared.unused;
      count = (let was = stands.count in let left = free_now in omega (arith, was, left, fewer));
    }

    -- it is what is stood for
    pub bound_stands : StandsFor (kernel_with kernel number (new_binding state (thread_at state number) server)) root' book' new
        (with_binding state number (thread_at state number) (new_binding state (thread_at state number) server))
    bound_stands = subst (λ (one : Binding). StandsFor (kernel_with kernel number one) root' book' new
        (with_binding state number thread one)) made_is made_stands

    -- the binding that the code makes
    pub binding_is : (one : Binding) → one.index ≡ index → one.server ≡ server → one.key ≡ first_key kernel.keys
        → one ≡ new_binding state (thread_at state number) server
    binding_is one at to with_key =
        ap (λ (n : ℕ). record one { index = n }) at
        ∙ (ap (λ (n : ℕ). record made { server = n; key = one.key }) to
        ∙ (ap (λ (n : ℕ). record made { key = n }) (with_key ∙ ap first_key stands.keys) ∙ made_is))

    -- an accepted bind
    pub bound_by : (one : Binding) → one.index ≡ index → one.server ≡ server → one.key ≡ first_key kernel.keys
        → refusal_of_bind state (thread_at state number) server ≡ None
        → (kernel' : Kernel) → kernel' ≡ kernel_with kernel number one
        → BindsBy kernel' root' book' new state number server (Ok one)
    bound_by one at to with_key accepts kernel' noted =
        let same = binding_is one at to with_key in
        record {
          is = ap (λ (binding : Binding). Ok binding) same
              ∙ ap (λ (why : Option CallRefusal). binding_by why (new_binding state (thread_at state number) server))
              (sym accepts);
          stands = subst (λ (now : Kernel). StandsFor now root' book' new (with_binding state number thread one)) (sym noted)
              (subst (λ (binding : Binding). StandsFor (kernel_with kernel number binding) root' book' new
              (with_binding state number thread binding)) (sym same) bound_stands);
        }

    -- ---- the cores

    below : number < length state.threads
    below = subst (λ (n : ℕ). number < n) (count_same kernel root book memory state stands) inside

    count_now : length now.threads ≡ length state.threads
    unfolding with_binding
    count_now = length-set state.threads number bound

    view_by : (same : Bool) (other : ℕ) → (other == number) ≡ same → (thread_at now other).view ≡ (thread_at state other).view
    unfolding with_binding thread_at
    view_by true other is =
        subst (λ (n : ℕ). (unwrap_or (slice_get (slice_set state.threads number bound) n) no_thread).view
        ≡ (unwrap_or (slice_get state.threads n) no_thread).view) (sym (eqb-true other number is))
        (ap (λ (one : Thread). one.view) (set_within state.threads number bound no_thread below))
    view_by false other is =
        ap (λ (found : Option Thread). (unwrap_or found no_thread).view)
        (set_other state.threads number other bound (eqb-false other number is))

    present_same : (other : ℕ) → present_index now other ≡ present_index state other
    unfolding with_binding flight_at
    present_same other = ap (index_of (flight_at state other)) (view_by (other == number) other refl)

    abbrev views : ViewsStay stands.placement after state now
    views = kept.stays.views

    module _ (cores : ℕ → CoreWords) (has : HasCores stands.placement state cores) where
      seen_before : (other : ℕ) → other < length now.threads → IsView state other (present_index state other)
      seen_before other low = has.present other (subst (λ (n : ℕ). other < n) count_now low)

      -- the words of the cores are as before
      cores_after : HasCores after now cores
      cores_after = record {
        list = λ other low.
            let was = has.list other (subst (λ (n : ℕ). other < n) count_now low) in
            (was.0, views.lists other (present_index state other) (seen_before other low) ∙ was.1, was.2);
        cr3 = λ other low.
            has.cr3 other (subst (λ (n : ℕ). other < n) count_now low)
            ∙ ap (λ (home : ℕ). 4096 * (16 + home))
            (sym (views.homes other (present_index state other) (seen_before other low)));
        eptp = λ other low.
            has.eptp other (subst (λ (n : ℕ). other < n) count_now low)
            ∙ (sym (views.entries other (present_index state other) (seen_before other low))
            ∙ ap (list_entry after.root other) (sym (present_same other)));
        present = λ other low.
            let seen = seen_before other low in
            subst (IsView now other) (sym (present_same other))
            (seen.0, views.shown other (present_index state other) seen.0 seen.1);
      }

      -- so each address that led to a place leads there
      pub place_stays : (other view : ℕ) → IsView state other view → (access : Access) (linear : ℕ) (place : PhysAddr)
          → LeadsTo (seen_through memory (cores other) view) access linear place
          → LeadsTo (seen_through new (cores other) view) access linear place
      place_stays other view shows access linear place leads =
          translations_kept stands.placement after other view state now _ _
          (cores_see stands.placement state memory cores stands.keeps has other view shows)
          (cores_see after now new cores kept.keeps cores_after other view
          (shows.0, views.shown other view shows.0 shows.1))
          (λ page one is. (
            seen_still stands.placement after state now kept.stays other view page one is,
            kept.stays.frames one.name (subst (IsFound state.pages) is (seen_there state other view page)),
          ))
          access linear place leads

-- after bind each address that led to a place leads there
pub places_after_bind : (kernel : Kernel) (root : RootKernel) (book : Book) (memory : Physical) (number : ℕ)
    → number < length kernel.seats → (view server : ℕ)
    → binding_refusal kernel (free_count book) number view server ≡ None
    → (root' : RootKernel) (book' : Book) (new : Physical) (index : ℕ)
    → AddsServerView kernel.processes root root' book book' memory new number (seat_in kernel number).home server
    (record_of_server kernel number server (first_key kernel.keys)) index
    → free_count book' + 10 ≡ free_count book
    → PlacesStay kernel root book memory new
places_after_bind kernel root book memory number inside view server accepts root' book' new index pages fewer state cores stands
    has other seen shows access linear place leads =
    place_stays kernel root book memory state stands number inside view server
    (bind_accepted kernel root book memory state stands number inside view server accepts) root' book' new index pages fewer cores
    has other seen shows access linear place leads

-- what bind answers and leaves, where it is accepted
pub bind_done : (kernel : Kernel) (root : RootKernel) (book : Book) (memory : Physical) (number : ℕ)
    → number < length kernel.seats → (view server : ℕ)
    → binding_refusal kernel (free_count book) number view server ≡ None
    → (root' : RootKernel) (book' : Book) (new : Physical) (one : Binding)
    → one.server ≡ server → one.key ≡ first_key kernel.keys
    → AddsServerView kernel.processes root root' book book' memory new number (seat_in kernel number).home server
    (record_of_server kernel number server (first_key kernel.keys)) one.index
    → free_count book' + 10 ≡ free_count book
    → (kernel' : Kernel) → kernel' ≡ kernel_with kernel number one
    → (state : State) → StandsFor kernel root book memory state → (thread_at state number).view ≡ view
    → BindsBy kernel' root' book' new state number server (Ok one)
bind_done kernel root book memory number inside view server accepts root' book' new one to with_key pages fewer kernel' noted
    state stands is =
    bound_by kernel root book memory state stands number inside view server
    (bind_accepted kernel root book memory state stands number inside view server accepts) root' book' new one.index pages fewer
    one refl to with_key (sym (refusal_by_view kernel root book memory state stands number inside view server is) ∙ accepts)
    kernel' noted

-- the lists stay
pub lists_after_bind : (kernel : Kernel) (root : RootKernel) (book : Book) (memory : Physical) (state : State)
    → StandsFor kernel root book memory state → (number : ℕ) → number < length kernel.seats
    → (root' : RootKernel) (book' : Book) (new : Physical) (processes : List Entry) (home server : ℕ) (words : RecordWords)
    (index : ℕ) → AddsServerView processes root root' book book' memory new number home server words index
    → KeepsLists root root'
lists_after_bind kernel root book memory state stands number inside root' book' new processes home server words index pages =
    let low = served kernel root book memory state stands number inside in
    lists_kept root root' number index pages.view (root_stands kernel root book memory state stands number inside).shape
    (omega arith) pages.added.lowest.free pages.added.kept
