-- A step leaves a pool page that another core sees, but where an instruction may write it, and where a stack is taken.
use Rattle.std.proofs.Common.{◌≡◌, ◌≢◌, ◌∙◌, sym, ap, subst, ℕ, ◌-◌, ◌*◌, ◌%◌, ◌/◌, ◌^◌, ◌<◌, ◌≤◌, ◌==◌, ◌⊎◌, Bool, true, false, List, ◌++◌, length, refl, arith, inl, inr, Ok}
use Rattle.std.proofs.Math.Path.{fun_ext}
use Rattle.std.proofs.lemmas.Bool.{cases_eq}
use Rattle.std.specs.Prelude.{Option, Some, None, slice_index, if◌then◌else◌}
use Rattle.std.specs.Option.{option_and_then, option_map}
use Rattle.sb_abi.specs.declared.trampoline.TheConstants.{POOL_ADDRESS}
use Rattle.sb_memory.specs.Words.{put_word, word_at}
use Rattle.sb_memory.specs.declared.address.Access.{Access}
use Rattle.sb_memory.specs.declared.address.Access.TheVariants.{Read, Write}
use Rattle.sb_memory.proofs.Words.{byte_beside_word, word_read_back}
use Rattle.sb_bus.specs.Access.{loaded_from}
use Rattle.sb_nested.specs.View.{View, place_of, view_byte}
use Rattle.sb_walks.specs.Ept.{phys_in}
use Rattle.sb_state.proofs.Cases.{same_some}
use Rattle.sb_state.proofs.Modes.{mode_other}
use Rattle.sb_state.proofs.Names.{name_other}
use Rattle.sb_state.proofs.PageLists.{either, found_added, found_other, found_same, with_bytes}
use Rattle.sb_state.specs.PageName.{same_name}
use Rattle.sb_state.specs.Start.{pages_from}
use Rattle.sb_state.specs.State.{State, bytes_of, contents, find_page, flight_at, process_at, registration_at, registration_of, thread_at}
use Rattle.sb_state.specs.Windows.{name_at, page_and_mode, page_by_name, page_for, process_now, process_of_view, process_shown, server_of}
use Rattle.sb_state.specs.declared.page.Page.{Page}
use Rattle.sb_state.specs.declared.page.PageName.{PageName}
use Rattle.sb_state.specs.declared.page.PageName.TheVariants.{Heap, Pool}
use Rattle.sb_state.specs.declared.page.SeenPage.{SeenPage}
use Rattle.sb_state.specs.declared.state.Binding.{Binding}
use Rattle.sb_state.specs.declared.state.Flight.{Flight}
use Rattle.sb_state.specs.declared.state.Registration.{Registration}
use Rattle.sb_state.specs.declared.state.Thread.{Thread}
use Rattle.sb_trace.specs.Changes.{CallChanges, EntersServer, IsClosed, LineChanges, OnlyPages, StepChanges, WritesOpen, with_first_word}
use Rattle.sb_trace.specs.KernelCall.{binding_with, lowest_bit, pool_word}
use Rattle.sb_trace.specs.Step.{Steps}
use Rattle.sb_trace.specs.SyscallBind.{binding_pages, server_words}
use Rattle.sb_trace.specs.SyscallRegister.{server_stack_page}
use Rattle.sb_trace.specs.declared.event.Event.{Event}
use Rattle.sb_trace.specs.declared.event.Event.TheVariants.{Entered, Extra, Idle, Landing, Step as StepLine, Stray, Sys}
use Rattle.sb_trace.proofs.PoolWords.{pool_below}
use Rattle.sb_landing.proofs.Bound.{HasPages, binding_pages as binding_has, flight_sound}
use Rattle.sb_landing.proofs.Loads.{pool_loaded, pool_seen}
use Rattle.sb_shows.proofs.Bytes.{place_led}
use Rattle.sb_shows.proofs.Nested.{IsSeenLed}
use Rattle.sb_shows.proofs.Numbers.{name_number}
use Rattle.sb_shows.proofs.Shown.{core_sees}
use Rattle.sb_shows.specs.Related.{Sees}
use Rattle.sb_shows.specs.Shows.{IsView, LeadsTo, index_of, present_index}
use Rattle.sb_machine.specs.Landing.{BytesStay, LosesStack, PoolAfter, SeesPool, SharesPool, seen_at}
use Rattle.sb_machine.specs.Machine.{Machine, view_at, words_of}
use Rattle.sb_machine.specs.StandsFor.{IsMachineOf}
use Rattle.sb_machine.proofs.NamedPages.{IsInBoth, Names, byte_stays, in_both, pool_named}
use Rattle.sb_machine.proofs.OtherCores.{KeepsOthers}
use Rattle.sb_machine.proofs.OtherPages.{bytes_stay, view_next}
use Rattle.sb_machine.proofs.Present.{thread_is, thread_sound}
use Rattle.sb_machine.proofs.Seeing.{sees, small}
use Rattle.sb_machine.proofs.Shown.{machines_show}
use Rattle.sb_machine.proofs.StepLines.{IsNoStep, flying_line}

-- ---- a view of a binding

served_by : (found : Option Binding) (process : ℕ) → option_map (λ (one : Binding). one.server) found ≡ Some process
    → (binding : Binding) × (found ≡ Some binding) × (binding.server ≡ process)
served_by None process is = cc
served_by (Some binding) process is = (binding, refl, same_some binding.server process is)

served_by_view : (test : Bool) (thread : Thread) (index process : ℕ) → (index == 0) ≡ test → index ≢ 0
    → process_of_view index thread ≡ Some process
    → (binding : Binding) × (binding_with thread.bindings index ≡ Some binding) × (binding.server ≡ process)
served_by_view true thread index process at away is = absurd (away (let same = at in grind (arith)))
served_by_view false thread index process at away is =
    served_by (binding_with thread.bindings index) process
    (sym (ap (λ (test : Bool). if test then Some thread.home else server_of thread.bindings index) at) ∙ is)

-- it shows the server of a binding
served : (state : State) (thread index process : ℕ) → thread < length state.threads → index ≢ 0
    → process_shown state.threads thread index ≡ Some process
    → (binding : Binding) × (binding_with (thread_at state thread).bindings index ≡ Some binding) × (binding.server ≡ process)
unfolding process_shown
served state thread index process there away shown =
    served_by_view (index == 0) (thread_at state thread) index process refl away
    (sym (ap (option_and_then (process_of_view index)) (thread_is state thread there)) ∙ shown)

-- ---- names that are seen

seen_by : (pages : List Page) (name : PageName) (found : Option Page) (seen : SeenPage)
    → option_map (page_and_mode name) found ≡ Some seen → name ≡ seen.name
seen_by pages name None seen is = cc
seen_by pages name (Some page) seen is = ap (λ (one : SeenPage). one.name) (same_some (page_and_mode name page) seen is)

named_by : (pages : List Page) (found : Option PageName) (seen : SeenPage)
    → option_and_then (page_by_name pages) found ≡ Some seen → found ≡ Some seen.name
named_by pages None seen is = cc
named_by pages (Some name) seen is = ap Some (seen_by pages name (find_page pages name) seen is)

-- a page that is seen has the name that stands at its number
seen_named : (state : State) (thread index page process : ℕ) (seen : SeenPage)
    → process_shown state.threads thread index ≡ Some process → page_for state thread index page ≡ Some seen
    → name_at state.threads thread index page process ≡ Some seen.name
unfolding page_for
seen_named state thread index page process seen shows is =
    named_by state.pages (name_at state.threads thread index page process) seen
    (sym (ap (λ found. option_and_then (page_by_name state.pages)
    (option_and_then (name_at state.threads thread index page) found)) shows) ∙ is)

-- a view of another process shows no page of this pool
pool_closed : (state : State) (thread index process server : ℕ) → process_shown state.threads thread index ≡ Some process
    → process ≢ server → IsClosed state thread index (Pool server)
pool_closed state thread index process server shows differ page seen is permitted same =
    let named = seen_named state thread index page process seen shows is ∙ ap Some same in
    differ (sym (name_number state.threads thread index page process (Pool server) named).1)

-- ---- pages of a server that is there

-- a page that is there is found before added ones
found_first : (pages added : List Page) (name : PageName) (page : Page) → find_page pages name ≡ Some page
    → find_page (pages ++ added) name ≡ Some page
found_first pages added name page there =
    found_added pages added name ∙ ap (λ found. either found (find_page added name)) there

other_pool : (server other : ℕ) → server ≢ other → same_name (Pool server) (Pool other) ≡ false
other_pool server other differ = name_other (Pool server) (Pool other) (λ same. differ cc)

-- Where a process is registered its pool page stays over a call.
call_leaves : (old : State) (core call answer : ℕ) (new : State) (server : ℕ) (registration : Registration) (page : Page)
    → CallChanges old core call answer new → registration_at old server ≡ Some registration
    → find_page old.pages (Pool server) ≡ Some page → find_page new.pages (Pool server) ≡ find_page old.pages (Pool server)
unfolding same_name registration_at
call_leaves old core call answer new server registration page (inl (refused, only)) told there =
    ap (λ (pages : List Page). find_page pages (Pool server)) only.become
call_leaves old core call answer new server registration page (inr (inl (done, two, home, adds))) told there =
    let owner : ℕ = (thread_at old core).home in
    let differ : owner ≢ server = λ same.
    let none : registration_of (process_at old server) ≡ None =
    subst (λ (n : ℕ). registration_of (process_at old n) ≡ None) same (ap registration_of adds.there ∙ adds.none) in
    let both = sym none ∙ told in cc in
    let kept = found_other old.pages (Pool owner) (Pool server) (put_word (contents old (Pool owner)) 0 (2 ^ adds.stacks - 1))
    (other_pool owner server differ) ∙ there in
    ap (λ (pages : List Page). find_page pages (Pool server)) adds.pages
    ∙ (found_first (with_first_word old (Pool owner) (2 ^ adds.stacks - 1))
    (pages_from (server_stack_page owner) 0 (4 * adds.stacks)) (Pool server) page kept ∙ sym there)
call_leaves old core call answer new server registration page (inr (inr (inl (done, three, home, adds)))) told there =
    ap (λ (pages : List Page). find_page pages (Pool server)) adds.pages
    ∙ (found_first old.pages
    (binding_pages core adds.binding.index
    (server_words core (thread_at old core) adds.binding adds.registration.handler)) (Pool server) page there ∙ sym there)
call_leaves old core call answer new server registration page (inr (inr (inr (done, four, changes)))) told there =
    ap (λ (pages : List Page). find_page pages (Pool server)) changes.only.become
    ∙ mode_other old.pages (Heap (process_now (thread_at old core)) changes.page) (Pool server) changes.executable refl

-- ---- another core's view of a server

module _ (old new : Machine) (state next : State) (is : IsMachineOf old state) (is_next : IsMachineOf new next) (core : ℕ)
    (event : Event) (steps : Steps state core event next) (changes : StepChanges state core event next)
    (kept : KeepsOthers old new core) (core_there : core < length old.cores) (other : ℕ) (apart : other ≢ core)
    (there : other < length old.cores) (index : ℕ) (view : IsView state other index) (away : index ≢ 0) where
  abbrev server : ℕ
  server = view.0

  binding : (binding : Binding) × (binding_with (thread_at state other).bindings index ≡ Some binding)
      × (binding.server ≡ server)
  binding = served state other index server (small old state is other there) away view.1

  pages : HasPages state other binding.0
  pages = binding_has state other index binding.0 is.sound binding.1

  pool_there : (page : Page) × (find_page state.pages (Pool server) ≡ Some page)
  pool_there = (pages.pool.0, ap (λ (n : ℕ). find_page state.pages (Pool n)) (sym binding.2) ∙ pages.pool.1)

  told : (registration : Registration) × (registration_at state server ≡ Some registration)
  told =
      let own = (thread_sound state other is.sound (small old state is other there)).each index binding.0 binding.1 in
      (own.registration, ap (registration_at state) (sym binding.2) ∙ own.registered)

  abbrev next_view : IsView next other index
  next_view = view_next old new state next is is_next core event changes kept other apart there index view

  names_old : Names state other index 0x70006 (Pool server)
  names_old = record { process = server; shows = view.1; named = pool_named state.threads other index server }

  names_new : Names next other index 0x70006 (Pool server)
  names_new = record { process = server; shows = next_view.1; named = pool_named next.threads other index server }

  -- where the page stays, so do its bytes
  same_bytes : find_page next.pages (Pool server) ≡ find_page state.pages (Pool server) → BytesStay old new other index 0x70006
  same_bytes same =
      bytes_stay old new state next is is_next core event changes kept other apart there index view 0x70006
      (λ address access within.
      byte_stays state next other index 0x70006 (Pool server) names_old names_new
      (in_both state next (Pool server) pool_there.0 pool_there.1 same) address access within refl)

  by_pages : (list : List Page) → OnlyPages state list next → find_page list (Pool server) ≡ find_page state.pages (Pool server)
      → BytesStay old new other index 0x70006
  by_pages list only same = same_bytes (ap (λ (pages : List Page). find_page pages (Pool server)) only.become ∙ same)

  -- ---- an instruction

  -- a view of the server leads to the page
  pool_leads : (thread at process : ℕ) (seen : View) → Sees is.stands.placement thread at state seen
      → process_shown state.threads thread at ≡ Some process → process ≡ server
      → LeadsTo seen Write POOL_ADDRESS (phys_in POOL_ADDRESS (is.stands.placement.frame (Pool server)))
  pool_leads thread at process seen sees shows same =
      subst (λ found. IsSeenLed is.stands.placement.frame found POOL_ADDRESS Write (place_of seen Write POOL_ADDRESS))
      (pool_seen state thread at server pool_there.0 (shows ∙ ap Some same) pool_there.1)
      ((place_led is.stands.placement thread at state seen sees POOL_ADDRESS Write).led refl)

  abbrev present : ℕ
  present = present_index state core

  shown : IsView state core present
  shown = is.words.present core (small old state is core core_there)

  shares : shown.0 ≡ server → SharesPool old core other index
  shares same = (
    phys_in POOL_ADDRESS (is.stands.placement.frame (Pool server)),
    pool_leads core present shown.0 (view_at old core) (sees old state is core core_there) shown.1 same,
    pool_leads other index server (seen_at old other index)
        (core_sees is.stands.placement state old.memory (words_of old) is.stands.keeps is.words other index view) view.1 refl,
  )

  on_ground : flight_at state core ≡ None → WritesOpen state core (thread_at state core).view next
      → BytesStay old new other index 0x70006 ⊎ SharesPool old core other index
  on_ground grounded writes = elim (cases_eq shown.0 server) [
    | inl same ↦ inr (shares same)
    | inr differ ↦
        let here : present ≡ (thread_at state core).view = ap (λ found. index_of found (thread_at state core).view) grounded in
        inl (same_bytes (writes.closed (Pool server)
        (pool_closed state core (thread_at state core).view shown.0 server
        (sym (ap (process_shown state.threads core) here) ∙ shown.1) differ)))
  ]

  instruction : (found : Option Flight) → flight_at state core ≡ found → (IsNoStep event → ⊥)
      → WritesOpen state core (thread_at state core).view next
      → BytesStay old new other index 0x70006 ⊎ SharesPool old core other index
  instruction None grounded steps_on writes = on_ground grounded writes
  instruction (Some flight) flying steps_on writes =
      absurd (steps_on (flying_line state core event next flight (flight_sound state core flight is.sound flying).running flying
      steps))

  -- ---- an entry

  abbrev bytes : List ℕ
  bytes = contents state (Pool server)

  bytes_are : bytes ≡ pool_there.0.bytes
  unfolding contents
  bytes_are = ap bytes_of pool_there.1

  size : length bytes ≡ 4096
  size = ap length bytes_are ∙ is.sound.pages.sizes (Pool server) pool_there.0 pool_there.1

  sees_word : (machine : Machine) (state : State) (is : IsMachineOf machine state) (page : Page)
      → (shows : IsView state other index) → shows.0 ≡ server → find_page state.pages (Pool server) ≡ Some page
      → SeesPool machine other index (pool_word state server)
  sees_word machine state is page shows same found =
      ap (λ read. loaded_from read POOL_ADDRESS 8)
      (fun_ext (λ (address : ℕ). (machines_show machine state is).bytes other index address Read shows))
      ∙ pool_loaded state other index server (pool_seen state other index server page (shows.1 ∙ ap Some same) found)

  module _ (slot : ℕ) (some : pool_word state server ≢ 0) (lowest : slot ≡ lowest_bit (pool_word state server))
      (become : next.pages ≡ with_first_word state (Pool server) (pool_word state server - 2 ^ slot)) where
    abbrev word : ℕ
    word = pool_word state server - 2 ^ slot

    abbrev put : List ℕ
    put = put_word bytes 0 word

    abbrev page : Page
    page = with_bytes put pool_there.0

    found_now : find_page next.pages (Pool server) ≡ Some page
    found_now =
        ap (λ (pages : List Page). find_page pages (Pool server)) become
        ∙ (found_same state.pages (Pool server) put ∙ ap (option_map (with_bytes put)) pool_there.1)

    both : IsInBoth state next (Pool server)
    both = record { was = pool_there.0; is_was = pool_there.1; now = page; is_now = found_now; mode = refl }

    left : pool_word next server ≡ word
    unfolding contents
    left =
        let small = pool_below state server is.sound.pages in
        let whole = size in
        ap (λ found. word_at (bytes_of found) 0) found_now
        ∙ word_read_back bytes 0 word (omega (arith, whole)) (omega (arith, small))

    beside : (address : ℕ) → address / 4096 ≡ 0x70006 → 0x70006008 ≤ address
        → slice_index put (address % 4096) ≡ slice_index pool_there.0.bytes (address % 4096)
    beside address within above =
        byte_beside_word bytes 0 word (address % 4096) (inr (omega (arith, within, above)))
        ∙ ap (λ (list : List ℕ). slice_index list (address % 4096)) bytes_are

    rest : (address : ℕ) (access : Access) → address / 4096 ≡ 0x70006 → 0x70006008 ≤ address
        → view_byte (seen_at new other index) address access ≡ view_byte (seen_at old other index) address access
    unfolding both
    rest address access within above =
        (machines_show new next is_next).bytes other index address access next_view
        ∙ (byte_stays state next other index 0x70006 (Pool server) names_old names_new both address access within
        (beside address within above)
        ∙ sym ((machines_show old state is).bytes other index address access view))

    loses : LosesStack old new other index slot
    loses = record {
      word = pool_word state server;
      was = sees_word old state is pool_there.0 view refl pool_there.1;
      some = some;
      lowest = lowest;
      now = sees_word new next is_next page next_view refl found_now ∙ ap Ok left;
      rest = rest;
    }

  entry : (entered slot : ℕ) → EntersServer state core entered slot next
      → BytesStay old new other index 0x70006 ⊎ LosesStack old new other index slot
  entry entered slot enters = elim (cases_eq enters.server server) [
    | inl same ↦
        inr (loses slot (subst (λ (n : ℕ). pool_word state n ≢ 0) same enters.some)
        (subst (λ (n : ℕ). slot ≡ lowest_bit (pool_word state n)) same enters.lowest)
        (enters.only.become ∙ ap (λ (n : ℕ). with_first_word state (Pool n) (pool_word state n - 2 ^ slot)) same))
    | inr differ ↦
        inl (by_pages _ enters.only
        (found_other state.pages (Pool enters.server) (Pool server)
        (put_word (contents state (Pool enters.server)) 0 (pool_word state enters.server - 2 ^ slot))
        (other_pool enters.server server differ)))
  ]

  -- ---- each line

  pool_by : (line : Event) → event ≡ line → LineChanges state core line next → PoolAfter line old new core other index
  pool_by (StepLine rip) at writes = instruction (flight_at state core) refl (λ none. subst IsNoStep at none) writes
  pool_by (Extra rip) at writes = instruction (flight_at state core) refl (λ none. subst IsNoStep at none) writes
  pool_by (Stray rip) at writes = instruction (flight_at state core) refl (λ none. subst IsNoStep at none) writes
  pool_by (Entered entered slot) at enters = entry entered slot enters
  pool_by (Sys call answer) at calls =
      same_bytes (call_leaves state core call answer next server told.0 pool_there.0 calls told.1 pool_there.1)
  pool_by (Landing phase) at only = by_pages state.pages only.0 refl
  pool_by Idle at same = same_bytes (ap (λ (state : State). find_page state.pages (Pool server)) same)
  pool_by _ at only = by_pages state.pages only refl

  -- the pool page after the step
  pub pool_after : PoolAfter event old new core other index
  pool_after = pool_by event refl changes.rest
