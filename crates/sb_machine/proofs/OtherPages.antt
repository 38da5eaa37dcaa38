-- A step leaves the list of each other core, and through its pointers the trampoline and the record pages.
use Rattle.std.proofs.Common.{◌≡◌, ◌≢◌, ◌∙◌, sym, ap, subst, ℕ, ◌%◌, ◌/◌, ◌<◌, ◌==◌, Bool, List, length, refl, arith}
use Rattle.std.specs.Prelude.{Option, Some, None, slice_index}
use Rattle.std.specs.Option.{option_map, option_and_then}
use Rattle.sb_memory.specs.declared.address.Access.{Access}
use Rattle.sb_memory.specs.declared.address.PhysAddr.{PhysAddr}
use Rattle.sb_root.specs.declared.root_kernel.RootKernel.{RootKernel}
use Rattle.sb_root.specs.declared.view.View.{View as RootView}
use Rattle.sb_root.specs.Root.{entry_of_index, list_entry, view_of}
use Rattle.sb_state.proofs.Cases.{claim_if, same_some}
use Rattle.sb_state.specs.PageName.{mode_of}
use Rattle.sb_state.specs.PlainMemory.{plain_byte}
use Rattle.sb_state.specs.State.{State}
use Rattle.sb_state.specs.Windows.{name_at, page_and_mode, page_for, process_of_view, process_shown}
use Rattle.sb_state.specs.declared.page.PageName.{PageName}
use Rattle.sb_state.specs.declared.page.PageName.TheVariants.{HomeTrampoline, Record, ServerTrampoline}
use Rattle.sb_state.specs.declared.page.SeenPage.{SeenPage}
use Rattle.sb_trace.specs.Changes.{StepChanges}
use Rattle.sb_trace.specs.Sound.{HasPage}
use Rattle.sb_trace.specs.declared.event.Event.{Event}
use Rattle.sb_trace.proofs.Records.{line_keeps}
use Rattle.sb_shows.specs.Keeping.{HasView}
use Rattle.sb_shows.specs.Related.{Sees}
use Rattle.sb_shows.specs.Shows.{IsEntryFor, IsView, LeadsTo, Shows}
use Rattle.sb_shows.proofs.Bytes.{place_led}
use Rattle.sb_shows.proofs.InPlace.{placed_still}
use Rattle.sb_shows.proofs.Shown.{core_sees}
use Rattle.sb_machine.specs.Landing.{BytesStay, PageStays, seen_at}
use Rattle.sb_machine.specs.Machine.{Machine, state_at, words_of}
use Rattle.sb_machine.specs.StandsFor.{IsMachineOf}
use Rattle.sb_machine.specs.Translations.{list_word}
use Rattle.sb_machine.proofs.NamedPages.{IsInBoth, Names, byte_stays, in_both, page_named, page_stays, record_named, trampoline_name, trampoline_named}
use Rattle.sb_machine.proofs.OtherCores.{KeepsOthers}
use Rattle.sb_machine.proofs.Seeing.{list_is, root_stands, set_view, small}
use Rattle.sb_machine.proofs.Shown.{machines_show}

module _ (old new : Machine) (state next : State) (is : IsMachineOf old state) (is_next : IsMachineOf new next) (core : ℕ)
    (event : Event) (changes : StepChanges state core event next) (kept : KeepsOthers old new core) (other : ℕ)
    (apart : other ≢ core) (there : other < length old.cores) where
  pub there_next : other < length new.cores
  there_next =
      let before = is.count in
      let after = is_next.count in
      let count = changes.thread.count in
      omega (arith, there, before, after, count)

  -- ---- what the thread's views show

  pub shown_same : (index : ℕ) → process_shown next.threads other index ≡ process_shown state.threads other index
  unfolding process_shown
  shown_same index = ap (option_and_then (process_of_view index)) (changes.thread.threads other apart)

  abbrev pub view_next : (index : ℕ) → IsView state other index → IsView next other index
  view_next index view = (view.0, shown_same index ∙ view.1)

  shows_old : Shows state old.memory (words_of old)
  shows_old = machines_show old state is

  shows_new : Shows next new.memory (words_of new)
  shows_new = machines_show new next is_next

  -- ---- the list

  entry_is : (machine : Machine) (state : State) (is : IsMachineOf machine state) → other < length machine.cores → (index : ℕ)
      → index < 512 → list_word machine other index ≡ list_entry machine.root other index
  entry_is machine state is there index few =
      ((root_stands machine state is other there).lists other (state_at machine other).list
      (list_is machine state is other there)).entry index few

  views_same : (index : ℕ) → IsView state other index → view_of new.root other index ≡ view_of old.root other index
  views_same index view = kept.lists.views other index (set_view old state is other there index view)

  list_by : (found : Option ℕ) (index : ℕ) → process_shown state.threads other index ≡ found → index < 512
      → list_word new other index ≡ list_word old other index
  list_by None index shown few =
      let before = shows_old.entries other index (small old state is other there) few in
      let after = shows_new.entries other index (small new next is_next other there_next) few in
      subst (λ found. IsEntryFor found (list_word new other index)) (shown_same index ∙ shown) after
      ∙ sym (subst (λ found. IsEntryFor found (list_word old other index)) shown before)
  list_by (Some process) index shown few =
      entry_is new next is_next there_next index few
      ∙ (ap entry_of_index (views_same index (process, shown)) ∙ sym (entry_is old state is there index few))

  -- each entry of the list stays
  pub list_stays : (index : ℕ) → index < 512 → list_word new other index ≡ list_word old other index
  list_stays index few = list_by (process_shown state.threads other index) index refl few

  -- ---- a page

  module _ (index : ℕ) (view : IsView state other index) where
    -- what plain memory gives is what the machines give
    pub bytes_stay : (page : ℕ)
        → ((address : ℕ) (access : Access) → address / 4096 ≡ page
        → plain_byte other index next address access ≡ plain_byte other index state address access)
        → BytesStay old new other index page
    bytes_stay page same address access within =
        shows_new.bytes other index address access (view_next index view)
        ∙ (same address access within ∙ sym (shows_old.bytes other index address access view))

    sees_old : Sees is.stands.placement other index state (seen_at old other index)
    sees_old = core_sees is.stands.placement state old.memory (words_of old) is.stands.keeps is.words other index view

    sees_new : Sees is_next.stands.placement other index next (seen_at new other index)
    sees_new =
        core_sees is_next.stands.placement next new.memory (words_of new) is_next.stands.keeps is_next.words other index
        (view_next index view)

    -- a page of this name is in both states, with the same bytes, in one frame
    record IsFixed (name : PageName) : Type 0 where
      both : IsInBoth state next name
      bytes : both.now.bytes ≡ both.was.bytes
      frame : is_next.stands.placement.frame name ≡ is.stands.placement.frame name

    module _ (page : ℕ) (name : PageName) (was : Names state other index page name) (now : Names next other index page name)
        (fixed : IsFixed name) where
      name_of : (seen : SeenPage) → page_for state other index page ≡ Some seen → name ≡ seen.name
      name_of seen at =
          let found = ap (option_map (page_and_mode name)) fixed.both.is_was in
          let same = sym (page_named state other index page name was ∙ found) ∙ at in
          ap (λ (one : SeenPage). one.name) (same_some (page_and_mode name fixed.both.was) seen same)

      still : (linear : ℕ) → linear / 4096 ≡ page → (seen : SeenPage) → page_for state other index (linear / 4096) ≡ Some seen
          → (page_for next other index (linear / 4096) ≡ Some seen)
          × (is_next.stands.placement.frame seen.name ≡ is.stands.placement.frame seen.name)
      still linear within seen at =
          let here : page_for state other index page ≡ Some seen = sym (ap (page_for state other index) within) ∙ at in (
            ap (page_for next other index) within
                ∙ (page_stays state next other index page name was now fixed.both ∙ here),
            subst (λ (one : PageName). is_next.stands.placement.frame one ≡ is.stands.placement.frame one) (name_of seen here)
                fixed.frame,
          )

      places_stay : (address : ℕ) (access : Access) (place : PhysAddr) → address / 4096 ≡ page
          → LeadsTo (seen_at old other index) access address place → LeadsTo (seen_at new other index) access address place
      places_stay address access place within leads =
          placed_still is.stands.placement is_next.stands.placement state next other index address access _ _ place
          (still address within)
          (place_led is.stands.placement other index state (seen_at old other index) sees_old address access)
          (place_led is_next.stands.placement other index next (seen_at new other index) sees_new address access) leads

      fixed_stays : PageStays old new other index page
      fixed_stays = record {
        bytes = bytes_stay page (λ address access within.
            byte_stays state next other index page name was now fixed.both address access within
            (ap (λ (list : List ℕ). slice_index list (address % 4096)) fixed.bytes));
        places = places_stay;
      }

    names_old : (page : ℕ) (name : PageName) → name_at state.threads other index page view.0 ≡ Some name
        → Names state other index page name
    names_old page name named = record { process = view.0; shows = view.1; named = named }

    names_new : (page : ℕ) (name : PageName) → name_at next.threads other index page view.0 ≡ Some name
        → Names next other index page name
    names_new page name named = record { process = view.0; shows = (view_next index view).1; named = named }

    -- ---- the trampoline

    page_fixed : (name : PageName) (bytes : List ℕ) → HasPage state.pages name bytes → HasPage next.pages name bytes
        → ((executable other : Bool) → mode_of name executable ≡ mode_of name other)
        → is_next.stands.placement.frame name ≡ is.stands.placement.frame name → IsFixed name
    page_fixed name bytes was now mode frame = record {
      both = record { was = was.0; is_was = was.1; now = now.0; is_now = now.1; mode = mode now.0.executable was.0.executable };
      bytes = now.2 ∙ sym was.2;
      frame = frame;
    }

    home_fixed : IsFixed HomeTrampoline
    unfolding mode_of
    home_fixed =
        page_fixed HomeTrampoline _ is.sound.pages.home is_next.sound.pages.home (λ executable other. refl)
        (is_next.stands.keeps.leads.home.0 ∙ sym is.stands.keeps.leads.home.0)

    server_fixed : IsFixed ServerTrampoline
    unfolding mode_of
    server_fixed =
        page_fixed ServerTrampoline _ is.sound.pages.server is_next.sound.pages.server (λ executable other. refl)
        (is_next.stands.keeps.leads.server.0 ∙ sym is.stands.keeps.leads.server.0)

    -- the trampoline page stays
    pub trampoline_stays : PageStays old new other index 0x70000
    trampoline_stays =
        fixed_stays 0x70000 (trampoline_name index)
        (names_old 0x70000 (trampoline_name index) (trampoline_named state.threads other index view.0))
        (names_new 0x70000 (trampoline_name index) (trampoline_named next.threads other index view.0))
        (claim_if IsFixed (index == 0) _ _ (λ home. home_fixed) (λ away. server_fixed))

    -- ---- the record page

    has_old : HasView is.stands.placement state other index view.0
    has_old = is.stands.keeps.leads.views other index view.0 view.1

    has_new : HasView is_next.stands.placement next other index view.0
    has_new = is_next.stands.keeps.leads.views other index view.0 (view_next index view).1

    kept_same : has_new.kept ≡ has_old.kept
    kept_same =
        same_some has_new.kept has_old.kept
        (sym has_new.is
        ∙ (ap (λ (root : RootKernel). view_of root other index) is_next.stands.rooted
        ∙ (views_same index view
        ∙ (sym (ap (λ (root : RootKernel). view_of root other index) is.stands.rooted) ∙ has_old.is))))

    record_frame : is_next.stands.placement.frame (Record other index) ≡ is.stands.placement.frame (Record other index)
    record_frame = sym has_new.words ∙ (ap (λ (one : RootView). one.record_page.0) kept_same ∙ has_old.words)

    record_fixed : IsFixed (Record other index)
    record_fixed =
        let found = has_old.words_there in
        let still = line_keeps state core other index event next changes.rest found.0 found.1 in
        record {
          both = in_both state next (Record other index) found.0 found.1 (still ∙ sym found.1);
          bytes = refl;
          frame = record_frame;
        }

    -- the record page stays
    pub words_stay : PageStays old new other index 0x70002
    words_stay =
        fixed_stays 0x70002 (Record other index)
        (names_old 0x70002 (Record other index) (record_named state.threads other index view.0))
        (names_new 0x70002 (Record other index) (record_named next.threads other index view.0)) record_fixed
