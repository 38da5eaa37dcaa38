-- By the CR3 word of a thread with another home, a home view leads to the pool page of that other home.
use Rattle.std.proofs.Common.{◌≡◌, ◌≢◌, ◌∙◌, sym, ap, subst, ℕ, ◌+◌, ◌*◌, ◌/◌, ◌<◌, ◌≤◌, ◌==◌, Bool, true, false, length, Ok, refl, arith}
use Rattle.std.specs.Prelude.{Option, Some, None, unwrap_or, if◌then◌else◌}
use Rattle.std.specs.Option.{option_and_then}
use Rattle.std.specs.List.{slice_get}
use Rattle.std.proofs.lemmas.Bool.{eqb-true, eqb-false, ne_eqb}
use Rattle.std.proofs.lemmas.Bool.Decides.{Decides-eqb}
use Rattle.sb_abi.specs.declared.trampoline.TheConstants.{POOL_ADDRESS}
use Rattle.sb_memory.specs.Physical.{Physical}
use Rattle.sb_memory.specs.declared.address.Access.{Access}
use Rattle.sb_memory.specs.declared.address.Access.TheVariants.{Read}
use Rattle.sb_walks.specs.Ept.{ept_walk, phys_in}
use Rattle.sb_walks.specs.Guest.{guest_walk}
use Rattle.sb_walks.specs.Nested.{memory_behind, guest_entry, page_behind, translation}
use Rattle.sb_pagewalk.specs.TableSet.{page_walked, set_walked}
use Rattle.sb_pagewalk.specs.Windows.{page_table_of}
use Rattle.sb_pagewalk.proofs.Through.{goes_through}
use Rattle.sb_nested.specs.View.{place_of, view}
use Rattle.sb_root.specs.declared.view.View.{View}
use Rattle.sb_root.specs.Entry.{entry_reached}
use Rattle.sb_root.specs.Tables.{base_eptp}
use Rattle.sb_root.specs.Root.{eptp_of_view}
use Rattle.sb_root.specs.Answers.{IsBase, IsViewOf}
use Rattle.sb_root.proofs.BaseAnswers.{base_answers}
use Rattle.sb_root.proofs.Between.{view_between}
use Rattle.sb_state.specs.declared.page.PageName.TheVariants.{Pool}
use Rattle.sb_state.specs.declared.page.Mode.TheVariants as mode
use Rattle.sb_state.specs.declared.state.Thread.{Thread}
use Rattle.sb_trace.specs.PageName.{mode_of}
use Rattle.sb_state.specs.State.{no_thread}
use Rattle.sb_trace.specs.State.{State, thread_at}
use Rattle.sb_trace.specs.Windows.{name_at, process_of_view, process_shown, page_for}
use Rattle.sb_shows.specs.Placement.{Placement, IsThere, is_own, leaf_for, entries_of}
use Rattle.sb_shows.specs.Keeping.{HasGuest, HasView, Keeps}
use Rattle.sb_shows.specs.Related.{cr3_of, HasCores}
use Rattle.sb_shows.specs.Shows.{CoreWords, LeadsTo, entry_at, seen_through}
use Rattle.sb_shows.specs.Defects.{NoCr3OfAnother, with_cr3}
use Rattle.sb_shows.proofs.Bytes.{small_frames, pointer_is, place_led}
use Rattle.sb_shows.proofs.Leaves.{leaf_led}
use Rattle.sb_shows.proofs.Nested.{IsSeenLed, reads_set, inside, base_page}
use Rattle.sb_shows.proofs.Refuted.{no_pool_of_another}
use Rattle.sb_shows.proofs.Shown.{core_sees}

-- ---- homes

home_by : (found : Option Thread) (home : ℕ) → option_and_then (process_of_view 0) found ≡ Some home
    → (unwrap_or found no_thread).home ≡ home
home_by None home shown = absurd cc
home_by (Some one) home shown = cc

-- the home of a thread is what its view 0 shows
home_is : (state : State) (thread home : ℕ) → process_shown state.threads thread 0 ≡ Some home
    → (thread_at state thread).home ≡ home
unfolding thread_at process_shown
home_is state thread home shown = home_by (slice_get state.threads thread) home shown

-- ---- the tables of another process behind a home view

module _ (placement : Placement) (state : State) (memory : Physical) (keeps : Keeps placement state memory)
    (thread home home' : ℕ) (shown : process_shown state.threads thread 0 ≡ Some home)
    (there : home' < length state.processes) (away : home ≢ home') where
  has : HasView placement state thread 0 home
  has = keeps.leads.views thread 0 home shown

  abbrev pointer : ℕ
  pointer = eptp_of_view has.kept

  guest : HasGuest placement state memory home'
  guest = keeps.leads.guests home' there

  base : IsBase memory
  base = base_answers placement.root memory keeps.leads.stands

  answers : IsViewOf memory has.kept pointer
  answers = view_between placement.root memory thread 0 has.kept keeps.leads.stands has.is

  -- the view with the root of the other process in place of its home's
  abbrev other_view : View
  other_view = record has.kept { home_root = record { 0 = 16 + home' }; target_root = record { 0 = 16 + home' } }

  -- a root page leads to its own frame, in a home view as in the base
  root_by : (test : Bool) (at : ℕ) (access : Access) → (at / 4096 == has.kept.home_root.0) ≡ test → 16 ≤ at / 4096
      → at / 4096 < 32 → ept_walk memory pointer at access ≡ ept_walk memory base_eptp at access
  root_by true at access is from below =
      let here = eqb-true (at / 4096) has.kept.home_root.0 is in
      let home_frame = has.home in
      let target = has.target in
      let same = home_is state thread home shown in
      let frame : has.kept.target_root.0 ≡ at / 4096 = omega arith in
      answers.home at access here
      ∙ (ap (λ (n : ℕ). entry_reached n 1 at access) frame ∙ sym (base.roots at access from below))
  root_by false at access is from below =
      answers.others at access (eqb-false (at / 4096) has.kept.home_root.0 is) (λ e. absurd (omega arith))
      (λ e. absurd (omega arith)) (λ e. absurd (omega arith))

  root_led : (at : ℕ) (access : Access) → 16 ≤ at / 4096 → at / 4096 < 32
      → ept_walk memory pointer at access ≡ entry_reached (at / 4096) 1 at access
  root_led at access from below =
      root_by (at / 4096 == has.kept.home_root.0) at access refl from below ∙ base.roots at access from below

  -- so the view answers as one of the other process
  other_by : (test : Bool) (at : ℕ) (access : Access) → (at / 4096 == has.kept.home_root.0) ≡ test
      → at / 4096 ≢ 1 → at / 4096 ≢ 2 → at / 4096 ≢ 3
      → ept_walk memory pointer at access ≡ ept_walk memory base_eptp at access
  other_by true at access is first second third =
      let here = eqb-true (at / 4096) has.kept.home_root.0 is in
      let home_frame = has.home in
      let same = home_is state thread home shown in
      let few = (keeps.leads.guests (thread_at state thread).home has.home_there).few in
      root_by true at access is (omega arith) (omega arith)
  other_by false at access is first second third =
      answers.others at access (eqb-false (at / 4096) has.kept.home_root.0 is) first second third

  other_answers : IsViewOf memory other_view pointer
  other_answers =
      let few = guest.few in
      record {
        home = λ at access here. root_led at access (omega arith) (omega arith)
            ∙ ap (λ (n : ℕ). entry_reached n 1 at access) here;
        trampoline = answers.trampoline;
        words = answers.words;
        scratch = answers.scratch;
        others = λ at access apart first second third.
            other_by (at / 4096 == has.kept.home_root.0) at access refl first second third;
      }

  walk_is : (linear : ℕ) (access : Access)
      → guest_walk (guest_entry (memory_behind memory pointer)) (4096 * (16 + home')) linear access
      ≡ set_walked (entries_of placement.frame state thread 0 home') linear access
  walk_is linear access =
      let few = guest.few in
      let root = guest.root in
      let whole = keeps.leads.stands.whole in
      goes_through (guest_entry (memory_behind memory pointer)) (placement.sets home') (16 + home') memory guest.tables
      whole.size (omega arith)
      (reads_set memory (16 + home') other_view (placement.sets home') whole pointer home' other_answers refl (omega arith)
      (sym root) guest.tables guest.above guest.readable) linear access
      ∙ guest.maps thread 0 linear access

  -- the lowest entry of the other process for its pool page
  pool_entry : IsThere state.pages (Pool home')
      → entries_of placement.frame state thread 0 home' 0x70006 ≡ leaf_for (placement.frame (Pool home')) mode.ReadWrite
  unfolding name_at is_own mode_of
  pool_entry found = rw (found.1) refl

  -- the address of the pool page leads to the pool page of the other process
  pool_led : (found : IsThere state.pages (Pool home'))
      → translation (memory_behind memory pointer) (4096 * (16 + home')) POOL_ADDRESS Read
      ≡ Ok (phys_in POOL_ADDRESS (placement.frame (Pool home')))
  unfolding translation mode_of is_own page_table_of
  pool_led found =
      let behind = page_behind (memory_behind memory pointer) Read in
      let walk = walk_is POOL_ADDRESS Read
      ∙ ((inside (entries_of placement.frame state thread 0 home') POOL_ADDRESS Read (λ e. cc)).1
      ∙ ap (λ (entry : ℕ). page_walked entry POOL_ADDRESS Read) (pool_entry found)) in
      ap behind walk
      ∙ leaf_led memory pointer (placement.frame (Pool home')) (placement.frame (Pool home')) POOL_ADDRESS mode.ReadWrite Read
      (small_frames placement state memory keeps (Pool home') found.0 found.1)
      (base_page placement state memory keeps.leads (small_frames placement state memory keeps) thread 0 home has (Pool home')
      found.0 found.1 refl)

-- ---- the words with one CR3 exchanged

exchanged : (cores : ℕ → CoreWords) (thread cr3 : ℕ)
    → with_cr3 cores thread cr3 thread ≡ record { list = (cores thread).list; cr3 = cr3; eptp = (cores thread).eptp }
exchanged cores thread cr3 = rw ((Decides-eqb thread thread).1 refl) refl

untouched : (cores : ℕ → CoreWords) (thread cr3 other : ℕ) → other ≢ thread → with_cr3 cores thread cr3 other ≡ cores other
untouched cores thread cr3 other apart = rw (ne_eqb other thread apart) refl

-- what a thread sees where its home's pool page stands
pool_shown : (state : State) (thread home : ℕ) → process_shown state.threads thread 0 ≡ Some home
    → (found : IsThere state.pages (Pool home))
    → page_for state thread 0 0x70006 ≡ Some (record { name = Pool home; mode = mode.ReadWrite })
unfolding page_for name_at mode_of
pool_shown state thread home shown found = rw (shown, found.1) refl

pub no_cr3_of_another : NoCr3OfAnother
unfolding place_of translation has
no_cr3_of_another placement state memory cores thread other home home' keeps has_cores shown shown' away found shows =
    let place = phys_in POOL_ADDRESS (placement.frame (Pool home')) in
    let words = with_cr3 cores thread (cr3_of state other) in
    let view' = keeps.leads.views other 0 home' shown' in
    let cr3 : cr3_of state other ≡ 4096 * (16 + home') =
    ap (λ (n : ℕ). 4096 * (16 + n)) (home_is state other home' shown') in
    let apart : other ≢ thread =
    λ same. away
    (sym (home_is state thread home shown) ∙ (ap (λ (n : ℕ). (thread_at state n).home) (sym same)
    ∙ home_is state other home' shown')) in
    let sees = core_sees placement state memory cores keeps has_cores thread 0 (home, shown) in
    let pointer = sees.eptp ∙ pointer_is placement state thread 0 home (keeps.leads.views thread 0 home shown) in
    let led = pool_led placement state memory keeps thread home home' shown view'.process_there away found in
    let here : LeadsTo (view memory (entry_at memory (cores thread) 0) (cr3_of state other)) Read POOL_ADDRESS place =
    ap (λ (eptp : ℕ). translation (memory_behind memory eptp) (cr3_of state other) POOL_ADDRESS Read) pointer
    ∙ (ap (λ (n : ℕ). translation (memory_behind memory (eptp_of_view (keeps.leads.views thread 0 home shown).kept)) n
    POOL_ADDRESS Read) cr3 ∙ led) in
    let seen = (place_led placement other 0 state (seen_through memory (cores other) 0)
    (core_sees placement state memory cores keeps has_cores other 0 (home', shown')) POOL_ADDRESS Read).led refl in
    let there : LeadsTo (seen_through memory (cores other) 0) Read POOL_ADDRESS place =
    subst (λ page. IsSeenLed placement.frame page POOL_ADDRESS Read
    (place_of (seen_through memory (cores other) 0) Read POOL_ADDRESS))
    (pool_shown state other home' shown' found) seen in
    no_pool_of_another state memory words thread other home home' Read place shown shown' away
    (subst (λ core. LeadsTo (seen_through memory core 0) Read POOL_ADDRESS place)
    (sym (exchanged cores thread (cr3_of state other))) here)
    (subst (λ core. LeadsTo (seen_through memory core 0) Read POOL_ADDRESS place)
    (sym (untouched cores thread (cr3_of state other) other apart)) there) shows
