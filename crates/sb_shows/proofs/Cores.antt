-- The words of the cores: where views stay they stay, there are some, and by them each place is reached as before.
use Rattle.std.proofs.Common.{◌≡◌, ◌≢◌, ◌∙◌, sym, ap, subst, ℕ, ◌+◌, ◌*◌, ◌<◌, length, refl}
use Rattle.std.specs.Prelude.{Option, Some, None}
use Rattle.sb_memory.specs.Physical.{Physical}
use Rattle.sb_memory.specs.declared.address.Access.{Access}
use Rattle.sb_memory.specs.declared.address.Frame.{Frame}
use Rattle.sb_walks.specs.Nested.{memory_behind, translation}
use Rattle.sb_nested.specs.View.{place_of}
use Rattle.sb_root.specs.Root.{eptp_list_frame, list_entry}
use Rattle.sb_trace.specs.State.{State}
use Rattle.sb_trace.specs.Windows.{process_shown}
use Rattle.sb_shows.specs.Placement.{Placement}
use Rattle.sb_shows.specs.Keeping.{Keeps}
use Rattle.sb_shows.specs.Related.{cr3_of, Sees, HasCores}
use Rattle.sb_shows.specs.Shows.{CoreWords, IsView, present_index, seen_through}
use Rattle.sb_shows.specs.InPlace.{ViewsStay}
use Rattle.sb_shows.specs.Laws.{CoresStay, CoresAreThere, PlacesStay, PlacesStayWhereSeen}
use Rattle.sb_shows.proofs.InPlace.{addresses_stay}
use Rattle.sb_shows.proofs.Unseen.{seen_stay}
use Rattle.sb_shows.proofs.Shown.{core_sees}

-- ---- the words stay

-- where views stay and each thread is in the view in which it was, the words of the cores stay
pub cores_stay : CoresStay
cores_stay old new state state' cores views count same has =
    let was : (thread : ℕ) → thread < length state'.threads → thread < length state.threads =
    λ thread there. subst (λ n. thread < n) count there in
    let view : (thread : ℕ) → thread < length state'.threads → IsView state thread (present_index state thread) =
    λ thread there. has.present thread (was thread there) in
    record {
      list = λ thread there.
          let list = has.list thread (was thread there) in
          (list.0, views.lists thread (present_index state thread) (view thread there) ∙ list.1, list.2);
      cr3 = λ thread there.
          has.cr3 thread (was thread there)
          ∙ ap (λ (home : ℕ). 4096 * (16 + home))
          (sym (views.homes thread (present_index state thread) (view thread there)));
      eptp = λ thread there.
          has.eptp thread (was thread there)
          ∙ (sym (views.entries thread (present_index state thread) (view thread there))
          ∙ ap (list_entry new.root thread) (sym (same thread (was thread there))));
      present = λ thread there.
          let there_is = view thread there in (
            there_is.0,
            ap (process_shown state'.threads thread) (same thread (was thread there))
                ∙ views.shown thread (present_index state thread) there_is.0 there_is.1,
          );
    }

-- ---- there are some

-- the number of the frame of a list, where there is one
abbrev list_number : Option Frame → ℕ
list_number None = 0
list_number (Some frame) = frame.0

some_list : (list : Option Frame) → list ≢ None → (frame : Frame) × (list ≡ Some frame) × (list_number list ≡ frame.0)
some_list None some = absurd (some refl)
some_list (Some frame) some = (frame, refl, refl)

-- a core's words are the frame of its thread's list, the root of its home's tables, and the entry of its present view
pub cores_are_there : CoresAreThere
cores_are_there placement state memory keeps present = (
  λ thread. record {
    list = list_number (eptp_list_frame placement.root thread);
    cr3 = cr3_of state thread;
    eptp = list_entry placement.root thread (present_index state thread);
  },
  record {
    list = λ thread there.
        let shows = present thread there in
        let view = keeps.leads.views thread (present_index state thread) shows.0 shows.1 in
        some_list (eptp_list_frame placement.root thread)
        (keeps.leads.stands.listed thread (present_index state thread) view.kept view.is);
    cr3 = λ thread there. refl;
    eptp = λ thread there. refl;
    present = present;
  },
)

-- ---- places

-- where an address leads through an entry of a core's list, by the entry that the root kernel keeps
place_by_root : (placement : Placement) (state : State) (memory : Physical) (cores : ℕ → CoreWords) (thread index address : ℕ)
    (access : Access) → Sees placement thread index state (seen_through memory (cores thread) index)
    → place_of (seen_through memory (cores thread) index) access address
    ≡ translation (memory_behind memory (list_entry placement.root thread index)) (cr3_of state thread) address access
unfolding place_of
place_by_root placement state memory cores thread index address access sees =
    ap (λ eptp. translation (memory_behind memory eptp) (cores thread).cr3 address access) sees.eptp
    ∙ ap (λ cr3. translation (memory_behind memory (list_entry placement.root thread index)) cr3 address access) sees.cr3

-- so after a change that leaves the view, by the entry that was kept before it
place_after : (old new : Placement) (state state' : State) (memory' : Physical) (cores : ℕ → CoreWords) → Keeps new state' memory'
    → ViewsStay old new state state' → HasCores new state' cores → (thread index address : ℕ) (access : Access)
    → IsView state thread index
    → place_of (seen_through memory' (cores thread) index) access address
    ≡ translation (memory_behind memory' (list_entry old.root thread index)) (cr3_of state thread) address access
place_after old new state state' memory' cores keeps' views has' thread index address access shows =
    place_by_root new state' memory' cores thread index address access
    (core_sees new state' memory' cores keeps' has' thread index (shows.0, views.shown thread index shows.0 shows.1))
    ∙ (ap (λ eptp. translation (memory_behind memory' eptp) (cr3_of state' thread) address access)
    (views.entries thread index shows)
    ∙ ap (λ (home : ℕ). translation (memory_behind memory' (list_entry old.root thread index)) (4096 * (16 + home)) address
    access)
    (views.homes thread index shows))

-- by the words in memory, an address that led to a place leads there still
pub places_stay : PlacesStay
places_stay old new state state' memory memory' cores keeps keeps' stays has has' thread index address access place shows leads =
    place_after old new state state' memory' cores keeps' stays.views has' thread index address access shows
    ∙ addresses_stay old new state state' memory memory' keeps keeps' stays thread index shows address access place
    (sym (place_by_root old state memory cores thread index address access
    (core_sees old state memory cores keeps has thread index shows)) ∙ leads)

-- and each address leads where it led, or meets the same refusal, where the view shows the page that it showed
pub places_seen_stay : PlacesStayWhereSeen
places_seen_stay old new state state' memory memory' cores keeps keeps' frames views has has' thread index address access shows
    same =
    place_after old new state state' memory' cores keeps' views has' thread index address access shows
    ∙ (seen_stay old new state state' memory memory' keeps keeps' frames views thread index shows address access same
    ∙ sym (place_by_root old state memory cores thread index address access
    (core_sees old state memory cores keeps has thread index shows)))
