-- Walks in a memory that has all its frames meet no missing frame.
use Rattle.std.proofs.Common.{◌≡◌, ℕ, ◌+◌, ◌*◌, ◌%◌, ◌^◌, ◌<◌, Bool, true, false, nat_le, ◌==◌, List, [], ◌∷◌, Result, Ok, Err, refl, sym, ap, ◌∙◌, subst, arith}
use Rattle.std.specs.Prelude.{if◌then◌else◌, not, ◌&&◌, ◌||◌}
use Rattle.std.proofs.lemmas.Grind.{common_steps}
use Rattle.sb_memory.specs.Outcome.{and_then}
use Rattle.sb_memory.specs.Physical.{Physical, HasAllFrames, frame_count, frame_of}
use Rattle.sb_memory.specs.Reading.{word_read}
use Rattle.sb_memory.specs.Words.{word_at}
use Rattle.sb_memory.specs.declared.address.Access.{Access}
use Rattle.sb_memory.specs.declared.address.Access.TheVariants.{Read}
use Rattle.sb_memory.specs.declared.address.GuestPhys.{GuestPhys}
use Rattle.sb_memory.specs.declared.address.PhysAddr.{PhysAddr}
use Rattle.sb_memory.specs.declared.address.EptStop.{EptStop}
use Rattle.sb_memory.specs.declared.address.EptStop.TheVariants as stop
use Rattle.sb_walks.specs.declared.stop.TableStop.{TableStop}
use Rattle.sb_walks.specs.declared.stop.WalkStop.{WalkStop}
use Rattle.sb_walks.specs.declared.stop.WalkStop.TheVariants as walk
use Rattle.sb_walks.specs.Entry.{entry_place, frame_in, four_levels, is_present, maps_large_page}
use Rattle.sb_walks.specs.Ept.{ept_entry_answer, ept_levels, ept_permits, ept_step, ept_walk, is_large, is_misconfigured, phys_in}
use Rattle.sb_walks.specs.Gaps.{NoGap, ept_gap, table_gap, walk_gap, nested_gap}
use Rattle.sb_walks.specs.Guest.{address_in, guest_entry_answer, guest_read_answer, guest_walk, is_canonical, guest_permits, walk_levels, walk_step}
use Rattle.sb_walks.specs.Nested.{entry_answer, entry_behind, guest_entry, memory_behind, page_answer, page_behind, translation}
use Rattle.sb_walks.proofs.SamePage.{unwrapped}
use Rattle.sb_walks.proofs.Page.{passed_not}

-- ---- answers

and_then_no_gap : {A B E : Type 0} (gap : E → Bool) (answer : Result A E) (next : A → Result B E) → NoGap gap answer
    → ((a : A) → answer ≡ Ok a → NoGap gap (next a)) → NoGap gap (and_then answer next)
and_then_no_gap gap (Ok a) next first later = later a refl
and_then_no_gap gap (Err e) next first later = first

stop_or : {A E : Type 0} (gap : E → Bool) (test : Bool) (stop : E) (rest : Result A E) → gap stop ≡ false → NoGap gap rest
    → NoGap gap (if test then Err stop else rest)
stop_or gap true stop rest e none = e
stop_or gap false stop rest e none = none

or_stop : {A E : Type 0} (gap : E → Bool) (test : Bool) (stop : E) (rest : Result A E) → gap stop ≡ false → NoGap gap rest
    → NoGap gap (if test then rest else Err stop)
or_stop gap true stop rest e none = none
or_stop gap false stop rest e none = e

-- ---- the walk through the extended page tables

judged_no_gap : (frames : ℕ) (access : Access) (level entry : ℕ) → NoGap ept_gap (ept_entry_answer frames access level entry)
unfolding ept_entry_answer
judged_no_gap frames access level entry =
    stop_or ept_gap (entry % 8 == 0) (stop.NotPresent level) _ refl
    (stop_or ept_gap (is_misconfigured level entry) (stop.Misconfigured level) _ refl
    (stop_or ept_gap (is_large level entry) (stop.Large level) _ refl
    (stop_or ept_gap (nat_le frames (frame_in entry)) (stop.Outside level) _ refl
    (stop_or ept_gap (not (ept_permits access entry)) (stop.Denied level) (Ok (frame_in entry)) refl tt))))

-- an entry leads into the memory
judged_inside : (frames : ℕ) (access : Access) (level entry next : ℕ) → ept_entry_answer frames access level entry ≡ Ok next
    → next < frames
unfolding ept_entry_answer
judged_inside frames access level entry next e =
    let present = passed_not (entry % 8 == 0) _ _ next e in
    let valid = passed_not (is_misconfigured level entry) _ _ next present.1 in
    let small = passed_not (is_large level entry) _ _ next valid.1 in
    let inside = passed_not (nat_le frames (frame_in entry)) _ _ next small.1 in
    let permitted = passed_not (not (ept_permits access entry)) _ _ next inside.1 in
    let same : frame_in entry ≡ next = unwrapped permitted.1 in
    let below : frame_in entry < frames = let test = inside.0 in grind (arith, common_steps, test) in
    subst (λ (frame : ℕ). frame < frames) same below

module _ (memory : Physical) (all : HasAllFrames memory) where
  place_frame : (frame level at : ℕ) → frame_of (entry_place frame level at) ≡ frame
  place_frame frame level at = omega arith

  -- a word in the memory is there
  word_there : (place : ℕ) → frame_of place < frame_count memory → word_read memory place ≡ Ok (word_at memory.bytes place)
  word_there place inside = let there = all (frame_of place) inside in rw there refl

  step_is : (at : ℕ) (access : Access) (level frame : ℕ) → frame < frame_count memory
      → ept_step memory at access level frame
      ≡ ept_entry_answer (frame_count memory) access level (word_at memory.bytes (entry_place frame level at))
  unfolding ept_step
  step_is at access level frame inside =
      let here = place_frame frame level at in
      let read = word_there (entry_place frame level at) (rw here inside) in
      rw read refl

  step_no_gap : (at : ℕ) (access : Access) (level frame : ℕ) → frame < frame_count memory
      → NoGap ept_gap (ept_step memory at access level frame)
  step_no_gap at access level frame inside =
      subst (NoGap ept_gap) (sym (step_is at access level frame inside))
      (judged_no_gap (frame_count memory) access level (word_at memory.bytes (entry_place frame level at)))

  step_inside : (at : ℕ) (access : Access) (level frame next : ℕ) → frame < frame_count memory
      → ept_step memory at access level frame ≡ Ok next → next < frame_count memory
  step_inside at access level frame next inside e =
      judged_inside (frame_count memory) access level (word_at memory.bytes (entry_place frame level at)) next
      (sym (step_is at access level frame inside) ∙ e)

  levels_no_gap : (at : ℕ) (access : Access) (levels : List ℕ) (frame : ℕ) → frame < frame_count memory
      → NoGap ept_gap (ept_levels memory at access levels frame)
  levels_no_gap at access [] frame inside = tt
  levels_no_gap at access (level ∷ levels) frame inside =
      and_then_no_gap ept_gap (ept_step memory at access level frame) (ept_levels memory at access levels)
      (step_no_gap at access level frame inside)
      (λ next is. levels_no_gap at access levels next (step_inside at access level frame next inside is))

  -- the last frame is in the memory
  abbrev Inside : Result ℕ EptStop → Type 0
  Inside (Ok frame) = frame < frame_count memory
  Inside (Err e) = Unit {0}

  and_then_inside : (answer : Result ℕ EptStop) (next : ℕ → Result ℕ EptStop) → ((a : ℕ) → answer ≡ Ok a → Inside (next a))
      → Inside (and_then answer next)
  and_then_inside (Ok a) next later = later a refl
  and_then_inside (Err e) next later = tt

  levels_inside : (at : ℕ) (access : Access) (levels : List ℕ) (frame : ℕ) → frame < frame_count memory
      → Inside (ept_levels memory at access levels frame)
  levels_inside at access [] frame inside = inside
  levels_inside at access (level ∷ levels) frame inside =
      and_then_inside (ept_step memory at access level frame) (ept_levels memory at access levels)
      (λ next is. levels_inside at access levels next (step_inside at access level frame next inside is))

  module _ (eptp : ℕ) (root : frame_in eptp < frame_count memory) where
    -- no missing frame
    pub ept_whole : (at : ℕ) (access : Access) → NoGap ept_gap (ept_walk memory eptp at access)
    unfolding ept_walk
    ept_whole at access =
        stop_or ept_gap (nat_le (2 ^ 48) at) stop.TooWide _ refl
        (and_then_no_gap ept_gap (ept_levels memory at access four_levels (frame_in eptp)) (λ frame. Ok (phys_in at frame))
        (levels_no_gap at access four_levels (frame_in eptp) root) (λ frame is. tt))

    led_inside : (answer : Result ℕ EptStop) (at : ℕ) (place : PhysAddr) → Inside answer
        → and_then answer (λ frame. Ok (phys_in at frame)) ≡ Ok place → frame_of place.0 < frame_count memory
    led_inside (Ok frame) at place inside e =
        let same : 4096 * frame + at % 4096 ≡ place.0 = ap (λ (p : PhysAddr). p.0) (unwrapped e) in
        omega arith
    led_inside (Err stop) at place inside e = cc

    -- where it leads, the memory has a frame
    pub ept_inside : (at : ℕ) (access : Access) (place : PhysAddr) → ept_walk memory eptp at access ≡ Ok place
        → frame_of place.0 < frame_count memory
    unfolding ept_walk
    ept_inside at access place e =
        led_inside (ept_levels memory at access four_levels (frame_in eptp)) at place
        (levels_inside at access four_levels (frame_in eptp) root) (passed_not (nat_le (2 ^ 48) at) _ _ place e).1

    behind_no_gap : (answer : Result PhysAddr EptStop) → NoGap ept_gap answer
        → ((place : PhysAddr) → answer ≡ Ok place → frame_of place.0 < frame_count memory)
        → NoGap table_gap (entry_behind memory answer)
    behind_no_gap (Ok place) none inside =
        subst (λ (read : Result ℕ _). NoGap table_gap (entry_answer read)) (sym (word_there place.0 (inside place refl))) tt
    behind_no_gap (Err stop) none inside = none

    -- ---- the nested walk

    entry_no_gap : (at : ℕ) → NoGap table_gap (guest_entry (memory_behind memory eptp) at)
    unfolding guest_entry
    entry_no_gap at = behind_no_gap (ept_walk memory eptp at Read) (ept_whole at Read) (ept_inside at Read)

    guest_judged : (access : Access) (level entry : ℕ) → NoGap walk_gap (guest_entry_answer access level entry)
    unfolding guest_entry_answer
    guest_judged access level entry =
        stop_or walk_gap (not (is_present entry)) (walk.NotPresent level) _ refl
        (stop_or walk_gap (((level == 3) || (level == 2)) && maps_large_page entry) (walk.Large level) _ refl
        (stop_or walk_gap (not (guest_permits access entry)) (walk.Denied level) (Ok (frame_in entry)) refl tt))

    read_judged : (access : Access) (level : ℕ) (answer : Result ℕ TableStop) → NoGap table_gap answer
        → NoGap walk_gap (guest_read_answer access level answer)
    read_judged access level (Ok entry) none = guest_judged access level entry
    read_judged access level (Err unread) none = none

    abbrev entries : ℕ → Result ℕ TableStop
    entries = guest_entry (memory_behind memory eptp)

    guest_step : (linear : ℕ) (access : Access) (level frame : ℕ) → NoGap walk_gap (walk_step entries linear access level frame)
    unfolding walk_step
    guest_step linear access level frame =
        read_judged access level (entries (entry_place frame level linear)) (entry_no_gap (entry_place frame level linear))

    guest_levels : (linear : ℕ) (access : Access) (levels : List ℕ) (frame : ℕ)
        → NoGap walk_gap (walk_levels entries linear access levels frame)
    guest_levels linear access [] frame = tt
    guest_levels linear access (level ∷ levels) frame =
        and_then_no_gap walk_gap (walk_step entries linear access level frame) (walk_levels entries linear access levels)
        (guest_step linear access level frame) (λ next is. guest_levels linear access levels next)

    guest_whole : (cr3 linear : ℕ) (access : Access) → NoGap walk_gap (guest_walk entries cr3 linear access)
    unfolding guest_walk
    guest_whole cr3 linear access =
        or_stop walk_gap (is_canonical linear) walk.NonCanonical _ refl
        (and_then_no_gap walk_gap (walk_levels entries linear access four_levels (frame_in cr3))
        (λ frame. Ok (address_in linear frame)) (guest_levels linear access four_levels (frame_in cr3)) (λ frame is. tt))

    answer_no_gap : (answer : Result PhysAddr EptStop) → NoGap ept_gap answer → NoGap nested_gap (page_answer answer)
    answer_no_gap (Ok place) none = tt
    answer_no_gap (Err stop) none = none

    page_no_gap : (access : Access) (answer : Result GuestPhys WalkStop) → NoGap walk_gap answer
        → NoGap nested_gap (page_behind (memory_behind memory eptp) access answer)
    page_no_gap access (Ok at) none = answer_no_gap (ept_walk memory eptp at.0 access) (ept_whole at.0 access)
    page_no_gap access (Err stop) none = none

    -- no missing frame
    pub nested_whole : (cr3 linear : ℕ) (access : Access)
        → NoGap nested_gap (translation (memory_behind memory eptp) cr3 linear access)
    unfolding translation
    nested_whole cr3 linear access =
        page_no_gap access (guest_walk entries cr3 linear access) (guest_whole cr3 linear access)

    answer_inside : (answer : Result PhysAddr EptStop) (place : PhysAddr) → page_answer answer ≡ Ok place → answer ≡ Ok place
    answer_inside (Ok other) place e = cc
    answer_inside (Err stop) place e = cc

    page_inside : (access : Access) (answer : Result GuestPhys WalkStop) (place : PhysAddr)
        → page_behind (memory_behind memory eptp) access answer ≡ Ok place → frame_of place.0 < frame_count memory
    page_inside access (Ok at) place e =
        ept_inside at.0 access place (answer_inside (ept_walk memory eptp at.0 access) place e)
    page_inside access (Err stop) place e = cc

    -- where it leads, the memory has a frame
    pub nested_inside : (cr3 linear : ℕ) (access : Access) (place : PhysAddr)
        → translation (memory_behind memory eptp) cr3 linear access ≡ Ok place → frame_of place.0 < frame_count memory
    unfolding translation
    nested_inside cr3 linear access place e = page_inside access (guest_walk entries cr3 linear access) place e
