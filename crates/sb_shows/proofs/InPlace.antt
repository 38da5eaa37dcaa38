-- Where all that was there stays in its place, each address that was reached is reached still.
use Rattle.std.proofs.Common.{◌≡◌, ◌∙◌, sym, ap, subst, ℕ, ◌+◌, ◌-◌, ◌*◌, ◌/◌, ◌%◌, ◌==◌, ◌&&◌, ◌||◌, Bool, true, false, nat_lt, nat_le, List, Result, Ok, Err, refl}
use Rattle.std.specs.Prelude.{Option, Some, None, if◌then◌else◌}
use Rattle.std.specs.Option.{option_map, option_and_then}
use Rattle.sb_memory.specs.Physical.{Physical}
use Rattle.sb_memory.specs.declared.address.Access.{Access}
use Rattle.sb_memory.specs.declared.address.PhysAddr.{PhysAddr}
use Rattle.sb_walks.specs.declared.stop.NestedStop.{NestedStop}
use Rattle.sb_walks.specs.Ept.{phys_in}
use Rattle.sb_walks.specs.Guest.{is_canonical}
use Rattle.sb_walks.specs.Nested.{memory_behind, translation}
use Rattle.sb_root.specs.Root.{list_entry}
use Rattle.sb_state.specs.declared.page.PageName.{PageName}
use Rattle.sb_state.specs.declared.page.PageName.TheVariants.{Save, Stack, Buffer}
use Rattle.sb_state.specs.declared.page.Page.{Page}
use Rattle.sb_state.specs.declared.page.SeenPage.{SeenPage}
use Rattle.sb_state.specs.declared.state.Thread.{Thread}
use Rattle.sb_trace.specs.PageName.{mode_of, permits}
use Rattle.sb_trace.specs.State.{State, find_page, thread_at}
use Rattle.sb_trace.specs.Windows.{name_at, name_if, is_within, is_in_buffers, is_process, process_shown, stack_name, buffer_name, special_name, page_by_name, page_and_mode, page_for}
use Rattle.sb_shows.specs.Placement.{Placement, IsThere}
use Rattle.sb_shows.specs.Keeping.{Keeps}
use Rattle.sb_shows.specs.Related.{cr3_of}
use Rattle.sb_shows.specs.Shows.{IsView}
use Rattle.sb_shows.specs.InPlace.{IsThereAs, ViewsStay, StaysInPlace, SameAddresses, KeepsInPlace}
use Rattle.sb_shows.specs.Threads.{SameSight}
use Rattle.sb_trace.specs.Changes.{Shape}
use Rattle.sb_shows.proofs.Leaves.{IsLedIf}
use Rattle.sb_shows.proofs.Nested.{IsSeenLed, walk_leads}
use Rattle.sb_shows.proofs.Stays.{SameShapes, before, shapes_back}
use Rattle.sb_shows.proofs.Bytes.{IsFound, IsPlaced, seen_there, small_frames, pointer_is}

-- ---- names stay where views stay

-- what was named is named still
record NamedStill (was now : Option PageName) : Type 0 where
  still : (name : PageName) → was ≡ Some name → now ≡ Some name

still_same : (name : Option PageName) → NamedStill name name
still_same name = record { still = λ one is. is }

still_if : (test : Bool) (was now rest rest' : Option PageName) → NamedStill was now → NamedStill rest rest'
    → NamedStill (if test then was else rest) (if test then now else rest')
still_if true was now rest rest' one other = one
still_if false was now rest rest' one other = other

still_named : (was now : Bool) (name : PageName) → (was ≡ true → now ≡ true) → NamedStill (name_if was name) (name_if now name)
still_named true now name later =
    record { still = λ one is. ap (λ (test : Bool). if test then Some name else None) (later refl) ∙ is }
still_named false now name later = record { still = λ one is. let none = is in cc }

process_still : (was now : Option ℕ) (process : ℕ) → ((one : ℕ) → was ≡ Some one → now ≡ Some one)
    → is_process was process ≡ true → is_process now process ≡ true
process_still None now process stay is = cc
process_still (Some one) now process stay is = ap (λ found. is_process found process) (stay one refl) ∙ is

true_or : (test : Bool) → (test || true) ≡ true
true_or true = refl
true_or false = refl

or_still : (a b a' b' : Bool) → (a ≡ true → a' ≡ true) → (b ≡ true → b' ≡ true) → (a || b) ≡ true → (a' || b') ≡ true
or_still true b a' b' one other is = ap (λ (test : Bool). test || b') (one refl)
or_still false b a' b' one other is = ap (λ (test : Bool). a' || test) (other is) ∙ true_or a'

and_still : (a b a' : Bool) → (a ≡ true → a' ≡ true) → (a && b) ≡ true → (a' && b) ≡ true
and_still true b a' one is = ap (λ (test : Bool). test && b) (one refl) ∙ is
and_still false b a' one is = cc

module _ (old new : List Thread) (views : (thread view process : ℕ) → process_shown old thread view ≡ Some process
    → process_shown new thread view ≡ Some process) where
  shown_still : (thread view process : ℕ) → is_process (process_shown old thread view) process ≡ true
      → is_process (process_shown new thread view) process ≡ true
  shown_still thread view process =
      process_still (process_shown old thread view) (process_shown new thread view) process (views thread view)

  buffer_still : (process page : ℕ) → NamedStill (buffer_name old process page) (buffer_name new process page)
  buffer_still process page =
      still_named
      (is_process (process_shown old (page / 64) 0) process || is_process
      (process_shown old (page / 64) (page / 4 % 16)) process)
      (is_process (process_shown new (page / 64) 0) process || is_process
      (process_shown new (page / 64) (page / 4 % 16)) process)
      (Buffer (page / 64) (page / 4 % 16) (page % 4))
      (or_still (is_process (process_shown old (page / 64) 0) process)
      (is_process (process_shown old (page / 64) (page / 4 % 16)) process)
      (is_process (process_shown new (page / 64) 0) process)
      (is_process (process_shown new (page / 64) (page / 4 % 16)) process)
      (shown_still (page / 64) 0 process) (shown_still (page / 64) (page / 4 % 16) process))

  stack_still : (process page : ℕ) → NamedStill (stack_name old process page) (stack_name new process page)
  stack_still process page =
      still_if (page % 8 == 0) _ _ _ _
      (still_named (is_process (process_shown old (page / 8) 0) process) (is_process (process_shown new (page / 8) 0) process)
      (Save (page / 8)) (shown_still (page / 8) 0 process))
      (still_named (is_process (process_shown old (page / 8) 0) process && nat_le 4 (page % 8))
      (is_process (process_shown new (page / 8) 0) process && nat_le 4 (page % 8)) (Stack (page / 8) (page % 8 - 4))
      (and_still (is_process (process_shown old (page / 8) 0) process) (nat_le 4 (page % 8))
      (is_process (process_shown new (page / 8) 0) process) (shown_still (page / 8) 0 process)))

  name_still : (thread view page process : ℕ)
      → NamedStill (name_at old thread view page process) (name_at new thread view page process)
  unfolding name_at
  name_still thread view page process =
      still_if (nat_le 1 page && nat_lt page 17) _ _ _ _ (still_same _)
      (still_if (is_within 0x400 page) _ _ _ _ (still_same _)
      (still_if (is_within 0x800 page) _ _ _ _ (still_same _)
      (still_if (is_within 0xC00 page) _ _ _ _ (still_same _)
      (still_if (is_in_buffers page) _ _ _ _ (buffer_still process (page - 0x2000))
      (still_if (is_within 0x3000 page) _ _ _ _ (stack_still process (page - 0x3000))
      (still_if (is_within 0x4000 page) _ _ _ _ (still_same _) (still_same (special_name thread view process page))))))))

-- ---- what is seen stays seen

page_still : (pages' : List Page) (name : PageName) (found : Option Page) (seen : SeenPage)
    → ((page : Page) → found ≡ Some page → IsThereAs pages' name page.executable)
    → option_map (page_and_mode name) found ≡ Some seen → page_by_name pages' name ≡ Some seen
page_still pages' name None seen modes is = cc
page_still pages' name (Some page) seen modes is =
    let later = modes page refl in
    ap (option_map (page_and_mode name)) later.1
    ∙ (ap (λ (executable : Bool). Some (record { name = name; mode = mode_of name executable })) later.2 ∙ is)

named_still : (pages pages' : List Page) (name name' : Option PageName) (seen : SeenPage) → NamedStill name name'
    → ((one : PageName) (page : Page) → find_page pages one ≡ Some page → IsThereAs pages' one page.executable)
    → option_and_then (page_by_name pages) name ≡ Some seen → option_and_then (page_by_name pages') name' ≡ Some seen
named_still pages pages' None name' seen still modes is = cc
named_still pages pages' (Some one) name' seen still modes is =
    ap (option_and_then (page_by_name pages')) (still.still one refl)
    ∙ page_still pages' one (find_page pages one) seen (modes one) is

shown_seen : (pages pages' : List Page) (names names' : ℕ → Option PageName) (shown shown' : Option ℕ) (seen : SeenPage)
    → ((process : ℕ) → shown ≡ Some process → shown' ≡ Some process)
    → ((process : ℕ) → NamedStill (names process) (names' process))
    → ((one : PageName) (page : Page) → find_page pages one ≡ Some page → IsThereAs pages' one page.executable)
    → option_and_then (page_by_name pages) (option_and_then names shown) ≡ Some seen
    → option_and_then (page_by_name pages') (option_and_then names' shown') ≡ Some seen
shown_seen pages pages' names names' None shown' seen stay still modes is = cc
shown_seen pages pages' names names' (Some process) shown' seen stay still modes is =
    ap (λ found. option_and_then (page_by_name pages') (option_and_then names' found)) (stay process refl)
    ∙ named_still pages pages' (names process) (names' process) seen (still process) modes is

-- a page that is seen in a view is seen there still, in the same mode
pub seen_still : (old new : Placement) (state state' : State) → StaysInPlace old new state state'
    → (thread index page : ℕ) (seen : SeenPage) → page_for state thread index page ≡ Some seen
    → page_for state' thread index page ≡ Some seen
unfolding page_for
seen_still old new state state' stays thread index page seen is =
    shown_seen state.pages state'.pages (name_at state.threads thread index page) (name_at state'.threads thread index page)
    (process_shown state.threads thread index) (process_shown state'.threads thread index) seen (stays.views.shown thread index)
    (name_still state.threads state'.threads stays.views.shown thread index page) stays.modes is

-- ---- an address that is reached is reached still

refused_not : (answer : Result PhysAddr NestedStop) (stop : NestedStop) (place : PhysAddr) → answer ≡ Err stop
    → answer ≡ Ok place → ⊥
refused_not answer stop place refused gives = let e = sym refused ∙ gives in cc

permitted : (may : Bool) (frame frame' linear : ℕ) (answer answer' : Result PhysAddr NestedStop) (place : PhysAddr)
    → frame' ≡ frame
    → IsLedIf frame may linear answer → IsLedIf frame' may linear answer' → answer ≡ Ok place → answer' ≡ Ok place
permitted true frame frame' linear answer answer' place same was now gives =
    now ∙ (ap (λ (n : ℕ). Ok (phys_in linear n)) same ∙ (sym was ∙ gives))
permitted false frame frame' linear answer answer' place same was now gives =
    absurd (refused_not answer was.stop place was.is gives)

led_still : (frame frame' : PageName → ℕ) (seen seen' : Option SeenPage) (linear : ℕ) (access : Access)
    (answer answer' : Result PhysAddr NestedStop) (place : PhysAddr)
    → ((one : SeenPage) → seen ≡ Some one → (seen' ≡ Some one) × (frame' one.name ≡ frame one.name))
    → IsSeenLed frame seen linear access answer → IsSeenLed frame' seen' linear access answer' → answer ≡ Ok place
    → answer' ≡ Ok place
led_still frame frame' None seen' linear access answer answer' place stays was now gives =
    absurd (refused_not answer was.stop place was.is gives)
led_still frame frame' (Some one) seen' linear access answer answer' place stays was now gives =
    let still = stays one refl in
    permitted (permits one.mode access) (frame one.name) (frame' one.name) linear answer answer' place still.1 was
    (subst (λ (found : Option SeenPage). IsSeenLed frame' found linear access answer') still.0 now) gives

placed_by : (canonical : Bool) (old new : Placement) (state state' : State) (thread index linear : ℕ) (access : Access)
    (answer answer' : Result PhysAddr NestedStop) (place : PhysAddr) → is_canonical linear ≡ canonical
    → ((one : SeenPage) → page_for state thread index (linear / 4096) ≡ Some one
    → (page_for state' thread index (linear / 4096) ≡ Some one) × (new.frame one.name ≡ old.frame one.name))
    → IsPlaced old state thread index linear access answer → IsPlaced new state' thread index linear access answer'
    → answer ≡ Ok place → answer' ≡ Ok place
placed_by true old new state state' thread index linear access answer answer' place is stays was now gives =
    led_still old.frame new.frame (page_for state thread index (linear / 4096)) (page_for state' thread index (linear / 4096))
    linear access answer answer' place stays (was.led is) (now.led is) gives
placed_by false old new state state' thread index linear access answer answer' place is stays was now gives =
    absurd (refused_not answer _ place (was.canon is) gives)

-- where what was seen stays seen in its frame, an address leads where it led
pub placed_still : (old new : Placement) (state state' : State) (thread index linear : ℕ) (access : Access)
    (answer answer' : Result PhysAddr NestedStop) (place : PhysAddr)
    → ((one : SeenPage) → page_for state thread index (linear / 4096) ≡ Some one
    → (page_for state' thread index (linear / 4096) ≡ Some one) × (new.frame one.name ≡ old.frame one.name))
    → IsPlaced old state thread index linear access answer → IsPlaced new state' thread index linear access answer'
    → answer ≡ Ok place → answer' ≡ Ok place
placed_still old new state state' thread index linear access answer answer' place =
    placed_by (is_canonical linear) old new state state' thread index linear access answer answer' place refl

-- the translations of a view lead to what plain memory shows
pub view_shown : (placement : Placement) (state : State) (memory : Physical) → Keeps placement state memory
    → (thread index : ℕ) → IsView state thread index → (linear : ℕ) (access : Access)
    → IsPlaced placement state thread index linear access
    (translation (memory_behind memory (list_entry placement.root thread index)) (cr3_of state thread) linear access)
view_shown placement state memory keeps thread index shows linear access =
    let has = keeps.leads.views thread index shows.0 shows.1 in
    let led = walk_leads placement state memory keeps.leads (small_frames placement state memory keeps) thread index shows.0 has
    linear access shows.1 in
    subst (λ eptp. IsPlaced placement state thread index linear access
    (translation (memory_behind memory eptp) (cr3_of state thread) linear access))
    (sym (pointer_is placement state thread index shows.0 has)) (record { canon = led.canon; led = led.led })

-- the translations of a view that was there, by what plain memory shows then
pub view_shown_after : (old new : Placement) (state state' : State) (memory' : Physical) → Keeps new state' memory'
    → StaysInPlace old new state state' → (thread index : ℕ) → IsView state thread index → (linear : ℕ) (access : Access)
    → IsPlaced new state' thread index linear access
    (translation (memory_behind memory' (list_entry old.root thread index)) (cr3_of state thread) linear access)
view_shown_after old new state state' memory' keeps stays thread index shows linear access =
    let still : IsView state' thread index = (shows.0, stays.views.shown thread index shows.0 shows.1) in
    let now = view_shown new state' memory' keeps thread index still linear access
    in
    subst (λ eptp. IsPlaced new state' thread index linear access
    (translation (memory_behind memory' eptp) (cr3_of state thread) linear access)) (stays.views.entries thread index shows)
    (subst (λ (home : ℕ). IsPlaced new state' thread index linear access
    (translation (memory_behind memory' (list_entry new.root thread index)) (4096 * (16 + home)) linear access))
    (stays.views.homes thread index shows) now)

seen_frames : (old new : Placement) (state state' : State) → StaysInPlace old new state state' → (thread index page : ℕ)
    → (one : SeenPage) → page_for state thread index page ≡ Some one
    → (page_for state' thread index page ≡ Some one) × (new.frame one.name ≡ old.frame one.name)
seen_frames old new state state' stays thread index page one is = (
  seen_still old new state state' stays thread index page one is,
  stays.frames one.name (subst (IsFound state.pages) is (seen_there state thread index page)),
)

-- what stays in its place is reached at the addresses at which it was
pub addresses_stay : (old new : Placement) (state state' : State) (memory memory' : Physical) → Keeps old state memory
    → Keeps new state' memory' → StaysInPlace old new state state' → SameAddresses old state memory memory'
addresses_stay old new state state' memory memory' keeps keeps' stays thread index shows linear access place gives =
    placed_still old new state state' thread index linear access _ _ place
    (seen_frames old new state state' stays thread index (linear / 4096))
    (view_shown old state memory keeps thread index shows linear access)
    (view_shown_after old new state state' memory' keeps' stays thread index shows linear access) gives

-- so a call that keeps what was there in its place
pub kept_in_place : (old new : Placement) (state state' : State) (memory memory' : Physical) → Keeps old state memory
    → Keeps new state' memory' → StaysInPlace old new state state' → KeepsInPlace old new state state' memory memory'
kept_in_place old new state state' memory memory' keeps keeps' stays = record {
  keeps = keeps';
  stays = stays;
  addresses = addresses_stay old new state state' memory memory' keeps keeps' stays;
}

-- ---- one change after another

pub stays_there : (old new : Placement) (state state' : State) → StaysInPlace old new state state' → (name : PageName)
    → IsThere state.pages name → IsThere state'.pages name
stays_there old new state state' stays name there = let later = stays.modes name there.0 there.1 in (later.0, later.1)

pub views_same : (placement : Placement) (state : State) → ViewsStay placement placement state state
views_same placement state = record {
  shown = λ thread index process shows. shows;
  entries = λ thread index shows. refl;
  homes = λ thread index shows. refl;
  lists = λ thread index shows. refl;
}

pub stays_same : (placement : Placement) (state : State) → StaysInPlace placement placement state state
stays_same placement state = record {
  frames = λ name there. refl;
  modes = λ name page found. (page, found, refl);
  views = views_same placement state;
}

pub views_then : (old mid new : Placement) (state between state' : State) → ViewsStay old mid state between
    → ViewsStay mid new between state' → ViewsStay old new state state'
views_then old mid new state between state' one two = record {
  shown = λ thread index process shows. two.shown thread index process (one.shown thread index process shows);
  entries =
      λ thread index shows. two.entries thread index (shows.0, one.shown thread index shows.0 shows.1)
      ∙ one.entries thread index shows;
  homes =
      λ thread index shows. two.homes thread index (shows.0, one.shown thread index shows.0 shows.1)
      ∙ one.homes thread index shows;
  lists =
      λ thread index shows. two.lists thread index (shows.0, one.shown thread index shows.0 shows.1)
      ∙ one.lists thread index shows;
}

pub stays_then : (old mid new : Placement) (state between state' : State) → StaysInPlace old mid state between
    → StaysInPlace mid new between state' → StaysInPlace old new state state'
stays_then old mid new state between state' one two = record {
  frames = λ name there. two.frames name (stays_there old mid state between one name there) ∙ one.frames name there;
  modes = λ name page found.
      let first = one.modes name page found in
      let second = two.modes name first.0 first.1 in
      (second.0, second.1, second.2 ∙ first.2);
  views = views_then old mid new state between state' one.views two.views;
}

-- a state that differs in nothing that the tables show
pub stays_moved : (placement : Placement) (old new : State) → SameSight old new → StaysInPlace placement placement old new
stays_moved placement old new same = record {
  frames = λ name there. refl;
  modes = λ name page found. (page, same.pages name ∙ found, refl);
  views = record {
    shown = λ thread index process shows. same.shows thread index ∙ shows;
    entries = λ thread index shows. refl;
    homes = λ thread index shows. same.home thread;
    lists = λ thread index shows. refl;
  };
}

-- other pages change no view
pub views_paged : (placement : Placement) (state : State) (pages : List Page)
    → ViewsStay placement placement state (record state { pages = pages })
unfolding thread_at
views_paged placement state pages = record {
  shown = λ thread index process shows. shows;
  entries = λ thread index shows. refl;
  homes = λ thread index shows. refl;
  lists = λ thread index shows. refl;
}

-- a state whose pages keep their modes
pub stays_shaped : (placement : Placement) (state : State) (pages : List Page) → SameShapes state.pages pages
    → StaysInPlace placement placement state (record state { pages = pages })
stays_shaped placement state pages same = record {
  frames = λ name there. refl;
  modes = λ name page found.
      let later = before pages state.pages (shapes_back state.pages pages same) name page found in
      (later.page, later.found, ap (λ (shape : Shape). shape.executable) later.shape);
  views = views_paged placement state pages;
}
