-- Where walks through a process's tables lead for a heap page, in a memory that keeps a state.
use Rattle.std.proofs.Common.{◌≡◌, ◌∙◌, sym, ap, subst, ℕ, ◌+◌, ◌*◌, ◌/◌, ◌%◌, ◌^◌, ◌<◌, ◌≤◌, Bool, true, false, [], length, take, drop, Result, Ok, Err, refl, arith}
use Rattle.std.specs.Prelude.{Some, None, IfOk, if◌then◌else◌}
use Rattle.std.proofs.lemmas.List.{ext_get_or, length-take, length-drop, get_or-take, get_or-drop}
use Rattle.std.proofs.lemmas.Grind.{common_steps}
use Rattle.sb_memory.specs.Outcome.{and_then}
use Rattle.sb_memory.specs.Physical.{Physical, frame_count}
use Rattle.sb_memory.specs.declared.address.Access.{Access}
use Rattle.sb_memory.specs.declared.address.Access.TheVariants as access
use Rattle.sb_memory.specs.declared.address.GuestPhys.{GuestPhys}
use Rattle.sb_walks.specs.declared.stop.WalkStop.{WalkStop}
use Rattle.sb_walks.specs.declared.stop.WalkStop.TheVariants.{Denied}
use Rattle.sb_walks.specs.Guest.{address_in}
use Rattle.sb_pagewalk.specs.TableSet.{page_walked, walked_in}
use Rattle.sb_pagewalk.proofs.OnePage.{set_walked_window}
use Rattle.sb_state.specs.declared.page.PageName.{PageName}
use Rattle.sb_state.specs.declared.page.PageName.TheVariants.{Heap}
use Rattle.sb_state.specs.declared.page.Page.{Page}
use Rattle.sb_trace.specs.PageName.{mode_of}
use Rattle.sb_trace.specs.State.{State, find_page}
use Rattle.sb_trace.specs.Windows.{name_at}
use Rattle.sb_trace.specs.Pattern.{executable_bytes}
use Rattle.sb_shows.specs.Placement.{Placement, is_own, guest_page, leaf_for, leaf_if, entry_of, entries_of}
use Rattle.sb_shows.specs.Keeping.{Keeps}
use Rattle.sb_shows.proofs.Leaves.{guest_permits, leaf_judged}
use Rattle.sb_shows.proofs.Protecting.{heap_named, heap_window}
use Rattle.sb_mapping.specs.StartPages.{heap_at}
use Rattle.sb_sub.specs.Heap.{heap_frame, led_to, frame_bytes}

-- ---- one answer

pub on_judged : (may : Bool) (page linear : ℕ)
    → and_then (if may then Ok page else Err (Denied 1)) (λ (led : ℕ). Ok (address_in linear led))
    ≡ (if may then Ok (address_in linear page) else Err (Denied 1))
on_judged true page linear = refl
on_judged false page linear = refl

pub led_if : (may : Bool) (page linear : ℕ)
    → led_to (if may then Ok (address_in linear page) else Err (Denied 1)) ≡ (if may then Some (record { 0 = page }) else None)
led_if true page linear = ap (λ (n : ℕ). Some (record { 0 = n })) (omega arith)
led_if false page linear = refl

-- an Ok answer of such a form leads to the page
pub answer_fact : (Claim : ℕ → Type 0) (may : Bool) (page linear : ℕ) → Claim page
    → IfOk (if may then Ok (address_in linear page) else Err (Denied 1)) (λ at. Claim (at.0 / 4096))
answer_fact Claim true page linear holds = let same : page ≡ (4096 * page + linear % 4096) / 4096 = omega arith in
    subst Claim same holds
answer_fact Claim false page linear holds = tt

module _ (placement : Placement) (state : State) (memory : Physical) (process page : ℕ) (one : Page)
    (keeps : Keeps placement state memory)
    (there : process < length state.processes) (few : page < 512) (found : find_page state.pages (Heap process page)
    ≡ Some one) where
  abbrev name : PageName
  name = Heap process page

  abbrev at : ℕ
  at = heap_at page

  heap_own : is_own name ≡ false
  unfolding is_own
  heap_own = refl

  entry_is : entries_of placement.frame state 0 0 process (at / 4096)
      ≡ leaf_for (placement.frame name) (mode_of name one.executable)
  entry_is =
      ap (λ (n : ℕ). entry_of placement.frame state.pages (name_at state.threads 0 0 n process)) (omega arith)
      ∙ (ap (entry_of placement.frame state.pages) (heap_named state.threads 0 0 page process few)
      ∙ (ap (λ (test : Bool). if test then leaf_for (guest_page placement.frame name)
      (mode_of name false) else leaf_if placement.frame name (find_page state.pages name)) heap_own
      ∙ ap (leaf_if placement.frame name) found))

  pub inside : placement.frame name < frame_count memory
  inside = (keeps.contents.page name one found).inside

  pub above : 512 ≤ placement.frame name
  above = (keeps.leads.pages name one found heap_own).above

  small : placement.frame name < 2 ^ 32
  small = let most = keeps.leads.stands.whole.most in let within = inside in omega arith

  pub walked_is : (how : Access) → walked_in memory (placement.sets process) at how
      ≡ (if guest_permits (mode_of name one.executable) how then Ok (address_in at (placement.frame name)) else Err (Denied 1))
  walked_is how =
      (keeps.leads.guests process there).maps 0 0 at how
      ∙ (set_walked_window (entries_of placement.frame state 0 0 process) at how (heap_window page few)
      ∙ (ap (λ (entry : ℕ). page_walked entry at how) entry_is
      ∙ (ap (λ (judged : Result ℕ WalkStop). and_then judged (λ (led : ℕ). Ok (address_in at led)))
      (leaf_judged (mode_of name one.executable) how (placement.frame name) small)
      ∙ on_judged (guest_permits (mode_of name one.executable) how) (placement.frame name) at)))

  frame_is : (how : Access) → heap_frame memory (placement.sets process) page how
      ≡ (if guest_permits (mode_of name one.executable) how then Some (record { 0 = placement.frame name }) else None)
  frame_is how = ap led_to (walked_is how) ∙ led_if (guest_permits (mode_of name one.executable) how) (placement.frame name) at

  read_may : (executable : Bool) → guest_permits (mode_of name executable) access.Read ≡ true
  unfolding guest_permits mode_of
  read_may true = refl
  read_may false = refl

  fetch_may : (executable : Bool) → guest_permits (mode_of name executable) access.Fetch ≡ executable
  unfolding guest_permits mode_of
  fetch_may true = refl
  fetch_may false = refl

  pub read_frame : heap_frame memory (placement.sets process) page access.Read ≡ Some (record { 0 = placement.frame name })
  read_frame =
      frame_is access.Read
      ∙ ap (λ (may : Bool). if may then Some (record { 0 = placement.frame name }) else None) (read_may one.executable)

  pub fetch_frame : heap_frame memory (placement.sets process) page access.Fetch
      ≡ (if one.executable then Some (record { 0 = placement.frame name }) else None)
  fetch_frame =
      frame_is access.Fetch
      ∙ ap (λ (may : Bool). if may then Some (record { 0 = placement.frame name }) else None) (fetch_may one.executable)

  pub walk_fact : (Claim : ℕ → Type 0) (how : Access) → Claim (placement.frame name)
      → IfOk (walked_in memory (placement.sets process) at how) (λ led. Claim (led.0 / 4096))
  walk_fact Claim how holds =
      subst (λ (answer : Result GuestPhys WalkStop). IfOk answer (λ led. Claim (led.0 / 4096))) (sym (walked_is how))
      (answer_fact Claim (guest_permits (mode_of name one.executable) how) (placement.frame name) at holds)

  -- ---- its bytes

  length_here : length (take 4096 (drop (4096 * placement.frame name) memory.bytes)) ≡ 4096
  length_here =
      let within = inside in
      let size = keeps.leads.stands.whole.size.bytes in
      let dropped = length-drop (4096 * placement.frame name) memory.bytes in
      let taken = length-take 4096 (drop (4096 * placement.frame name) memory.bytes) in
      grind (arith, common_steps)

  pub bytes_are : frame_bytes memory (Some (record { 0 = placement.frame name })) ≡ one.bytes
  bytes_are =
      let holds = keeps.contents.page name one found in
      ext_get_or 0 _ one.bytes (length_here ∙ sym holds.size) (λ i below.
      let low : i < 4096 = subst (λ (n : ℕ). i < n) length_here below in
      get_or-take 4096 (drop (4096 * placement.frame name) memory.bytes) i 0 low
      ∙ (get_or-drop (4096 * placement.frame name) memory.bytes i 0
      ∙ holds.byte i low))

  executed_by : (executable : Bool)
      → frame_bytes memory (if executable then Some (record { 0 = placement.frame name }) else None)
      ≡ (if executable then one.bytes else [])
  executed_by true = bytes_are
  executed_by false = refl

  pub executed_are : frame_bytes memory (heap_frame memory (placement.sets process) page access.Fetch)
      ≡ executable_bytes (find_page state.pages name)
  executed_are = ap (frame_bytes memory) fetch_frame ∙ (executed_by one.executable ∙ ap executable_bytes (sym found))
