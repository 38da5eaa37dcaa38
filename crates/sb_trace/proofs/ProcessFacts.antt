-- Processes and key words, as a start has them and as a step keeps them.
use Rattle.std.proofs.Common.{◌≡◌, ◌∙◌, sym, ap, subst, ℕ, zero, suc, ◌^◌, ◌<◌, ◌≤◌, ◌⊎◌, inl, inr, Bool, true, false, ◌==◌, ◌||◌, List, [], ◌∷◌, length, map, slice_set, refl, arith}
use Rattle.std.specs.Prelude.{Some, None, slice_get}
use Rattle.std.specs.List.{AllByRecursion}
use Rattle.std.proofs.lemmas.Bool.{cases_eq}
use Rattle.std.proofs.lemmas.Bool.Decides.{Decides-eqb}
use Rattle.std.proofs.lemmas.List.{length-set, length-map}
use Rattle.sb_trace.specs.declared.event.Event.{Event}
use Rattle.sb_trace.specs.declared.event.Event.TheVariants.{Step as StepLine, Extra, Stray, Sys, Entered, Landing, Idle}
use Rattle.sb_state.specs.declared.page.Page.{Page}
use Rattle.sb_state.specs.declared.state.Registration.{Registration}
use Rattle.sb_state.specs.State.{State, Process, is_listed, process_at, registration_of, registration_at}
use Rattle.sb_state.specs.Start.{ProcessImage, ThreadEntry, start_process, start_state}
use Rattle.sb_trace.specs.Sound.{IsRegistrationSound, IsProcessSound}
use Rattle.sb_trace.specs.Changes.{BindingsStay, OnlyPages, AddsStacks, AddsView, CallChanges, LineChanges, StepChanges}
use Rattle.sb_trace.specs.Laws.{IsImageSound}
use Rattle.sb_state.proofs.Cases.{none_some, same_some}
use Rattle.sb_state.proofs.Threads.{set_other}

-- ---- lists

-- what holds of each element holds of one that is found
pub all_at : {A : Type 0} (Claim : A → Type 0) (list : List A) (place : ℕ) (one : A) → AllByRecursion Claim list
    → slice_get list place ≡ Some one → Claim one
all_at Claim [] place one all there = absurd cc
all_at Claim (first ∷ list) zero one all there = let same : first ≡ one = cc in subst Claim same all.0
all_at Claim (first ∷ list) (suc place) one all there = all_at Claim list place one all.1 there

-- what holds of the element at each place holds of each
pub all_from : {A : Type 0} (Claim : A → Type 0) (list : List A)
    → ((place : ℕ) (one : A) → slice_get list place ≡ Some one → Claim one)
    → AllByRecursion Claim list
all_from Claim [] each = tt
all_from Claim (first ∷ list) each = (each 0 first refl, all_from Claim list (λ place. each (suc place)))

-- what holds of each element, and of a value that is set, holds of each afterwards
pub all_set : {A : Type 0} (Claim : A → Type 0) (list : List A) (index : ℕ) (value : A) → AllByRecursion Claim list
    → Claim value → AllByRecursion Claim (slice_set list index value)
all_set Claim [] index value all new = tt
all_set Claim (first ∷ list) zero value all new = (new, all.1)
all_set Claim (first ∷ list) (suc index) value all new = (all.0, all_set Claim list index value all.1 new)

listed_by : (test rest : Bool) (start address : ℕ) → (start == address) ≡ test → start < 2 ^ 64 → (test || rest) ≡ true
    → (rest ≡ true → address < 2 ^ 64) → address < 2 ^ 64
listed_by true rest start address is word listed more =
    let same : start ≡ address = (Decides-eqb start address).0 is in omega (arith, same, word)
listed_by false rest start address is word listed more = more listed

-- one of the starts is a word
pub listed_word : (starts : List ℕ) (address : ℕ) → AllByRecursion (λ start. start < 2 ^ 64) starts
    → is_listed starts address ≡ true → address < 2 ^ 64
listed_word [] address all listed = absurd cc
listed_word (start ∷ starts) address all listed =
    listed_by (start == address) (is_listed starts address) start address refl all.0 listed
    (λ more. listed_word starts address all.1 more)

-- ---- what a step does to processes, key words and bindings

-- they stay
pub record StayAlike (old new : State) : Type 0 where
  pub processes : new.processes ≡ old.processes
  pub bindings : BindingsStay old new
  pub keys : new.keys ≡ old.keys

-- they stay, or a process becomes a server, or the thread gets a binding
abbrev pub Adds : State → ℕ → State → Type 0
Adds old core new = StayAlike old new ⊎ ((process : ℕ) × AddsStacks old process new) ⊎ AddsView old core new

pages_alike : (old : State) (pages : List Page) (new : State) → OnlyPages old pages new → StayAlike old new
pages_alike old pages new only = record { processes = only.processes; bindings = only.bindings; keys = only.keys }

call_adds : (old : State) (core number answer : ℕ) (new : State) → CallChanges old core number answer new → Adds old core new
call_adds old core number answer new (inl (refused, only)) = inl (pages_alike old old.pages new only)
call_adds old core number answer new (inr (inl (done, call, home, adds))) = inr (inl (_, adds))
call_adds old core number answer new (inr (inr (inl (done, call, home, adds)))) = inr (inr adds)
call_adds old core number answer new (inr (inr (inr (done, call, changes)))) = inl (pages_alike old _ new changes.only)

-- by the line of the step
pub line_adds : (old : State) (core : ℕ) (event : Event) (new : State) → LineChanges old core event new → Adds old core new
line_adds old core (StepLine rip) new writes =
    inl (record { processes = writes.processes; bindings = writes.bindings; keys = writes.keys })
line_adds old core (Extra rip) new writes =
    inl (record { processes = writes.processes; bindings = writes.bindings; keys = writes.keys })
line_adds old core (Stray rip) new writes =
    inl (record { processes = writes.processes; bindings = writes.bindings; keys = writes.keys })
line_adds old core (Entered index slot) new enters = inl (pages_alike old _ new enters.only)
line_adds old core (Sys number answer) new changes = call_adds old core number answer new changes
line_adds old core (Landing phase) new only = inl (pages_alike old old.pages new only.0)
line_adds old core Idle new same =
    subst (Adds old core) (sym same) (inl (record { processes = refl; bindings = λ number. refl; keys = refl }))
line_adds old core _ new only = inl (pages_alike old old.pages new only)

-- ---- processes

-- a process that is registered is so with what it tells then
abbrev pub registered_as : Process → ℕ → ℕ → Process
registered_as found handler stacks = record found { registration = Some (record { handler = handler; stacks = stacks }) }

registered_sound : (found : Process) (handler stacks : ℕ) → IsProcessSound found → is_listed found.map.starts handler ≡ true
    → 1 ≤ stacks → stacks ≤ 16 → IsProcessSound (registered_as found handler stacks)
registered_sound found handler stacks sound listed some few = record {
  starts = sound.starts;
  heap = sound.heap;
  registration = λ registration is.
      let told : Registration = record { handler = handler; stacks = stacks } in
      subst (IsRegistrationSound (registered_as found handler stacks)) (same_some told registration is)
      (record { listed = listed; some = some; few = few });
}

-- a step keeps processes sound
pub processes_kept_by : (old : State) (core : ℕ) (new : State) → AllByRecursion IsProcessSound old.processes
    → Adds old core new → AllByRecursion IsProcessSound new.processes
unfolding process_at
processes_kept_by old core new sound (inl stay) = subst (AllByRecursion IsProcessSound) (sym stay.processes) sound
processes_kept_by old core new sound (inr (inl (process, adds))) =
    subst (AllByRecursion IsProcessSound) (sym adds.processes)
    (all_set IsProcessSound old.processes process (registered_as adds.found adds.handler adds.stacks) sound
    (registered_sound adds.found adds.handler adds.stacks
    (all_at IsProcessSound old.processes process adds.found sound adds.there) adds.listed adds.some adds.few))
processes_kept_by old core new sound (inr (inr adds)) = subst (AllByRecursion IsProcessSound) (sym adds.processes) sound

-- by the line of the step
pub processes_kept : (old : State) (core : ℕ) (event : Event) (new : State) → AllByRecursion IsProcessSound old.processes
    → StepChanges old core event new → AllByRecursion IsProcessSound new.processes
processes_kept old core event new sound changes =
    processes_kept_by old core new sound (line_adds old core event new changes.rest)

-- a step keeps the number of processes
pub as_many_processes : (old : State) (core : ℕ) (new : State) → Adds old core new
    → length new.processes ≡ length old.processes
as_many_processes old core new (inl stay) = ap (λ list. length list) stay.processes
as_many_processes old core new (inr (inl (process, adds))) =
    ap (λ list. length list) adds.processes
    ∙ length-set old.processes process (registered_as adds.found adds.handler adds.stacks)
as_many_processes old core new (inr (inr adds)) = ap (λ list. length list) adds.processes

-- so there are no more than before
pub process_count_kept : (old : State) (core : ℕ) (event : Event) (new : State) → length old.processes ≤ 16
    → StepChanges old core event new → length new.processes ≤ 16
process_count_kept old core event new few changes =
    let same = as_many_processes old core new (line_adds old core event new changes.rest) in omega (arith, same, few)

set_registered : (list : List Process) (index : ℕ) (found value : Process) (process : ℕ) (registration : Registration)
    → slice_get list index ≡ Some found → found.registration ≡ None
    → registration_of (slice_get list process) ≡ Some registration
    → registration_of (slice_get (slice_set list index value) process) ≡ Some registration
set_registered list index found value process registration there none is = elim (cases_eq process index) [
  | inl same ↦ absurd (none_some found.registration registration none
      (ap registration_of (sym there) ∙ (ap (λ n. registration_of (slice_get list n)) (sym same) ∙ is)))
  | inr apart ↦ ap registration_of (set_other list index process value apart) ∙ is
]

-- a server stays what it told
pub registered_stays : (old : State) (core : ℕ) (new : State) → Adds old core new → (process : ℕ) (registration : Registration)
    → registration_at old process ≡ Some registration → registration_at new process ≡ Some registration
unfolding registration_at process_at
registered_stays old core new (inl stay) process registration is =
    ap (λ list. registration_of (slice_get list process)) stay.processes ∙ is
registered_stays old core new (inr (inl (one, adds))) process registration is =
    ap (λ list. registration_of (slice_get list process)) adds.processes
    ∙ set_registered old.processes one adds.found (registered_as adds.found adds.handler adds.stacks) process registration
    adds.there adds.none is
registered_stays old core new (inr (inr adds)) process registration is =
    ap (λ list. registration_of (slice_get list process)) adds.processes ∙ is

-- ---- key words

keys_kept_by : (old : State) (core : ℕ) (new : State) → AllByRecursion (λ key. key < 2 ^ 64) old.keys → Adds old core new
    → AllByRecursion (λ key. key < 2 ^ 64) new.keys
keys_kept_by old core new words (inl stay) = subst (AllByRecursion (λ key. key < 2 ^ 64)) (sym stay.keys) words
keys_kept_by old core new words (inr (inl (process, adds))) =
    subst (AllByRecursion (λ key. key < 2 ^ 64)) (sym adds.keys) words
keys_kept_by old core new words (inr (inr adds)) =
    let drawn : AllByRecursion (λ key. key < 2 ^ 64) (adds.binding.key ∷ new.keys) =
    subst (AllByRecursion (λ key. key < 2 ^ 64)) adds.key words in
    drawn.1

-- a step keeps key words
pub keys_kept : (old : State) (core : ℕ) (event : Event) (new : State) → AllByRecursion (λ key. key < 2 ^ 64) old.keys
    → StepChanges old core event new → AllByRecursion (λ key. key < 2 ^ 64) new.keys
keys_kept old core event new words changes = keys_kept_by old core new words (line_adds old core event new changes.rest)

-- ---- the start

images_sound : (images : List ProcessImage) → AllByRecursion IsImageSound images
    → AllByRecursion IsProcessSound (map start_process images)
images_sound [] sound = tt
images_sound (image ∷ images) sound = (
  record {
    starts = sound.0.starts;
    heap = sound.0.heap;
    registration = λ registration is. absurd (none_some None registration refl is);
  },
  images_sound images sound.1,
)

-- the processes of sound images are sound
pub processes_start : (images : List ProcessImage) (entries : List ThreadEntry) (free : ℕ) (keys : List ℕ)
    → AllByRecursion IsImageSound images → AllByRecursion IsProcessSound (start_state images entries free keys).processes
processes_start images entries free keys sound = images_sound images sound

-- a process for each image
pub images_counted : (images : List ProcessImage) (entries : List ThreadEntry) (free : ℕ) (keys : List ℕ)
    → length (start_state images entries free keys).processes ≡ length images
images_counted images entries free keys = length-map images start_process

-- there are as many processes as images
pub process_count_start : (images : List ProcessImage) (entries : List ThreadEntry) (free : ℕ) (keys : List ℕ)
    → length images ≤ 16 → length (start_state images entries free keys).processes ≤ 16
process_count_start images entries free keys few =
    let same = length-map images start_process in omega (arith, same, few)

-- the key words of the start are those that it is given
pub keys_start : (images : List ProcessImage) (entries : List ThreadEntry) (free : ℕ) (keys : List ℕ)
    → AllByRecursion (λ key. key < 2 ^ 64) keys
    → AllByRecursion (λ key. key < 2 ^ 64) (start_state images entries free keys).keys
keys_start images entries free keys words = words
