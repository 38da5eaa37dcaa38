-- Threads, as a start has them and as a step keeps them: their homes, their registers and their bindings.
use Rattle.std.proofs.Common.{◌≡◌, ◌∙◌, sym, ap, subst, ℕ, zero, suc, ◌+◌, ◌*◌, ◌^◌, ◌<◌, ◌≤◌, ◌⊎◌, inl, inr, Bool, true, false, ◌==◌, List, [], ◌∷◌, ◌++◌, length, replicate, slice_set, refl, arith}
use Rattle.std.specs.Prelude.{Option, Some, None, slice_get, unwrap_or, if◌then◌else◌}
use Rattle.std.specs.List.{AllByRecursion}
use Rattle.std.proofs.lemmas.Bool.{cases_eq}
use Rattle.std.proofs.lemmas.Bool.Decides.{Decides-eqb}
use Rattle.std.proofs.lemmas.List.{length-set, length-replicate}
use Rattle.sb_abi.specs.declared.space.TheConstants.{STACKS_ADDRESS, THREAD_DISTANCE}
use Rattle.sb_exec.specs.Words.{AreWords}
use Rattle.sb_exec.proofs.RowWords.{set_word}
use Rattle.sb_abi.specs.declared.space.TheConstants.{STACKS_ADDRESS, THREAD_DISTANCE}
use Rattle.sb_state.specs.declared.state.Binding.{Binding}
use Rattle.sb_state.specs.declared.state.Thread.{Thread}
use Rattle.sb_state.specs.Bindings.{binding_with}
use Rattle.sb_state.specs.Start.{ProcessImage, ThreadEntry, start_registers, start_thread, start_threads, start_state}
use Rattle.sb_state.specs.State.{State, thread_at, no_thread}
use Rattle.sb_state.proofs.Start.{count_threads}
use Rattle.sb_state.proofs.Cases.{none_some, same_some, clash, none_if}
use Rattle.sb_trace.specs.declared.event.Event.{Event}
use Rattle.sb_trace.specs.Step.{Steps}
use Rattle.sb_trace.specs.Sound.{HaveOwnIndices, IsBindingSound, IsThreadSound, IsSound}
use Rattle.sb_trace.specs.Changes.{AddsView, StepChanges}
use Rattle.sb_trace.specs.Laws.{IsEntrySound}
use Rattle.sb_trace.proofs.ProcessFacts.{all_at, all_from, Adds, line_adds, as_many_processes, registered_stays, images_counted}
use Rattle.sb_trace.proofs.ThreadWords.{zero_word, words_of, words_kept}

-- ---- how many there are

-- a step keeps the number of threads
pub threads_few_kept : (old : State) (core : ℕ) (event : Event) (new : State) → length old.threads ≤ 32
    → StepChanges old core event new → length new.threads ≤ 32
threads_few_kept old core event new few changes = let same = changes.thread.count in omega (arith, same, few)

-- a thread for each entry
pub threads_few_start : (images : List ProcessImage) (entries : List ThreadEntry) (free : ℕ) (keys : List ℕ)
    → length entries ≤ 32 → length (start_state images entries free keys).threads ≤ 32
threads_few_start images entries free keys few = let same = count_threads 0 entries in omega (arith, same, few)

-- ---- bindings

added_by : (test : Bool) (first binding one : Binding) (found : Option Binding) (more : Option Binding)
    → (more ≡ Some one → (found ≡ Some one) ⊎ (one ≡ binding)) → (if test then Some first else more) ≡ Some one
    → ((if test then Some first else found) ≡ Some one) ⊎ (one ≡ binding)
added_by true first binding one found more rest is = inl is
added_by false first binding one found more rest is = rest is

last_by : (test : Bool) (binding one : Binding) → (if test then Some binding else None) ≡ Some one → one ≡ binding
last_by true binding one is = sym (same_some binding one is)
last_by false binding one is = absurd cc

-- a binding that is found among those and one more is found among those, or is the one
found_or_last : (bindings : List Binding) (binding one : Binding) (index : ℕ)
    → binding_with (bindings ++ binding ∷ []) index ≡ Some one
    → (binding_with bindings index ≡ Some one) ⊎ (one ≡ binding)
found_or_last [] binding one index is = inr (last_by (binding.index == index) binding one is)
found_or_last (first ∷ bindings) binding one index is =
    added_by (first.index == index) first binding one (binding_with bindings index)
    (binding_with (bindings ++ binding ∷ []) index) (found_or_last bindings binding one index) is

not_first : (test : Bool) (first : Binding) (found : Option Binding) → (if test then Some first else found) ≡ None
    → (test ≡ false) × (found ≡ None)
not_first true first found none = absurd cc
not_first false first found none = (refl, none)

rest_by : (test : Bool) (first : Binding) (found more : Option Binding) → (found ≡ None → more ≡ None)
    → (if test then Some first else found) ≡ None → (if test then Some first else more) ≡ None
rest_by true first found more rest none = absurd cc
rest_by false first found more rest none = rest none

-- an index that none has, and that the one more does not have, none has
none_or_last : (bindings : List Binding) (binding : Binding) (index : ℕ) → binding_with bindings index ≡ None
    → (binding.index == index) ≡ false → binding_with (bindings ++ binding ∷ []) index ≡ None
none_or_last [] binding index none apart = none_if (binding.index == index) binding apart
none_or_last (first ∷ bindings) binding index none apart =
    rest_by (first.index == index) first (binding_with bindings index) (binding_with (bindings ++ binding ∷ []) index)
    (λ rest. none_or_last bindings binding index rest apart) none

turned_by : (test : Bool) (first second : ℕ) → (second == first) ≡ test → (first == second) ≡ false → test ≡ false
turned_by true first second is apart =
    let same : second ≡ first = (Decides-eqb second first).0 is in
    absurd (clash (first == second) ((Decides-eqb first second).1 (sym same)) apart)
turned_by false first second is apart = refl

-- bindings with indices of their own, and one more of another index, have indices of their own
own_added : (bindings : List Binding) (binding : Binding) → HaveOwnIndices bindings
    → binding_with bindings binding.index ≡ None → HaveOwnIndices (bindings ++ binding ∷ [])
own_added [] binding own free = (refl, tt)
own_added (first ∷ bindings) binding own free =
    let parts = not_first (first.index == binding.index) first (binding_with bindings binding.index) free in (
      none_or_last bindings binding first.index own.0
          (turned_by (binding.index == first.index) first.index binding.index refl parts.0),
      own_added bindings binding own.1 parts.1,
    )

none_same : (binding one : Binding) (bindings : List Binding) (place : ℕ) → binding_with bindings binding.index ≡ None
    → slice_get bindings place ≡ Some one → (binding.index == one.index) ≡ false
none_same binding one [] place none there = absurd cc
none_same binding one (first ∷ bindings) zero none there =
    let same : first ≡ one = same_some first one there in
    let parts = not_first (first.index == binding.index) first (binding_with bindings binding.index) none in
    subst (λ (is : Binding). (binding.index == is.index) ≡ false) same
    (turned_by (binding.index == first.index) first.index binding.index refl parts.0)
none_same binding one (first ∷ bindings) (suc place) none there =
    none_same binding one bindings place
    (not_first (first.index == binding.index) first (binding_with bindings binding.index) none).1 there

own_by : (test : Bool) (first one : Binding) (found : Option Binding) → test ≡ false → found ≡ Some one
    → (if test then Some first else found) ≡ Some one
own_by true first one found apart is = absurd cc
own_by false first one found apart is = is

self_by : (test : Bool) (number : ℕ) (one : Binding) (found : Option Binding) → (number == number) ≡ test
    → (if test then Some one else found) ≡ Some one
self_by true number one found is = refl
self_by false number one found is = absurd (clash (number == number) ((Decides-eqb number number).1 refl) is)

-- a binding among those with indices of their own is the one of its index
pub found_by_index : (bindings : List Binding) (place : ℕ) (one : Binding) → HaveOwnIndices bindings
    → slice_get bindings place ≡ Some one → binding_with bindings one.index ≡ Some one
found_by_index [] place one own there = absurd cc
found_by_index (first ∷ bindings) zero one own there =
    subst (λ (is : Binding). binding_with (first ∷ bindings) is.index ≡ Some is) (same_some first one there)
    (self_by (first.index == first.index) first.index first (binding_with bindings first.index) refl)
found_by_index (first ∷ bindings) (suc place) one own there =
    own_by (first.index == one.index) first one (binding_with bindings one.index)
    (none_same first one bindings place own.0 there) (found_by_index bindings place one own.1 there)

-- ---- a binding stays sound

moved_binding : (old : State) (core : ℕ) (new : State) (before after : Thread) (one : Binding) → Adds old core new
    → after.home ≡ before.home → IsBindingSound old before one → IsBindingSound new after one
moved_binding old core new before after one adds home sound = record {
  least = sound.least;
  most = sound.most;
  key = sound.key;
  away = λ same. sound.away (same ∙ home);
  registration = sound.registration;
  registered = registered_stays old core new adds one.server sound.registration sound.registered;
}

new_binding_sound : (old : State) (core : ℕ) (new : State) (adds : AddsView old core new)
    → AllByRecursion (λ key. key < 2 ^ 64) old.keys → (thread_at new core).home ≡ (thread_at old core).home
    → IsBindingSound new (thread_at new core) adds.binding
new_binding_sound old core new adds keys home =
    let drawn : AllByRecursion (λ key. key < 2 ^ 64) (adds.binding.key ∷ new.keys) =
    subst (AllByRecursion (λ key. key < 2 ^ 64)) adds.key keys in
    record {
      least = adds.index.least;
      most = adds.index.most;
      key = drawn.0;
      away = λ same. adds.away (same ∙ home);
      registration = adds.registration;
      registered = registered_stays old core new (inr (inr adds)) adds.binding.server adds.registration adds.registered;
    }

-- each binding of a thread is sound
abbrev AreBindingsSound : State → Thread → List Binding → Type 0
AreBindingsSound state thread bindings = (index : ℕ) (one : Binding) → binding_with bindings index ≡ Some one
    → IsBindingSound state thread one

-- the bindings of the thread that makes the step are sound, and have indices of their own
bindings_kept : (old : State) (core : ℕ) (new : State) → Adds old core new → AllByRecursion (λ key. key < 2 ^ 64) old.keys
    → (thread_at new core).home ≡ (thread_at old core).home → IsThreadSound old (thread_at old core)
    → AreBindingsSound new (thread_at new core) (thread_at new core).bindings × HaveOwnIndices (thread_at new core).bindings
bindings_kept old core new (inl stay) keys home sound =
    subst (λ (list : List Binding). AreBindingsSound new (thread_at new core) list × HaveOwnIndices list)
    (sym (stay.bindings core)) (
      λ index one is.
          moved_binding old core new (thread_at old core) (thread_at new core) one (inl stay) home (sound.each index one is),
      sound.own,
    )
bindings_kept old core new (inr (inl (process, adds))) keys home sound =
    subst (λ (list : List Binding). AreBindingsSound new (thread_at new core) list × HaveOwnIndices list)
    (sym (adds.bindings core)) (
      λ index one is.
          moved_binding old core new (thread_at old core) (thread_at new core) one (inr (inl (process, adds))) home
          (sound.each index one is),
      sound.own,
    )
bindings_kept old core new (inr (inr adds)) keys home sound =
    subst (λ (list : List Binding). AreBindingsSound new (thread_at new core) list × HaveOwnIndices list) (sym adds.bindings) (
      λ index one is. elim (found_or_last (thread_at old core).bindings adds.binding one index is) [
        | inl before ↦ moved_binding old core new (thread_at old core) (thread_at new core) one (inr (inr adds)) home
            (sound.each index one before)
        | inr last ↦ subst (IsBindingSound new (thread_at new core)) (sym last)
            (new_binding_sound old core new adds keys home)
      ],
      own_added (thread_at old core).bindings adds.binding sound.own adds.index.free,
    )

-- ---- a thread stays sound

-- of the thread that makes the step
own_thread : (old : State) (core : ℕ) (new : State) → Adds old core new → AllByRecursion (λ key. key < 2 ^ 64) old.keys
    → (thread_at new core).home ≡ (thread_at old core).home → IsThreadSound old (thread_at old core)
    → AreWords (thread_at new core).regs → IsThreadSound new (thread_at new core)
own_thread old core new adds keys home sound words =
    let count = as_many_processes old core new adds in
    let within = sound.home in
    let bindings = bindings_kept old core new adds keys home sound in
    record { home = omega (arith, count, home, within); words = words; each = bindings.0; own = bindings.1 }

-- of another
other_thread : (old : State) (core : ℕ) (new : State) → Adds old core new → (thread : Thread) → IsThreadSound old thread
    → IsThreadSound new thread
other_thread old core new adds thread sound =
    let count = as_many_processes old core new adds in
    let within = sound.home in
    record {
      home = omega (arith, count, within);
      words = sound.words;
      each = λ index one is. moved_binding old core new thread thread one adds refl (sound.each index one is);
      own = sound.own;
    }

-- ---- threads by number

there_too : (list others : List Thread) (place : ℕ) (one : Thread) → length list ≡ length others
    → slice_get list place ≡ Some one → (other : Thread) × (slice_get others place ≡ Some other)
there_too [] others place one same there = absurd cc
there_too (first ∷ list) [] place one same there = absurd (omega (arith, same))
there_too (first ∷ list) (other ∷ others) zero one same there = (other, refl)
there_too (first ∷ list) (other ∷ others) (suc place) one same there =
    let fewer : length list ≡ length others = omega (arith, same) in there_too list others place one fewer there

within_list : (list : List Thread) (place : ℕ) (one : Thread) → slice_get list place ≡ Some one → place < length list
within_list [] place one there = absurd cc
within_list (first ∷ list) zero one there = omega arith
within_list (first ∷ list) (suc place) one there = let below = within_list list place one there in omega (arith, below)

thread_is : (state : State) (number : ℕ) (thread : Thread) → slice_get state.threads number ≡ Some thread
    → thread_at state number ≡ thread
unfolding thread_at
thread_is state number thread there = ap (λ found. unwrap_or found no_thread) there

-- the thread of a number, where it is there, is sound
pub thread_sound : (state : State) (number : ℕ) (thread : Thread) → AllByRecursion (IsThreadSound state) state.threads
    → slice_get state.threads number ≡ Some thread → IsThreadSound state (thread_at state number)
thread_sound state number thread sound there =
    subst (IsThreadSound state) (sym (thread_is state number thread there))
    (all_at (IsThreadSound state) state.threads number thread sound there)

core_kept : (old : State) (core : ℕ) (event : Event) (new : State) → IsSound old → Steps old core event new
    → StepChanges old core event new → (thread before : Thread) → slice_get new.threads core ≡ Some thread
    → slice_get old.threads core ≡ Some before → IsThreadSound new thread
core_kept old core event new sound steps changes thread before there was =
    let own = thread_sound old core before sound.threads was in
    let below = within_list old.threads core before was in
    let few = sound.few in
    let adds = line_adds old core event new changes.rest in
    let words = words_kept old core event new (words_of old core sound (omega (arith, below, few)) own.words) steps in
    subst (IsThreadSound new) (thread_is new core thread there)
    (own_thread old core new adds sound.keys changes.thread.home own words)

-- a step keeps threads sound
pub threads_kept : (old : State) (core : ℕ) (event : Event) (new : State) → IsSound old → Steps old core event new
    → StepChanges old core event new → AllByRecursion (IsThreadSound new) new.threads
threads_kept old core event new sound steps changes =
    all_from (IsThreadSound new) new.threads (λ number thread there. elim (cases_eq number core) [
      | inl same ↦
          let here : slice_get new.threads core ≡ Some thread = ap (λ n. slice_get new.threads n) (sym same) ∙ there in
          let was = there_too new.threads old.threads core thread changes.thread.count here in
          core_kept old core event new sound steps changes thread was.0 here was.1
      | inr apart ↦ other_thread old core new (line_adds old core event new changes.rest) thread
          (all_at (IsThreadSound old) old.threads number thread sound.threads
          (sym (changes.thread.threads number apart) ∙ there))
    ])

-- ---- the start

start_words : (number address : ℕ) → number < 32 → address < 2 ^ 64 → AreWords (start_registers number address)
unfolding start_registers
start_words number address few word =
    let top : STACKS_ADDRESS + (number + 1) * THREAD_DISTANCE < 2 ^ 64 = omega (arith, few) in
    let small : number < 2 ^ 64 = omega (arith, few) in
    record {
      sixteen = length-set (slice_set (replicate 16 0) 4 (STACKS_ADDRESS + (number + 1) * THREAD_DISTANCE)) 7 number
          ∙ (length-set (replicate 16 0) 4 (STACKS_ADDRESS + (number + 1) * THREAD_DISTANCE) ∙ length-replicate {A = ℕ} 16 0);
      words = set_word (slice_set (replicate 16 0) 4 (STACKS_ADDRESS + (number + 1) * THREAD_DISTANCE)) 7 number small
          (set_word (replicate 16 0) 4 (STACKS_ADDRESS + (number + 1) * THREAD_DISTANCE) top (zero_word 16));
      rip = word;
    }

started : (state : State) (count number : ℕ) (entry : ThreadEntry) → length state.processes ≡ count → number < 32
    → IsEntrySound count entry → IsThreadSound state (start_thread number entry)
started state count number entry counted few sound =
    let within = sound.0 in
    record {
      home = omega (arith, counted, within);
      words = start_words number entry.address few sound.1;
      each = λ index one is. absurd (none_some None one refl is);
      own = tt;
    }

entries_started : (state : State) (count first : ℕ) (entries : List ThreadEntry) → length state.processes ≡ count
    → first + length entries ≤ 32 → AllByRecursion (IsEntrySound count) entries
    → AllByRecursion (IsThreadSound state) (start_threads first entries)
entries_started state count first [] counted few sound = tt
entries_started state count first (entry ∷ entries) counted few sound =
    let more : first + 1 + length entries ≤ 32 = omega (arith, few) in (
      started state count first entry counted (omega (arith, few)) sound.0,
      entries_started state count (first + 1) entries counted more sound.1,
    )

-- the threads of sound entries are sound
pub threads_start : (images : List ProcessImage) (entries : List ThreadEntry) (free : ℕ) (keys : List ℕ)
    → AllByRecursion (IsEntrySound (length images)) entries → length entries ≤ 32
    → AllByRecursion (IsThreadSound (start_state images entries free keys)) (start_state images entries free keys).threads
threads_start images entries free keys sound few =
    let all : 0 + length entries ≤ 32 = omega (arith, few) in
    entries_started (start_state images entries free keys) (length images) 0 entries
    (images_counted images entries free keys) all sound
