-- The record page of each view of each thread has its words: at the start, and after each step.
use Rattle.std.proofs.Common.{◌≡◌, ◌∙◌, sym, ap, subst, ℕ, suc, ◌+◌, ◌-◌, ◌*◌, ◌^◌, Bool, true, false, List, [], ◌∷◌, ◌++◌, ◌==◌, ◌&&◌, ◌||◌, length, refl, arith, inl, inr}
use Rattle.std.specs.Prelude.{Option, Some, None, is_some, slice_get, unwrap_or, if◌then◌else◌}
use Rattle.std.specs.Option.{option_map}
use Rattle.std.proofs.lemmas.Bool.{cases_eq, and_parts, eqb-true}
use Rattle.std.proofs.lemmas.Bool.Decides.{Decides-eqb}
use Rattle.std.specs.List.{AllByRecursion}
use Rattle.sb_memory.specs.declared.address.Access.TheVariants.{Write}
use Rattle.sb_tramp.specs.declared.record_words.RecordWords.{RecordWords}
use Rattle.sb_calls.specs.Views.{server_record}
use Rattle.sb_trace.specs.declared.event.Event.{Event}
use Rattle.sb_trace.specs.declared.event.Event.TheVariants.{Step as StepLine, Extra, Stray, Sys, Entered, Landing, Idle}
use Rattle.sb_state.specs.declared.page.Page.{Page}
use Rattle.sb_state.specs.declared.page.PageName.{PageName}
use Rattle.sb_state.specs.declared.page.PageName.TheVariants.{Text, Area, Data, Heap, Pool, Record}
use Rattle.sb_state.specs.declared.state.Binding.{Binding}
use Rattle.sb_state.specs.declared.state.Registration.{Registration}
use Rattle.sb_state.specs.declared.state.Thread.{Thread}
use Rattle.sb_state.specs.PageName.{mode_of, permits, same_name}
use Rattle.sb_state.specs.State.{State, find_page, thread_at, no_thread, registration_at, with_mode, page_with}
use Rattle.sb_state.specs.Windows.{process_now, process_shown}
use Rattle.sb_state.specs.Start.{ProcessImage, ThreadEntry, pages_from, padded_page, padded_pages, page_count, heap_page, heap_pages, process_pages, home_words, record_bytes, thread_pages, trampoline_pages, images_pages, threads_pages, start_thread, start_threads, start_state}
use Rattle.sb_trace.specs.KernelCall.{binding_with, handler_in, pool_word}
use Rattle.sb_trace.specs.SyscallRegister.{server_stack_page}
use Rattle.sb_trace.specs.SyscallBind.{binding_pages, server_words}
use Rattle.sb_trace.specs.Table.{is_there, has_view, is_in_table, ArePagesOfTable}
use Rattle.sb_trace.specs.Sound.{HasPage, HaveRecords, words_of_view, IsThreadSound, IsSound}
use Rattle.sb_trace.specs.Changes.{OnlyThread, OnlyPages, IsClosed, WritesOpen, AddsView, CallChanges, LineChanges, StepChanges, with_first_word}
use Rattle.sb_state.proofs.Cases.{clash, some_there, none_if}
use Rattle.sb_state.proofs.Modes.{mode_other}
use Rattle.sb_state.proofs.PageLists.{either, found_added, found_other}
use Rattle.sb_state.proofs.Start.{EachPage, found_each, each_both, each_from}
use Rattle.sb_trace.proofs.Beginning.{found_name}
use Rattle.sb_trace.proofs.CodePages.{seen_found}
use Rattle.sb_trace.proofs.NamedPages.{none_there}
use Rattle.sb_trace.proofs.ProcessFacts.{Adds, line_adds, registered_stays, all_at}
use Rattle.sb_trace.proofs.TableKept.{homes_stay, shown_stays, own_view, other_view, no_view_before}
use Rattle.sb_trace.proofs.TableStart.{start_there, view_there, got_thread}
use Rattle.sb_trace.proofs.Threads.{thread_other}

-- ---- record pages that are there stay

record_read : (number view : ℕ) (executable : Bool) → permits (mode_of (Record number view) executable) Write ≡ false
unfolding mode_of
record_read number view executable = refl

-- no thread may write a record page
record_closed : (state : State) (thread view number index : ℕ) → IsClosed state thread view (Record number index)
record_closed state thread view number index page seen is permitted same =
    let found = seen_found state thread view page seen is in
    let mode = found.2 ∙ ap (λ name. mode_of name found.0.executable) same in
    clash (permits seen.mode Write) permitted (ap (λ how. permits how Write) mode ∙ record_read number index found.0.executable)

word_keeps : (state : State) (server word number index : ℕ)
    → find_page (with_first_word state (Pool server) word) (Record number index) ≡ find_page state.pages (Record number index)
unfolding same_name
word_keeps state server word number index = found_other state.pages (Pool server) (Record number index) _ refl

mode_keeps : (pages : List Page) (process page number index : ℕ) (executable : Bool)
    → find_page (with_mode pages (Heap process page) executable) (Record number index) ≡ find_page pages (Record number index)
unfolding same_name
mode_keeps pages process page number index executable = mode_other pages (Heap process page) (Record number index) executable refl

-- a record page that is there stays as it is
abbrev pub Keeps : State → State → ℕ → ℕ → Type 0
Keeps old new number index = (page : Page) → find_page old.pages (Record number index) ≡ Some page
    → find_page new.pages (Record number index) ≡ Some page

same_pages : (old : State) (pages : List Page) (new : State) (number index : ℕ) → OnlyPages old pages new
    → find_page pages (Record number index) ≡ find_page old.pages (Record number index) → Keeps old new number index
same_pages old pages new number index only same page there =
    ap (λ (p : List Page). find_page p (Record number index)) only.become ∙ (same ∙ there)

-- a page that is there is found before added ones
added : (pages new : List Page) (name : PageName) (page : Page) → find_page pages name ≡ Some page
    → find_page (pages ++ new) name ≡ Some page
added pages new name page there = found_added pages new name ∙ ap (λ found. either found (find_page new name)) there

call_keeps : (old : State) (core call answer number index : ℕ) (new : State) → CallChanges old core call answer new
    → Keeps old new number index
call_keeps old core call answer number index new (inl (refused, only)) page there =
    same_pages old old.pages new number index only refl page there
call_keeps old core call answer number index new (inr (inl (done, two, home, adds))) page there =
    ap (λ (p : List Page). find_page p (Record number index)) adds.pages
    ∙ added (with_first_word old (Pool (thread_at old core).home) (2 ^ adds.stacks - 1))
    (pages_from (server_stack_page (thread_at old core).home) 0 (4 * adds.stacks)) (Record number index) page
    (word_keeps old (thread_at old core).home (2 ^ adds.stacks - 1) number index ∙ there)
call_keeps old core call answer number index new (inr (inr (inl (done, three, home, adds)))) page there =
    ap (λ (p : List Page). find_page p (Record number index)) adds.pages
    ∙ added old.pages
    (binding_pages core adds.binding.index
    (server_words core (thread_at old core) adds.binding adds.registration.handler)) (Record number index) page there
call_keeps old core call answer number index new (inr (inr (inr (done, four, changes)))) page there =
    same_pages old _ new number index changes.only
    (mode_keeps old.pages (process_now (thread_at old core)) changes.page number index changes.executable) page there

written_keeps : (old : State) (core view number index : ℕ) (new : State) → WritesOpen old core view new
    → Keeps old new number index
written_keeps old core view number index new writes page there =
    writes.closed (Record number index) (record_closed old core view number index) ∙ there

pub line_keeps : (old : State) (core number index : ℕ) (event : Event) (new : State) → LineChanges old core event new
    → Keeps old new number index
line_keeps old core number index (StepLine rip) new writes page there =
    written_keeps old core (thread_at old core).view number index new writes page there
line_keeps old core number index (Extra rip) new writes page there =
    written_keeps old core (thread_at old core).view number index new writes page there
line_keeps old core number index (Stray rip) new writes page there =
    written_keeps old core (thread_at old core).view number index new writes page there
line_keeps old core number index (Entered entered slot) new enters page there =
    same_pages old _ new number index enters.only
    (word_keeps old enters.server (pool_word old enters.server - 2 ^ slot) number index) page there
line_keeps old core number index (Sys call answer) new changes page there =
    call_keeps old core call answer number index new changes page there
line_keeps old core number index (Landing phase) new only page there =
    same_pages old old.pages new number index only.0 refl page there
line_keeps old core number index Idle new same page there =
    ap (λ (state : State). find_page state.pages (Record number index)) same ∙ there
line_keeps old core number index _ new only page there = same_pages old old.pages new number index only refl page there

-- ---- its words stay

-- where a thread has bindings it is one of the state's, and their servers are registered
served_by : (state : State) (found : Option Thread) (view : ℕ) (binding : Binding)
    → ((thread : Thread) → found ≡ Some thread → IsThreadSound state thread)
    → binding_with (unwrap_or found no_thread).bindings view ≡ Some binding
    → (registration : Registration) × (registration_at state binding.server ≡ Some registration)
unfolding no_thread
served_by state None view binding sound bound = absurd cc
served_by state (Some thread) view binding sound bound =
    let own = (sound thread refl).each view binding bound in (own.registration, own.registered)

served : (state : State) (number view : ℕ) (binding : Binding) → AllByRecursion (IsThreadSound state) state.threads
    → binding_with (thread_at state number).bindings view ≡ Some binding
    → (registration : Registration) × (registration_at state binding.server ≡ Some registration)
unfolding thread_at
served state number view binding sound bound =
    served_by state (slice_get state.threads number) view binding
    (λ thread there. all_at (IsThreadSound state) state.threads number thread sound there) bound

-- the words of a view stay where the home of the thread and what the server told stay
words_stay : (old new : State) (number : ℕ) (before after : Thread) (found : Option Binding) → after.home ≡ before.home
    → ((binding : Binding) → found ≡ Some binding
    → handler_in (registration_at new binding.server) ≡ handler_in (registration_at old binding.server))
    → words_of_view new number after found ≡ words_of_view old number before found
words_stay old new number before after None home told = ap (home_words number) home
words_stay old new number before after (Some binding) home told =
    ap (λ owner. server_record number owner binding.key (handler_in (registration_at new binding.server))) home
    ∙ ap (λ handler. server_record number before.home binding.key handler) (told binding refl)

some_shown : (found : Option ℕ) → is_some found ≡ true → (process : ℕ) × (found ≡ Some process)
some_shown None is = absurd cc
some_shown (Some process) is = (process, refl)

-- a view that was there has its words
view_kept : (old : State) (core : ℕ) (event : Event) (new : State) (number view : ℕ) → IsSound old
    → StepChanges old core event new → has_view old number view ≡ true
    → binding_with (thread_at new number).bindings view ≡ binding_with (thread_at old number).bindings view
    → HasPage new.pages (Record number view)
    (record_bytes (words_of_view new number (thread_at new number) (binding_with (thread_at new number).bindings view)))
view_kept old core event new number view sound changes shown same =
    let was = some_shown (process_shown old.threads number view) shown in
    let own = sound.records number view was.0 was.1 in
    let adds = line_adds old core event new changes.rest in
    let words : words_of_view new number (thread_at new number) (binding_with (thread_at old number).bindings view)
    ≡ words_of_view old number (thread_at old number) (binding_with (thread_at old number).bindings view) =
    words_stay old new number (thread_at old number) (thread_at new number) (binding_with (thread_at old number).bindings view)
    (homes_stay old core new number changes.thread)
    (λ binding bound.
    let told = served old number view binding sound.threads bound in
    ap handler_in (registered_stays old core new adds binding.server told.0 told.1) ∙ ap handler_in (sym told.1)) in (
      own.0,
      line_keeps old core number view event new changes.rest own.0 own.1,
      own.2
          ∙ ap record_bytes
          (sym words ∙ ap (λ found. words_of_view new number (thread_at new number) found) (sym same)),
    )

-- ---- the view that is added

behind_by : (test : Bool) (first : Binding) (found more : Option Binding) → more ≡ found
    → (if test then Some first else more) ≡ (if test then Some first else found)
behind_by true first found more same = refl
behind_by false first found more same = same

-- other indices are those of the bindings that they were
bound_away : (bindings : List Binding) (last : Binding) (index : ℕ) → (last.index == index) ≡ false
    → binding_with (bindings ++ last ∷ []) index ≡ binding_with bindings index
bound_away [] last index away = none_if (last.index == index) last away
bound_away (first ∷ bindings) last index away =
    behind_by (first.index == index) first (binding_with bindings index) (binding_with (bindings ++ last ∷ []) index)
    (bound_away bindings last index away)

last_by : (test : Bool) (first last : Binding) (found more : Option Binding) → (if test then Some first else found) ≡ None
    → (found ≡ None → more ≡ Some last)
    → (if test then Some first else more) ≡ Some last
last_by true first last found more is next = absurd cc
last_by false first last found more is next = next is

bound_last : (bindings : List Binding) (last : Binding) → binding_with bindings last.index ≡ None
    → binding_with (bindings ++ last ∷ []) last.index ≡ Some last
bound_last [] last is = let same : (last.index == last.index) ≡ true = (Decides-eqb last.index last.index).1 refl in rw same refl
bound_last (first ∷ bindings) last is =
    last_by (first.index == last.index) first last (binding_with bindings last.index)
    (binding_with (bindings ++ last ∷ []) last.index) is (λ more. bound_last bindings last more)

own_record : (thread index : ℕ) (words : RecordWords)
    → find_page (binding_pages thread index words) (Record thread index)
    ≡ Some (page_with (Record thread index) (record_bytes words))
unfolding binding_pages same_name
own_record thread index words =
    let first : (thread == thread) ≡ true = (Decides-eqb thread thread).1 refl in
    let second : (index == index) ≡ true = (Decides-eqb index index).1 refl in
    rw (first, second) refl

in_table : (state : State) (number view : ℕ) → ArePagesOfTable state
    → is_there state.pages (Record number view) ≡ has_view state number view
unfolding is_in_table
in_table state number view table = table.exactly (Record number view)

new_record : (old : State) (core : ℕ) (new : State) → ArePagesOfTable old → OnlyThread old core new
    → (adds : AddsView old core new)
    → HasPage new.pages (Record core adds.binding.index)
    (record_bytes (words_of_view new core (thread_at new core)
    (binding_with (thread_at new core).bindings adds.binding.index)))
unfolding registration_at
new_record old core new table only adds =
    let index : ℕ = adds.binding.index in
    let words = server_words core (thread_at old core) adds.binding adds.registration.handler in
    let none : find_page old.pages (Record core index) ≡ None =
    none_there (find_page old.pages (Record core index)) (in_table old core index table ∙ no_view_before old core new adds) in
    let bound : binding_with (thread_at new core).bindings index ≡ Some adds.binding =
    ap (λ list. binding_with list index) adds.bindings
    ∙ bound_last (thread_at old core).bindings adds.binding adds.index.free in
    let told : registration_at new adds.binding.server ≡ Some adds.registration =
    registered_stays old core new (inr (inr adds)) adds.binding.server adds.registration adds.registered in
    let same : words_of_view new core (thread_at new core) (Some adds.binding) ≡ words =
    ap (λ home. server_record core home adds.binding.key (handler_in (registration_at new adds.binding.server))) only.home
    ∙ ap (λ (one : Option Registration). server_record core (thread_at old core).home adds.binding.key (handler_in one)) told in (
      page_with (Record core index) (record_bytes words),
      ap (λ list. find_page list (Record core index)) adds.pages
          ∙ (found_added old.pages (binding_pages core index words) (Record core index)
          ∙ (ap (λ found. either found (find_page (binding_pages core index words) (Record core index))) none
          ∙ own_record core index words)),
      ap record_bytes
          (sym same ∙ ap (λ found. words_of_view new core (thread_at new core) found) (sym bound)),
    )

-- ---- by what is added

has_view_before : (before test : Bool) → test ≡ false → (before || test) ≡ true → before ≡ true
has_view_before true test away is = refl
has_view_before false test away is = absurd (clash test is away)

added_view : (test : Bool) (old : State) (core : ℕ) (event : Event) (new : State) (view : ℕ) → IsSound old
    → StepChanges old core event new → (adds : AddsView old core new) → (adds.binding.index == view) ≡ test
    → has_view new core view ≡ true
    → HasPage new.pages (Record core view)
    (record_bytes (words_of_view new core (thread_at new core) (binding_with (thread_at new core).bindings view)))
added_view true old core event new view sound changes adds is shown =
    subst (λ n. HasPage new.pages (Record core n)
    (record_bytes (words_of_view new core (thread_at new core) (binding_with (thread_at new core).bindings n))))
    (eqb-true adds.binding.index view is) (new_record old core new sound.table changes.thread adds)
added_view false old core event new view sound changes adds is shown =
    view_kept old core event new core view sound changes
    (has_view_before (has_view old core view) (adds.binding.index == view) is
    (sym (own_view old core new view changes.thread adds) ∙ shown))
    (ap (λ list. binding_with list view) adds.bindings ∙ bound_away (thread_at old core).bindings adds.binding view is)

records_by : (old : State) (core : ℕ) (event : Event) (new : State) (number view : ℕ) → IsSound old
    → StepChanges old core event new → Adds old core new → has_view new number view ≡ true
    → HasPage new.pages (Record number view)
    (record_bytes (words_of_view new number (thread_at new number) (binding_with (thread_at new number).bindings view)))
records_by old core event new number view sound changes (inl stay) shown =
    view_kept old core event new number view sound changes
    (ap is_some (sym (shown_stays old core new number view changes.thread stay.bindings)) ∙ shown)
    (ap (λ list. binding_with list view) (stay.bindings number))
records_by old core event new number view sound changes (inr (inl (process, adds))) shown =
    view_kept old core event new number view sound changes
    (ap is_some (sym (shown_stays old core new number view changes.thread adds.bindings)) ∙ shown)
    (ap (λ list. binding_with list view) (adds.bindings number))
records_by old core event new number view sound changes (inr (inr adds)) shown = elim (cases_eq number core) [
  | inl same ↦
      subst (λ n. HasPage new.pages (Record n view)
      (record_bytes (words_of_view new n (thread_at new n) (binding_with (thread_at new n).bindings view)))) (sym same)
      (added_view (adds.binding.index == view) old core event new view sound changes adds refl
      (subst (λ n. has_view new n view ≡ true) same shown))
  | inr apart ↦
      view_kept old core event new number view sound changes
      (sym (other_view old core new number view changes.thread apart) ∙ shown)
      (ap (λ thread. binding_with thread.bindings view) (thread_other old core new number changes.thread apart))
]

-- each step keeps the words of record pages
pub records_kept : (old : State) (core : ℕ) (event : Event) (new : State) → IsSound old → StepChanges old core event new
    → HaveRecords new
records_kept old core event new sound changes number view process shown =
    records_by old core event new number view sound changes (line_adds old core event new changes.rest) (ap is_some shown)

-- ---- the start

home_of : Option ThreadEntry → ℕ
home_of None = 0
home_of (Some entry) = entry.home

-- what the record page of a home view says at the start
abbrev IsFirst : List ThreadEntry → PageName → List ℕ → Type 0
IsFirst entries (Record thread view) bytes = bytes ≡ record_bytes (home_words thread (home_of (slice_get entries thread)))
IsFirst entries _ bytes = Unit {0}

abbrev IsFirstPage : List ThreadEntry → Page → Type 0
IsFirstPage entries page = IsFirst entries page.name page.bytes

process_first : (entries : List ThreadEntry) (process : ℕ) (image : ProcessImage)
    → EachPage (IsFirstPage entries) (process_pages process image)
unfolding process_pages
process_first entries process image =
    each_both (IsFirstPage entries) (padded_pages (Text process) 0xCC image.text) _
    (each_from (IsFirstPage entries) (padded_page (Text process) 0xCC image.text) 0 (page_count (length image.text)) (λ page. tt))
    (each_both (IsFirstPage entries) (padded_pages (Area process) 0xCC image.area) _
    (each_from (IsFirstPage entries) (padded_page (Area process) 0xCC image.area) 0 (page_count (length image.area)) (λ page. tt))
    (each_both (IsFirstPage entries) (padded_pages (Data process) 0 image.initial) _
    (each_from (IsFirstPage entries) (padded_page (Data process) 0 image.initial) 0 (page_count (length image.initial))
    (λ page. tt))
    (each_both (IsFirstPage entries) (heap_pages process image.heap_pages) _
    (each_from (IsFirstPage entries) (heap_page process) 0 image.heap_pages (λ page. tt)) (tt, tt))))

images_first : (entries : List ThreadEntry) (process : ℕ) (images : List ProcessImage)
    → EachPage (IsFirstPage entries) (images_pages process images)
images_first entries process [] = tt
images_first entries process (image ∷ images) =
    each_both (IsFirstPage entries) (process_pages process image) (images_pages (process + 1) images)
    (process_first entries process image) (images_first entries (process + 1) images)

thread_first : (entries : List ThreadEntry) (thread : ℕ) (entry : ThreadEntry) → slice_get entries thread ≡ Some entry
    → EachPage (IsFirstPage entries) (thread_pages thread entry.home)
unfolding thread_pages home_of
thread_first entries thread entry there =
    let words : record_bytes (home_words thread entry.home)
    ≡ record_bytes (home_words thread (home_of (slice_get entries thread))) =
    ap (λ found. record_bytes (home_words thread (home_of found))) (sym there) in
    (tt, (tt, (tt, (tt, (tt, (words, (tt, tt)))))))

-- the entries are those from this thread on
abbrev AreEntriesFrom : List ThreadEntry → ℕ → List ThreadEntry → Type 0
AreEntriesFrom all thread entries = (number : ℕ) → slice_get all (thread + number) ≡ slice_get entries number

threads_first : (all : List ThreadEntry) (thread : ℕ) (entries : List ThreadEntry) → AreEntriesFrom all thread entries
    → EachPage (IsFirstPage all) (threads_pages thread entries)
threads_first all thread [] same = tt
threads_first all thread (entry ∷ entries) same =
    each_both (IsFirstPage all) (thread_pages thread entry.home) (threads_pages (thread + 1) entries)
    (thread_first all thread entry (let here : thread + 0 ≡ thread = omega arith in
    subst (λ n. slice_get all n ≡ Some entry) here (same 0)))
    (threads_first all (thread + 1) entries
    (λ number. let next : thread + suc number ≡ thread + 1 + number = omega arith in
    subst (λ n. slice_get all n ≡ slice_get entries number) next (same (suc number))))

trampoline_first : (entries : List ThreadEntry) → EachPage (IsFirstPage entries) trampoline_pages
unfolding trampoline_pages
trampoline_first entries = (tt, (tt, tt))

pages_first : (images : List ProcessImage) (entries : List ThreadEntry)
    → EachPage (IsFirstPage entries) (images_pages 0 images ++ (threads_pages 0 entries ++ trampoline_pages))
pages_first images entries =
    each_both (IsFirstPage entries) (images_pages 0 images) (threads_pages 0 entries ++ trampoline_pages)
    (images_first entries 0 images)
    (each_both (IsFirstPage entries) (threads_pages 0 entries) trampoline_pages
    (threads_first entries 0 entries (λ number. let same : 0 + number ≡ number = omega arith in ap (slice_get entries) same))
    (trampoline_first entries))

-- a thread of the start has its home alone
start_words : (state : State) (number view : ℕ) (found : Option ThreadEntry) (thread : Option Thread)
    → thread ≡ option_map (start_thread (0 + number)) found → is_some found ≡ true
    → words_of_view state number (unwrap_or thread no_thread) (binding_with (unwrap_or thread no_thread).bindings view)
    ≡ home_words number (home_of found)
unfolding home_of
start_words state number view None thread is there = absurd cc
start_words state number view (Some entry) thread is there =
    ap (λ (one : Option Thread).
    words_of_view state number (unwrap_or one no_thread) (binding_with (unwrap_or one no_thread).bindings view)) is

-- at the start the record page of each view has its words
pub records_start : (images : List ProcessImage) (entries : List ThreadEntry) (free : ℕ) (keys : List ℕ)
    → HaveRecords (start_state images entries free keys)
unfolding thread_at
records_start images entries free keys number view process shown =
    let state : State = start_state images entries free keys in
    let own : (is_some (slice_get entries number) && (view == 0)) ≡ true =
    sym (view_there entries number view) ∙ ap is_some shown in
    let parts = and_parts (is_some (slice_get entries number)) (view == 0) own in
    let there = some_there (find_page state.pages (Record number view))
    (start_there images entries free keys number view ∙ ap is_some shown) in
    let first =
    found_each (IsFirstPage entries) state.pages (Record number view) there.0 (pages_first images entries) there.1 in (
      there.0,
      there.1,
      subst (λ name. IsFirst entries name there.0.bytes) (found_name state.pages (Record number view) there.0 there.1) first
          ∙ ap record_bytes
          (sym (start_words state number view (slice_get entries number) (slice_get (start_threads 0 entries) number)
          (got_thread entries 0 number) parts.0)),
    )
