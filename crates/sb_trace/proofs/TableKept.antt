-- Each step keeps the table of pages, and pages that it adds have new names.
use Rattle.std.proofs.Common.{◌≡◌, ◌≢◌, ◌∙◌, sym, ap, subst, ℕ, zero, suc, ◌-◌, ◌*◌, ◌^◌, ◌≤◌, Bool, true, false, List, [], ◌∷◌, ◌++◌, ◌==◌, ◌&&◌, ◌||◌, length, refl, arith, inl, inr}
use Rattle.std.specs.Prelude.{Option, Some, None, is_some, map, not, nat_lt, slice_get, slice_set, unwrap_or, if◌then◌else◌}
use Rattle.std.specs.Option.{option_map, option_and_then}
use Rattle.std.proofs.lemmas.Bool.{cases_eq, and_parts, ne_eqb, eqb-true, eqb-false}
use Rattle.std.proofs.lemmas.List.{length-set}
use Rattle.std.proofs.Math.Bool.{or-false, and-false, or_self}
use Rattle.sb_memory.specs.Words.{put_word}
use Rattle.sb_tramp.specs.declared.record_words.RecordWords.{RecordWords}
use Rattle.sb_trace.specs.declared.event.Event.{Event}
use Rattle.sb_trace.specs.declared.event.Event.TheVariants.{Step as StepLine, Extra, Stray, Sys, Entered, Landing, Idle}
use Rattle.sb_state.specs.declared.page.Page.{Page}
use Rattle.sb_state.specs.declared.page.PageName.{PageName}
use Rattle.sb_state.specs.declared.page.PageName.TheVariants.{Text, Area, Data, Heap, Pool, ServerStack, Save, Stack, Buffer, Record, Scratch, HomeTrampoline, ServerTrampoline}
use Rattle.sb_state.specs.declared.state.Binding.{Binding}
use Rattle.sb_state.specs.declared.state.Registration.{Registration}
use Rattle.sb_state.specs.declared.state.Thread.{Thread}
use Rattle.sb_state.specs.PageName.{same_name}
use Rattle.sb_state.specs.PageWords.{zeros}
use Rattle.sb_state.specs.State.{State, Process, contents, with_mode, page_with, thread_at, no_thread, process_at, registration_of, registration_at}
use Rattle.sb_state.specs.Bindings.{binding_with}
use Rattle.sb_state.specs.Windows.{server_of, process_of_view, process_shown, process_now}
use Rattle.sb_state.specs.Start.{pages_from, record_bytes}
use Rattle.sb_trace.specs.KernelCall.{pool_word}
use Rattle.sb_trace.specs.SyscallProtect.{heap_count}
use Rattle.sb_trace.specs.SyscallRegister.{server_stack_page}
use Rattle.sb_trace.specs.SyscallBind.{binding_pages, buffer_page, server_words}
use Rattle.sb_trace.specs.Table.{ImagePages, stacks_in, has_view, is_in_table, ArePagesOfTable}
use Rattle.sb_trace.specs.Changes.{OnlyThread, BindingsStay, OnlyPages, WritesOpen, AddsStacks, AddsView, CallChanges, LineChanges, StepChanges, page_name, with_first_word}
use Rattle.sb_state.proofs.PageLists.{replaced_changes, with_bytes, with_executable}
use Rattle.sb_state.proofs.Modes.{mode_changes}
use Rattle.sb_state.proofs.Start.{EachPage, each_from}
use Rattle.sb_state.proofs.Threads.{set_other}
use Rattle.sb_trace.proofs.Threads.{thread_other}
use Rattle.sb_trace.proofs.NamedPages.{same_there, same_own, changed_names, Hold, hold_as, hold_new, hold_both, hold_one, hold_from, is_below, below_none}
use Rattle.sb_trace.proofs.NameNumbers.{server_stack_place, server_stacks_numbered, buffer_place, buffers_numbered}
use Rattle.sb_trace.proofs.TableStart.{within}

-- ---- homes, and the processes that views show

pub homes_stay : (old : State) (core : ℕ) (new : State) (number : ℕ) → OnlyThread old core new
    → (thread_at new number).home ≡ (thread_at old number).home
homes_stay old core new number only = elim (cases_eq number core) [
  | inl same ↦ subst (λ n. (thread_at new n).home ≡ (thread_at old n).home) (sym same) only.home
  | inr apart ↦ ap (λ thread. thread.home) (thread_other old core new number only apart)
]

-- a thread is there as it was
there_stays : (old : State) (core : ℕ) (new : State) (number : ℕ) → OnlyThread old core new
    → is_some (slice_get new.threads number) ≡ is_some (slice_get old.threads number)
there_stays old core new number only =
    sym (within new.threads number) ∙ (ap (λ count. nat_lt number count) only.count ∙ within old.threads number)

abbrev view_in : ℕ → ℕ → List Binding → Option ℕ
view_in view home bindings = if view == 0 then Some home else server_of bindings view

shown_by : (view : ℕ) (found other : Option Thread) → is_some found ≡ is_some other
    → (unwrap_or found no_thread).home ≡ (unwrap_or other no_thread).home
    → (unwrap_or found no_thread).bindings ≡ (unwrap_or other no_thread).bindings
    → option_and_then (process_of_view view) found ≡ option_and_then (process_of_view view) other
shown_by view None None there home bindings = refl
shown_by view None (Some thread) there home bindings = absurd cc
shown_by view (Some thread) None there home bindings = absurd cc
shown_by view (Some thread) (Some other) there home bindings =
    ap (λ number. view_in view number thread.bindings) home ∙ ap (λ list. view_in view other.home list) bindings

-- a step that leaves bindings leaves what views show
pub shown_stays : (old : State) (core : ℕ) (new : State) (number view : ℕ) → OnlyThread old core new → BindingsStay old new
    → process_shown new.threads number view ≡ process_shown old.threads number view
unfolding process_shown thread_at
shown_stays old core new number view only bindings =
    shown_by view (slice_get new.threads number) (slice_get old.threads number) (there_stays old core new number only)
    (homes_stay old core new number only) (bindings number)

-- ---- what is added to a table

-- whether pages of this kind may be added
abbrev pub is_added : PageName → Bool
is_added (ServerStack process page) = true
is_added (Buffer thread view page) = true
is_added (Record thread view) = true
is_added (Scratch thread view) = true
is_added _ = false

-- these names are added: processes, threads and heaps are as many
pub record Grows (old new : State) (added : PageName → Bool) : Type 0 where
  pub processes : length new.processes ≡ length old.processes
  pub threads : length new.threads ≡ length old.threads
  pub heaps : (process : ℕ) → heap_count (process_at new process) ≡ heap_count (process_at old process)
  pub others : (name : PageName) → is_added name ≡ false → added name ≡ false
  pub stacks : (images : ℕ → ImagePages) (process page : ℕ)
      → (is_in_table images old (ServerStack process page) || added (ServerStack process page))
      ≡ is_in_table images new (ServerStack process page)
  pub buffers : (images : ℕ → ImagePages) (thread view page : ℕ)
      → (is_in_table images old (Buffer thread view page) || added (Buffer thread view page))
      ≡ is_in_table images new (Buffer thread view page)
  pub records : (thread view : ℕ) → (has_view old thread view || added (Record thread view)) ≡ has_view new thread view
  pub scratches : (thread view : ℕ) → (has_view old thread view || added (Scratch thread view)) ≡ has_view new thread view

not_added : (test added other : Bool) → added ≡ false → test ≡ other → (test || added) ≡ other
not_added test added other none same = rw none (or-false test ∙ same)

grown : (images : ℕ → ImagePages) (old new : State) (added : PageName → Bool) (name : PageName) → Grows old new added
    → (is_in_table images old name || added name) ≡ is_in_table images new name
unfolding is_in_table
grown images old new added (Text process page) grows =
    not_added _ _ _ (grows.others (Text process page) refl)
    (ap (λ count. nat_lt process count && nat_lt page (images process).text) (sym grows.processes))
grown images old new added (Area process page) grows =
    not_added _ _ _ (grows.others (Area process page) refl)
    (ap (λ count. nat_lt process count && nat_lt page (images process).area) (sym grows.processes))
grown images old new added (Data process page) grows =
    not_added _ _ _ (grows.others (Data process page) refl)
    (ap (λ count. nat_lt process count && nat_lt page (images process).initial) (sym grows.processes))
grown images old new added (Heap process page) grows =
    not_added _ _ _ (grows.others (Heap process page) refl) (ap (λ count. nat_lt page count) (sym (grows.heaps process)))
grown images old new added (Pool process) grows =
    not_added _ _ _ (grows.others (Pool process) refl) (ap (λ count. nat_lt process count) (sym grows.processes))
grown images old new added (ServerStack process page) grows = grows.stacks images process page
grown images old new added (Save thread) grows =
    not_added _ _ _ (grows.others (Save thread) refl) (ap (λ count. nat_lt thread count) (sym grows.threads))
grown images old new added (Stack thread page) grows =
    not_added _ _ _ (grows.others (Stack thread page) refl)
    (ap (λ count. nat_lt thread count && nat_lt page 4) (sym grows.threads))
grown images old new added (Buffer thread view page) grows = grows.buffers images thread view page
grown images old new added (Record thread view) grows = grows.records thread view
grown images old new added (Scratch thread view) grows = grows.scratches thread view
grown images old new added HomeTrampoline grows = refl
grown images old new added ServerTrampoline grows = refl

-- ---- nothing is added

grows_none : (old : State) (core : ℕ) (new : State) → OnlyThread old core new → BindingsStay old new
    → new.processes ≡ old.processes → Grows old new (λ name. false)
unfolding is_in_table process_at registration_at
grows_none old core new only bindings processes =
    let views : (thread view : ℕ) → has_view old thread view ≡ has_view new thread view =
    λ (thread view : ℕ). ap is_some (sym (shown_stays old core new thread view only bindings)) in
    record {
      processes = ap length processes;
      threads = only.count;
      heaps = λ process. ap (λ list. heap_count (slice_get list process)) processes;
      others = λ name other. refl;
      stacks = λ images process page.
          or-false _
          ∙ ap (λ list. nat_lt page (4 * stacks_in (registration_of (slice_get list process)))) (sym processes);
      buffers = λ images thread view page.
          or-false _ ∙ ap (λ (there : Bool). not (view == 0) && (there && nat_lt page 4)) (views thread view);
      records = λ thread view. or-false (has_view old thread view) ∙ views thread view;
      scratches = λ thread view. or-false (has_view old thread view) ∙ views thread view;
    }

-- a step after which the pages have the names that they had
same_kept : (old : State) (core : ℕ) (new : State) → OnlyThread old core new → BindingsStay old new
    → new.processes ≡ old.processes → map page_name new.pages ≡ map page_name old.pages → ArePagesOfTable old
    → ArePagesOfTable new
same_kept old core new only bindings processes names table = record {
  images = table.images;
  windows = table.windows;
  once = same_own new.pages old.pages names table.once;
  exactly = λ name. same_there new.pages old.pages name names
      ∙ (table.exactly name
      ∙ (sym (or-false (is_in_table table.images old name))
      ∙ grown table.images old new (λ name. false) name (grows_none old core new only bindings processes)));
}

only_kept : (old : State) (core : ℕ) (pages : List Page) (new : State) → OnlyThread old core new → OnlyPages old pages new
    → map page_name pages ≡ map page_name old.pages → ArePagesOfTable old → ArePagesOfTable new
only_kept old core pages new thread only names table =
    same_kept old core new thread only.bindings only.processes (ap (map page_name) only.become ∙ names) table

pub word_names : (state : State) (name : PageName) (word : ℕ)
    → map page_name (with_first_word state name word) ≡ map page_name state.pages
word_names state name word =
    let bytes = put_word (contents state name) 0 word in
    ap (map page_name) (replaced_changes state.pages name bytes)
    ∙ changed_names (with_bytes bytes) (λ page. refl) state.pages name

pub mode_names : (pages : List Page) (name : PageName) (executable : Bool)
    → map page_name (with_mode pages name executable) ≡ map page_name pages
mode_names pages name executable =
    ap (map page_name) (mode_changes pages name executable)
    ∙ changed_names (with_executable executable) (λ page. refl) pages name

-- ---- the stacks of a server are added

-- where an element was, the one that is set stands
set_got : {A : Type 0} (list : List A) (index : ℕ) (old value : A) → slice_get list index ≡ Some old
    → slice_get (slice_set list index value) index ≡ Some value
set_got [] index old value there = absurd cc
set_got (first ∷ list) zero old value there = refl
set_got (first ∷ list) (suc index) old value there = set_got list index old value there

abbrev server : Process → ℕ → ℕ → Process
server found handler stacks = record found { registration = Some (record { handler = handler; stacks = stacks }) }

abbrev stack_added : ℕ → ℕ → PageName → Bool
stack_added process count name = is_below count (server_stack_place process name)

no_other_stack : (process count : ℕ) (name : PageName) → is_added name ≡ false → stack_added process count name ≡ false
no_other_stack process count (ServerStack other page) is = absurd cc
no_other_stack process count _ is = refl

none_before : (process : ℕ) (found : Option Process) (one : Process) (page : ℕ) → found ≡ Some one → one.registration ≡ None
    → nat_lt page (4 * stacks_in (registration_of found)) ≡ false
none_before process found one page there none =
    ap (λ (other : Option Process). nat_lt page (4 * stacks_in (registration_of other))) there
    ∙ (ap (λ (told : Option Registration). nat_lt page (4 * stacks_in told)) none ∙ below_none page)

stacks_by : (test : Bool) (processes : List Process) (process other page handler stacks : ℕ) (found : Process)
    → (process == other) ≡ test → slice_get processes process ≡ Some found → found.registration ≡ None
    → (nat_lt page (4 * stacks_in (registration_of (slice_get processes other)))
    || is_below (4 * stacks) (if test then Some page else None))
    ≡ nat_lt page (4 * stacks_in (registration_of (slice_get (slice_set processes process (server found handler stacks)) other)))
stacks_by true processes process other page handler stacks found is there none =
    let same : process ≡ other = eqb-true process other is in
    subst (λ (n : ℕ). (nat_lt page (4 * stacks_in (registration_of (slice_get processes n))) || nat_lt page (4 * stacks))
    ≡ nat_lt page (4 * stacks_in (registration_of (slice_get (slice_set processes process (server found handler stacks)) n))))
    same
    (ap (λ (test : Bool). test || nat_lt page (4 * stacks))
    (none_before process (slice_get processes process) found page there none)
    ∙ ap (λ (one : Option Process). nat_lt page (4 * stacks_in (registration_of one)))
    (sym (set_got processes process found (server found handler stacks) there)))
stacks_by false processes process other page handler stacks found is there none =
    or-false _
    ∙ ap (λ (one : Option Process). nat_lt page (4 * stacks_in (registration_of one)))
    (sym (set_other processes process other (server found handler stacks) (λ same. eqb-false process other is (sym same))))

heaps_by : (processes : List Process) (process other handler stacks : ℕ) (found : Process)
    → slice_get processes process ≡ Some found
    → heap_count (slice_get (slice_set processes process (server found handler stacks)) other)
    ≡ heap_count (slice_get processes other)
heaps_by processes process other handler stacks found there = elim (cases_eq other process) [
  | inl same ↦
      subst (λ n. heap_count (slice_get (slice_set processes process (server found handler stacks)) n)
      ≡ heap_count (slice_get processes n)) (sym same)
      (ap heap_count (set_got processes process found (server found handler stacks) there) ∙ ap heap_count (sym there))
  | inr apart ↦ ap heap_count (set_other processes process other (server found handler stacks) apart)
]

grows_stacks : (old : State) (core process : ℕ) (new : State) → OnlyThread old core new → (adds : AddsStacks old process new)
    → Grows old new (stack_added process (4 * adds.stacks))
unfolding is_in_table process_at registration_at
grows_stacks old core process new only adds =
    let views : (thread view : ℕ) → has_view old thread view ≡ has_view new thread view =
    λ (thread view : ℕ). ap is_some (sym (shown_stays old core new thread view only adds.bindings)) in
    record {
      processes = ap length adds.processes
          ∙ length-set old.processes process (server adds.found adds.handler adds.stacks);
      threads = only.count;
      heaps = λ other. ap (λ list. heap_count (slice_get list other)) adds.processes
          ∙ heaps_by old.processes process other adds.handler adds.stacks adds.found adds.there;
      others = no_other_stack process (4 * adds.stacks);
      stacks = λ images other page.
          stacks_by (process == other) old.processes process other page adds.handler adds.stacks adds.found refl adds.there
          adds.none
          ∙ ap (λ list. nat_lt page (4 * stacks_in (registration_of (slice_get list other)))) (sym adds.processes);
      buffers = λ images thread view page.
          or-false _ ∙ ap (λ (there : Bool). not (view == 0) && (there && nat_lt page 4)) (views thread view);
      records = λ thread view. or-false (has_view old thread view) ∙ views thread view;
      scratches = λ thread view. or-false (has_view old thread view) ∙ views thread view;
    }

no_stack_before : (images : ℕ → ImagePages) (old : State) (process page : ℕ) (new : State) → AddsStacks old process new
    → is_in_table images old (ServerStack process page) ≡ false
unfolding is_in_table process_at registration_at
no_stack_before images old process page new adds =
    none_before process (slice_get old.processes process) adds.found page adds.there adds.none

-- the pages of a table, with names that a test adds
pub record Grown (old : State) (new : State) (first second : List Page) : Type 0 where
  pub pages : new.pages ≡ first ++ second
  pub names : map page_name first ≡ map page_name old.pages
  pub added : PageName → Bool
  pub grows : Grows old new added
  pub held : Hold second added
  pub fresh : (images : ℕ → ImagePages) → EachPage (λ page. is_in_table images old page.name ≡ false) second

pub grown_held : (old new : State) (first second : List Page) (table : ArePagesOfTable old) → Grown old new first second
    → Hold (first ++ second) (is_in_table table.images new)
grown_held old new first second table grown_by =
    hold_as (first ++ second) (λ name. is_in_table table.images old name || grown_by.added name)
    (is_in_table table.images new)
    (hold_new first second (is_in_table table.images old) grown_by.added
    (record {
      once = same_own first old.pages grown_by.names table.once;
      exactly = λ name. same_there first old.pages name grown_by.names ∙ table.exactly name;
    }) grown_by.held (grown_by.fresh table.images))
    (λ name. grown table.images old new grown_by.added name grown_by.grows)

grown_kept : (old new : State) (first second : List Page) → Grown old new first second → ArePagesOfTable old → ArePagesOfTable new
grown_kept old new first second grown_by table =
    let held = subst (λ pages. Hold pages (is_in_table table.images new)) (sym grown_by.pages)
    (grown_held old new first second table grown_by) in
    record { images = table.images; windows = table.windows; once = held.once; exactly = held.exactly }

pub stacks_grown : (old : State) (core process : ℕ) (new : State) → OnlyThread old core new → (adds : AddsStacks old process new)
    → Grown old new (with_first_word old (Pool process) (2 ^ adds.stacks - 1))
    (pages_from (server_stack_page process) 0 (4 * adds.stacks))
stacks_grown old core process new only adds = record {
  pages = adds.pages;
  names = word_names old (Pool process) (2 ^ adds.stacks - 1);
  added = stack_added process (4 * adds.stacks);
  grows = grows_stacks old core process new only adds;
  held = hold_from (server_stack_page process) (server_stack_place process) (4 * adds.stacks) (server_stacks_numbered process);
  fresh = λ images. each_from (λ page. is_in_table images old page.name ≡ false) (server_stack_page process) 0
      (4 * adds.stacks) (λ page. no_stack_before images old process page new adds);
}

-- ---- the pages of a view are added

abbrev view_added : ℕ → ℕ → PageName → Bool
view_added thread index name =
    same_name (Record thread index) name || (same_name (Scratch thread index) name || is_below 4 (buffer_place thread index name))

no_other_view : (thread index : ℕ) (name : PageName) → is_added name ≡ false → view_added thread index name ≡ false
unfolding same_name
no_other_view thread index (ServerStack process page) is = absurd cc
no_other_view thread index (Buffer other view page) is = absurd cc
no_other_view thread index (Record other view) is = absurd cc
no_other_view thread index (Scratch other view) is = absurd cc
no_other_view thread index _ is = refl

view_held : (thread index : ℕ) (words : RecordWords) → Hold (binding_pages thread index words) (view_added thread index)
unfolding binding_pages same_name
view_held thread index words =
    hold_both (page_with (Record thread index) (record_bytes words) ∷ [])
    (page_with (Scratch thread index) zeros ∷ pages_from (buffer_page thread index) 0 4)
    (λ name. same_name (Record thread index) name)
    (λ name. same_name (Scratch thread index) name || is_below 4 (buffer_place thread index name))
    (hold_one (page_with (Record thread index) (record_bytes words)))
    (hold_both (page_with (Scratch thread index) zeros ∷ []) (pages_from (buffer_page thread index) 0 4)
    (λ name. same_name (Scratch thread index) name) (λ name. is_below 4 (buffer_place thread index name))
    (hold_one (page_with (Scratch thread index) zeros))
    (hold_from (buffer_page thread index) (buffer_place thread index) 4 (buffers_numbered thread index)) (refl, tt))
    (refl, tt)

behind_by : (test : Bool) (first : Binding) (found more : Option Binding) (last : Bool) → is_some more ≡ (is_some found || last)
    → is_some (if test then Some first else more) ≡ (is_some (if test then Some first else found) || last)
behind_by true first found more last same = refl
behind_by false first found more last same = same

one_bound : (test : Bool) (last : Binding) → is_some (if test then Some last else None) ≡ test
one_bound true last = refl
one_bound false last = refl

-- an index is that of a binding of the longer list where it was, or is that of the last
bound_behind : (bindings : List Binding) (last : Binding) (index : ℕ)
    → is_some (binding_with (bindings ++ last ∷ []) index) ≡ (is_some (binding_with bindings index) || (last.index == index))
bound_behind [] last index = one_bound (last.index == index) last
bound_behind (first ∷ bindings) last index =
    behind_by (first.index == index) first (binding_with bindings index) (binding_with (bindings ++ last ∷ []) index)
    (last.index == index) (bound_behind bindings last index)

some_server : (found : Option Binding) → is_some (option_map (λ (binding : Binding). binding.server) found) ≡ is_some found
some_server None = refl
some_server (Some binding) = refl

served : (bindings : List Binding) (index : ℕ) → is_some (server_of bindings index) ≡ is_some (binding_with bindings index)
served bindings index = some_server (binding_with bindings index)

own_view_by : (home_view : Bool) (home view : ℕ) (bindings : List Binding) (last : Binding)
    → is_some (if home_view then Some home else server_of (bindings ++ last ∷ []) view)
    ≡ (is_some (if home_view then Some home else server_of bindings view) || (last.index == view))
own_view_by true home view bindings last = refl
own_view_by false home view bindings last =
    served (bindings ++ last ∷ []) view
    ∙ (bound_behind bindings last view ∙ ap (λ (test : Bool). test || (last.index == view)) (sym (served bindings view)))

thread_got : (found : Option Thread) (one : Thread) → is_some found ≡ is_some (Some one)
    → found ≡ Some (unwrap_or found no_thread)
thread_got None one there = absurd cc
thread_got (Some thread) one there = refl

pub own_view : (old : State) (core : ℕ) (new : State) (view : ℕ) → OnlyThread old core new → (adds : AddsView old core new)
    → has_view new core view ≡ (has_view old core view || (adds.binding.index == view))
unfolding process_shown thread_at
own_view old core new view only adds =
    let there : slice_get new.threads core ≡ Some (unwrap_or (slice_get new.threads core) no_thread) =
    thread_got (slice_get new.threads core) (thread_at old core) (there_stays old core new core only ∙ ap is_some adds.there) in
    ap (λ found. is_some (option_and_then (process_of_view view) found)) there
    ∙ (ap (λ home. is_some (view_in view home (thread_at new core).bindings)) only.home
    ∙ (ap (λ list. is_some (view_in view (thread_at old core).home list)) adds.bindings
    ∙ (own_view_by (view == 0) (thread_at old core).home view (thread_at old core).bindings adds.binding
    ∙ ap (λ found. is_some (option_and_then (process_of_view view) found) || (adds.binding.index == view)) (sym adds.there))))

pub other_view : (old : State) (core : ℕ) (new : State) (thread view : ℕ) → OnlyThread old core new → thread ≢ core
    → has_view new thread view ≡ has_view old thread view
unfolding process_shown
other_view old core new thread view only apart =
    ap (λ found. is_some (option_and_then (process_of_view view) found)) (only.threads thread apart)

views_by : (test : Bool) (old : State) (core : ℕ) (new : State) (thread view : ℕ) → (core == thread) ≡ test
    → OnlyThread old core new → (adds : AddsView old core new)
    → (has_view old thread view || (test && (adds.binding.index == view))) ≡ has_view new thread view
views_by true old core new thread view is only adds =
    subst (λ n. (has_view old n view || (adds.binding.index == view)) ≡ has_view new n view) (eqb-true core thread is)
    (sym (own_view old core new view only adds))
views_by false old core new thread view is only adds =
    or-false (has_view old thread view)
    ∙ sym (other_view old core new thread view only (λ same. eqb-false core thread is (sym same)))

buffer_by : (home before added : Bool) (page : ℕ) → (added ≡ true → home ≡ false)
    → ((not home && (before && nat_lt page 4)) || is_below 4 (if added then Some page else None))
    ≡ (not home && ((before || added) && nat_lt page 4))
buffer_by true before true page away = absurd (let clash : true ≡ false = away refl in cc)
buffer_by true before false page away = refl
buffer_by false true true page away = or_self (nat_lt page 4)
buffer_by false false true page away = refl
buffer_by false true false page away = or-false (nat_lt page 4)
buffer_by false false false page away = refl

not_home : (same : Bool) (index view : ℕ) → 1 ≤ index → (same && (index == view)) ≡ true → (view == 0) ≡ false
not_home same index view least is =
    let at : index ≡ view = eqb-true index view (and_parts same (index == view) is).1 in
    ne_eqb view 0 (λ zero. omega (arith, least, at, zero))

grows_view : (old : State) (core : ℕ) (new : State) → OnlyThread old core new → (adds : AddsView old core new)
    → Grows old new (view_added core adds.binding.index)
unfolding is_in_table process_at registration_at same_name
grows_view old core new only adds =
    let index : ℕ = adds.binding.index in
    let views : (thread view : ℕ)
    → (has_view old thread view || ((core == thread) && (index == view))) ≡ has_view new thread view =
    λ (thread view : ℕ). views_by (core == thread) old core new thread view refl only adds in
    record {
      processes = ap length adds.processes;
      threads = only.count;
      heaps = λ process. ap (λ list. heap_count (slice_get list process)) adds.processes;
      others = no_other_view core index;
      stacks = λ images process page.
          or-false _
          ∙ ap (λ list. nat_lt page (4 * stacks_in (registration_of (slice_get list process)))) (sym adds.processes);
      buffers = λ images thread view page.
          buffer_by (view == 0) (has_view old thread view) ((core == thread) && (index == view)) page
          (not_home (core == thread) index view adds.index.least)
          ∙ ap (λ (there : Bool). not (view == 0) && (there && nat_lt page 4)) (views thread view);
      records = λ thread view.
          ap (λ (test : Bool). has_view old thread view || test) (or-false ((core == thread) && (index == view)))
          ∙ views thread view;
      scratches = λ thread view.
          ap (λ (test : Bool). has_view old thread view || test) (or-false ((core == thread) && (index == view)))
          ∙ views thread view;
    }

unbound_by : (home_view : Bool) (home view : ℕ) (bindings : List Binding) → home_view ≡ false → binding_with bindings view ≡ None
    → is_some (if home_view then Some home else server_of bindings view) ≡ false
unbound_by true home view bindings away none = absurd cc
unbound_by false home view bindings away none = served bindings view ∙ ap is_some none

-- the view that is added was not there
pub no_view_before : (old : State) (core : ℕ) (new : State) (adds : AddsView old core new)
    → has_view old core adds.binding.index ≡ false
unfolding process_shown
no_view_before old core new adds =
    let least = adds.index.least in
    ap (λ found. is_some (option_and_then (process_of_view adds.binding.index) found)) adds.there
    ∙ unbound_by (adds.binding.index == 0) (thread_at old core).home adds.binding.index (thread_at old core).bindings
    (ne_eqb adds.binding.index 0 (λ zero. omega (arith, least, zero))) adds.index.free

no_buffer_before : (images : ℕ → ImagePages) (old : State) (core index page : ℕ) → has_view old core index ≡ false
    → is_in_table images old (Buffer core index page) ≡ false
unfolding is_in_table
no_buffer_before images old core index page none =
    ap (λ (there : Bool). not (index == 0) && (there && nat_lt page 4)) none ∙ and-false (not (index == 0))

view_fresh : (images : ℕ → ImagePages) (old : State) (core index : ℕ) (words : RecordWords) → has_view old core index ≡ false
    → EachPage (λ page. is_in_table images old page.name ≡ false) (binding_pages core index words)
unfolding binding_pages is_in_table
view_fresh images old core index words none = (
  none,
  (
    none,
    each_from (λ page. is_in_table images old page.name ≡ false) (buffer_page core index) 0 4
        (λ page. no_buffer_before images old core index page none),
  ),
)

pub view_grown : (old : State) (core : ℕ) (new : State) → OnlyThread old core new → (adds : AddsView old core new)
    → Grown old new old.pages
    (binding_pages core adds.binding.index (server_words core (thread_at old core) adds.binding adds.registration.handler))
view_grown old core new only adds = record {
  pages = adds.pages;
  names = refl;
  added = view_added core adds.binding.index;
  grows = grows_view old core new only adds;
  held = view_held core adds.binding.index
      (server_words core (thread_at old core) adds.binding adds.registration.handler);
  fresh = λ images. view_fresh images old core adds.binding.index
      (server_words core (thread_at old core) adds.binding adds.registration.handler) (no_view_before old core new adds);
}

-- ---- by line

call_kept : (old : State) (core number answer : ℕ) (new : State) → OnlyThread old core new
    → CallChanges old core number answer new → ArePagesOfTable old → ArePagesOfTable new
call_kept old core number answer new thread (inl (refused, only)) table = only_kept old core old.pages new thread only refl table
call_kept old core number answer new thread (inr (inl (done, call, home, adds))) table =
    grown_kept old new _ _ (stacks_grown old core (thread_at old core).home new thread adds) table
call_kept old core number answer new thread (inr (inr (inl (done, call, home, adds)))) table =
    grown_kept old new _ _ (view_grown old core new thread adds) table
call_kept old core number answer new thread (inr (inr (inr (done, call, changes)))) table =
    only_kept old core _ new thread changes.only
    (mode_names old.pages (Heap (process_now (thread_at old core)) changes.page) changes.executable) table

written_kept : (old : State) (core view : ℕ) (new : State) → OnlyThread old core new → WritesOpen old core view new
    → ArePagesOfTable old → ArePagesOfTable new
written_kept old core view new thread writes table =
    same_kept old core new thread writes.bindings writes.processes writes.names table

line_kept : (old : State) (core : ℕ) (event : Event) (new : State) → OnlyThread old core new → LineChanges old core event new
    → ArePagesOfTable old → ArePagesOfTable new
line_kept old core (StepLine rip) new thread writes table =
    written_kept old core (thread_at old core).view new thread writes table
line_kept old core (Extra rip) new thread writes table =
    written_kept old core (thread_at old core).view new thread writes table
line_kept old core (Stray rip) new thread writes table =
    written_kept old core (thread_at old core).view new thread writes table
line_kept old core (Entered index slot) new thread enters table =
    only_kept old core _ new thread enters.only
    (word_names old (Pool enters.server) (pool_word old enters.server - 2 ^ slot)) table
line_kept old core (Sys number answer) new thread changes table = call_kept old core number answer new thread changes table
line_kept old core (Landing phase) new thread only table = only_kept old core old.pages new thread only.0 refl table
line_kept old core Idle new thread same table = subst ArePagesOfTable (sym same) table
line_kept old core _ new thread only table = only_kept old core old.pages new thread only refl table

-- each step keeps the table
pub table_kept : (old : State) (core : ℕ) (event : Event) (new : State) → ArePagesOfTable old → StepChanges old core event new
    → ArePagesOfTable new
table_kept old core event new table changes = line_kept old core event new changes.thread changes.rest table
