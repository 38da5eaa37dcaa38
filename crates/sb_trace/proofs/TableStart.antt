-- The pages of the start are those of the table, each once.
use Rattle.std.proofs.Common.{◌≡◌, ◌∙◌, sym, ap, subst, ℕ, zero, suc, ◌+◌, ◌*◌, ◌<◌, ◌≤◌, Bool, true, false, List, [], ◌∷◌, ◌++◌, ◌==◌, ◌&&◌, ◌||◌, length, refl, arith}
use Rattle.std.specs.Prelude.{Option, Some, None, is_some, map, not, nat_lt, slice_get, if◌then◌else◌}
use Rattle.std.specs.Option.{option_map, option_and_then}
use Rattle.std.specs.List.{AllByRecursion}
use Rattle.std.proofs.lemmas.Bool.{ne_eqb}
use Rattle.std.proofs.lemmas.Bool.Decides.{Decides-eqb, Decides-ltb}
use Rattle.std.proofs.Math.Bool.{or-false, and-false, and-true}
use Rattle.sb_state.specs.declared.page.PageName.{PageName}
use Rattle.sb_state.specs.declared.page.PageName.TheVariants.{Text, Area, Data, Heap, Pool, ServerStack, Save, Stack, Buffer, Record, Scratch, HomeTrampoline, ServerTrampoline}
use Rattle.sb_state.specs.declared.page.Page.{Page}
use Rattle.sb_state.specs.PageName.{same_name}
use Rattle.sb_state.specs.PageWords.{zeros}
use Rattle.sb_state.specs.State.{find_page, page_with, process_at, registration_of, registration_at}
use Rattle.sb_state.specs.Windows.{process_of_view, process_shown}
use Rattle.sb_state.specs.Start.{ProcessImage, ThreadEntry, padded_page, page_count, padded_pages, heap_page, heap_pages, process_pages, home_words, record_bytes, thread_pages, trampoline_pages, images_pages, threads_pages, start_thread, start_threads, start_process, start_state}
use Rattle.sb_tramp.specs.Home.{home_page}
use Rattle.sb_tramp.specs.Server.{server_page}
use Rattle.sb_trace.specs.Table.{ImagePages, FitWindows, stacks_in, is_in_table, ArePagesOfTable}
use Rattle.sb_trace.specs.SyscallProtect.{heap_count}
use Rattle.sb_trace.specs.Laws.{IsImageSound}
use Rattle.sb_state.proofs.Start.{EachPage, each_both, each_from}
use Rattle.sb_state.proofs.Cases.{same_tests}
use Rattle.sb_trace.proofs.NamedPages.{Hold, hold_as, hold_both, hold_one, hold_from, is_below, below_none, less_same}
use Rattle.sb_trace.proofs.NameNumbers.{text_place, area_place, data_place, heap_place, stack_place, texts_numbered, areas_numbered, data_numbered, heaps_numbered, stack_page, stacks_numbered}

-- ---- names of numbered processes and threads

-- the number of the process or thread of a name
abbrev number_of : PageName → ℕ
number_of (Text process page) = process
number_of (Area process page) = process
number_of (Data process page) = process
number_of (Heap process page) = process
number_of (Pool process) = process
number_of (ServerStack process page) = process
number_of (Save thread) = thread
number_of (Stack thread page) = thread
number_of (Buffer thread view page) = thread
number_of (Record thread view) = thread
number_of (Scratch thread view) = thread
number_of HomeTrampoline = 0
number_of ServerTrampoline = 0

-- whether a name is that of a page of one of a list, which is numbered from a first number on
abbrev numbered : {A : Type 0} → (A → PageName → Bool) → ℕ → List A → PageName → Bool
numbered held first [] name = false
numbered held first (one ∷ list) name = ((first == number_of name) && held one name) || numbered held (first + 1) list name

abbrev held_by : {A : Type 0} → (A → PageName → Bool) → Option A → PageName → Bool
held_by held None name = false
held_by held (Some one) name = held one name

not_before : {A : Type 0} (held : A → PageName → Bool) (first : ℕ) (list : List A) (name : PageName) → number_of name < first
    → numbered held first list name ≡ false
not_before held first [] name below = refl
not_before held first (one ∷ list) name below =
    let apart : (first == number_of name) ≡ false = ne_eqb first (number_of name) (λ same. omega (arith, same, below)) in
    rw apart (not_before held (first + 1) list name (omega (arith, below)))

-- the one of the number of the name says whether it is
numbered_at : {A : Type 0} (held : A → PageName → Bool) (list : List A) (first place : ℕ) (name : PageName)
    → number_of name ≡ first + place → numbered held first list name ≡ held_by held (slice_get list place) name
numbered_at held [] first place name is = refl
numbered_at held (one ∷ list) first zero name is =
    let same : (first == number_of name) ≡ true = (Decides-eqb first (number_of name)).1 (omega (arith, is)) in
    rw (same, not_before held (first + 1) list name (omega (arith, is))) (or-false (held one name))
numbered_at held (one ∷ list) first (suc place) name is =
    let apart : (first == number_of name) ≡ false = ne_eqb first (number_of name) (λ same. omega (arith, same, is)) in
    rw apart (numbered_at held list (first + 1) place name (omega (arith, is)))

-- what none holds is held by none of the list
none_of : {A : Type 0} (held : A → PageName → Bool) (first : ℕ) (list : List A) (name : PageName)
    → ((one : A) → held one name ≡ false)
    → numbered held first list name ≡ false
none_of held first [] name none = refl
none_of held first (one ∷ list) name none =
    rw (none one, and-false (first == number_of name)) (none_of held (first + 1) list name none)

-- ---- a process

-- whether an image has a page of this name
abbrev in_image : ProcessImage → PageName → Bool
in_image image (Text process page) = nat_lt page (page_count (length image.text))
in_image image (Area process page) = nat_lt page (page_count (length image.area))
in_image image (Data process page) = nat_lt page (page_count (length image.initial))
in_image image (Heap process page) = nat_lt page image.heap_pages
in_image image (Pool process) = true
in_image image _ = false

below_if : (test : Bool) (count page : ℕ) → is_below count (if test then Some page else None) ≡ (test && nat_lt page count)
below_if true count page = refl
below_if false count page = refl

last_below : (test : Bool) (count page : ℕ)
    → (is_below count (if test then Some page else None) || false) ≡ (test && nat_lt page count)
last_below test count page = or-false (is_below count (if test then Some page else None)) ∙ below_if test count page

abbrev pool_page : ℕ → Page
pool_page process = page_with (Pool process) zeros

-- the pages of a process from its heap on, from its data on, and from its rewrite area on, and their names
abbrev from_heap : ℕ → ProcessImage → List Page
from_heap process image = heap_pages process image.heap_pages ++ pool_page process ∷ []

abbrev from_data : ℕ → ProcessImage → List Page
from_data process image = padded_pages (Data process) 0 image.initial ++ from_heap process image

abbrev from_area : ℕ → ProcessImage → List Page
from_area process image = padded_pages (Area process) 0xCC image.area ++ from_data process image

abbrev in_heap : ℕ → ProcessImage → PageName → Bool
in_heap process image name = is_below image.heap_pages (heap_place process name) || same_name (Pool process) name

abbrev in_data : ℕ → ProcessImage → PageName → Bool
in_data process image name = is_below (page_count (length image.initial)) (data_place process name) || in_heap process image name

abbrev in_area : ℕ → ProcessImage → PageName → Bool
in_area process image name = is_below (page_count (length image.area)) (area_place process name) || in_data process image name

abbrev in_text : ℕ → ProcessImage → PageName → Bool
in_text process image name = is_below (page_count (length image.text)) (text_place process name) || in_area process image name

heap_held : (process : ℕ) (image : ProcessImage) → Hold (from_heap process image) (in_heap process image)
unfolding same_name
heap_held process image =
    hold_both (heap_pages process image.heap_pages) (pool_page process ∷ [])
    (λ name. is_below image.heap_pages (heap_place process name)) (λ name. same_name (Pool process) name)
    (hold_from (heap_page process) (heap_place process) image.heap_pages (heaps_numbered process)) (hold_one (pool_page process))
    (each_from (λ page. same_name (Pool process) page.name ≡ false) (heap_page process) 0 image.heap_pages (λ number. refl))

data_held : (process : ℕ) (image : ProcessImage) → Hold (from_data process image) (in_data process image)
unfolding same_name
data_held process image =
    let count = page_count (length image.initial) in
    hold_both (padded_pages (Data process) 0 image.initial) (from_heap process image)
    (λ name. is_below count (data_place process name)) (in_heap process image)
    (hold_from (padded_page (Data process) 0 image.initial) (data_place process) count (data_numbered process 0 image.initial))
    (heap_held process image)
    (each_from (λ page. in_heap process image page.name ≡ false) (padded_page (Data process) 0 image.initial) 0 count
    (λ number. refl))

area_held : (process : ℕ) (image : ProcessImage) → Hold (from_area process image) (in_area process image)
unfolding same_name
area_held process image =
    let count = page_count (length image.area) in
    hold_both (padded_pages (Area process) 0xCC image.area) (from_data process image)
    (λ name. is_below count (area_place process name)) (in_data process image)
    (hold_from (padded_page (Area process) 0xCC image.area) (area_place process) count (areas_numbered process 0xCC image.area))
    (data_held process image)
    (each_from (λ page. in_data process image page.name ≡ false) (padded_page (Area process) 0xCC image.area) 0 count
    (λ number. refl))

process_names : (process : ℕ) (image : ProcessImage) (name : PageName)
    → in_text process image name ≡ ((process == number_of name) && in_image image name)
unfolding same_name
process_names process image (Text other page) = last_below (process == other) (page_count (length image.text)) page
process_names process image (Area other page) = last_below (process == other) (page_count (length image.area)) page
process_names process image (Data other page) = last_below (process == other) (page_count (length image.initial)) page
process_names process image (Heap other page) = last_below (process == other) image.heap_pages page
process_names process image (Pool other) = sym (and-true (process == other))
process_names process image (ServerStack other page) = sym (and-false (process == other))
process_names process image (Save other) = sym (and-false (process == other))
process_names process image (Stack other page) = sym (and-false (process == other))
process_names process image (Buffer other view page) = sym (and-false (process == other))
process_names process image (Record other view) = sym (and-false (process == other))
process_names process image (Scratch other view) = sym (and-false (process == other))
process_names process image HomeTrampoline = sym (and-false (process == 0))
process_names process image ServerTrampoline = sym (and-false (process == 0))

process_held : (process : ℕ) (image : ProcessImage)
    → Hold (process_pages process image) (λ name. (process == number_of name) && in_image image name)
unfolding process_pages same_name
process_held process image =
    let count = page_count (length image.text) in
    hold_as (process_pages process image) (in_text process image) (λ name. (process == number_of name) && in_image image name)
    (hold_both (padded_pages (Text process) 0xCC image.text) (from_area process image)
    (λ name. is_below count (text_place process name)) (in_area process image)
    (hold_from (padded_page (Text process) 0xCC image.text) (text_place process) count (texts_numbered process 0xCC image.text))
    (area_held process image)
    (each_from (λ page. in_area process image page.name ≡ false) (padded_page (Text process) 0xCC image.text) 0 count
    (λ number. refl)))
    (process_names process image)

-- a test that no name of a process's pages passes
record IsOfNoProcess (test : PageName → Bool) (process : ℕ) : Type 0 where
  text : (page : ℕ) → test (Text process page) ≡ false
  area : (page : ℕ) → test (Area process page) ≡ false
  initial : (page : ℕ) → test (Data process page) ≡ false
  heap : (page : ℕ) → test (Heap process page) ≡ false
  pool : test (Pool process) ≡ false

process_apart : (test : PageName → Bool) (process : ℕ) (image : ProcessImage) → IsOfNoProcess test process
    → EachPage (λ page. test page.name ≡ false) (process_pages process image)
unfolding process_pages
process_apart test process image none =
    each_both (λ page. test page.name ≡ false) (padded_pages (Text process) 0xCC image.text) _
    (each_from (λ page. test page.name ≡ false) (padded_page (Text process) 0xCC image.text) 0
    (page_count (length image.text)) none.text)
    (each_both (λ page. test page.name ≡ false) (padded_pages (Area process) 0xCC image.area) _
    (each_from (λ page. test page.name ≡ false) (padded_page (Area process) 0xCC image.area) 0
    (page_count (length image.area)) none.area)
    (each_both (λ page. test page.name ≡ false) (padded_pages (Data process) 0 image.initial) _
    (each_from (λ page. test page.name ≡ false) (padded_page (Data process) 0 image.initial) 0
    (page_count (length image.initial)) none.initial)
    (each_both (λ page. test page.name ≡ false) (heap_pages process image.heap_pages) (pool_page process ∷ [])
    (each_from (λ page. test page.name ≡ false) (heap_page process) 0 image.heap_pages none.heap)
    (none.pool, tt))))

later_apart : (process : ℕ) (images : List ProcessImage) → IsOfNoProcess (numbered in_image (process + 1) images) process
later_apart process images = record {
  text = λ page. not_before in_image (process + 1) images (Text process page) (omega arith);
  area = λ page. not_before in_image (process + 1) images (Area process page) (omega arith);
  initial = λ page. not_before in_image (process + 1) images (Data process page) (omega arith);
  heap = λ page. not_before in_image (process + 1) images (Heap process page) (omega arith);
  pool = not_before in_image (process + 1) images (Pool process) (omega arith);
}

images_held : (process : ℕ) (images : List ProcessImage) → Hold (images_pages process images) (numbered in_image process images)
images_held process [] = record { once = tt; exactly = λ name. refl }
images_held process (image ∷ images) =
    hold_both (process_pages process image) (images_pages (process + 1) images)
    (λ name. (process == number_of name) && in_image image name) (numbered in_image (process + 1) images)
    (process_held process image) (images_held (process + 1) images)
    (process_apart (numbered in_image (process + 1) images) process image (later_apart process images))

images_apart : (test : PageName → Bool) (first : ℕ) (images : List ProcessImage) → ((process : ℕ) → IsOfNoProcess test process)
    → EachPage (λ page. test page.name ≡ false) (images_pages first images)
images_apart test first [] none = tt
images_apart test first (image ∷ images) none =
    each_both (λ page. test page.name ≡ false) (process_pages first image) (images_pages (first + 1) images)
    (process_apart test first image (none first)) (images_apart test (first + 1) images none)

-- ---- a thread

-- whether a thread at the start has a page of this name
abbrev in_entry : ThreadEntry → PageName → Bool
in_entry entry (Save thread) = true
in_entry entry (Stack thread page) = nat_lt page 4
in_entry entry (Record thread view) = 0 == view
in_entry entry (Scratch thread view) = 0 == view
in_entry entry _ = false

thread_names : (thread : ℕ) (entry : ThreadEntry) (name : PageName)
    → (same_name (Save thread) name || (is_below 4 (stack_place thread name) || (same_name (Record thread 0) name || same_name
    (Scratch thread 0) name)))
    ≡ ((thread == number_of name) && in_entry entry name)
unfolding same_name
thread_names thread entry (Text other page) = sym (and-false (thread == other))
thread_names thread entry (Area other page) = sym (and-false (thread == other))
thread_names thread entry (Data other page) = sym (and-false (thread == other))
thread_names thread entry (Heap other page) = sym (and-false (thread == other))
thread_names thread entry (Pool other) = sym (and-false (thread == other))
thread_names thread entry (ServerStack other page) = sym (and-false (thread == other))
thread_names thread entry (Save other) = or-false (thread == other) ∙ sym (and-true (thread == other))
thread_names thread entry (Stack other page) = last_below (thread == other) 4 page
thread_names thread entry (Buffer other view page) = sym (and-false (thread == other))
thread_names thread entry (Record other view) = or-false ((thread == other) && (0 == view))
thread_names thread entry (Scratch other view) = refl
thread_names thread entry HomeTrampoline = sym (and-false (thread == 0))
thread_names thread entry ServerTrampoline = sym (and-false (thread == 0))

abbrev home_record : ℕ → ℕ → Page
home_record thread home = page_with (Record thread 0) (record_bytes (home_words thread home))

thread_held : (thread : ℕ) (entry : ThreadEntry)
    → Hold (thread_pages thread entry.home) (λ name. (thread == number_of name) && in_entry entry name)
unfolding thread_pages same_name
thread_held thread entry =
    let views = hold_both (home_record thread entry.home ∷ []) (page_with (Scratch thread 0) zeros ∷ [])
    (λ name. same_name (Record thread 0) name) (λ name. same_name (Scratch thread 0) name)
    (hold_one (home_record thread entry.home)) (hold_one (page_with (Scratch thread 0) zeros)) (refl, tt) in
    let stacks = hold_both (stack_page thread 0 ∷ stack_page thread 1 ∷ stack_page thread 2 ∷ stack_page thread 3 ∷ [])
    (home_record thread entry.home ∷ page_with (Scratch thread 0) zeros ∷ [])
    (λ name. is_below 4 (stack_place thread name)) (λ name. same_name (Record thread 0) name || same_name (Scratch thread 0) name)
    (hold_from (stack_page thread) (stack_place thread) 4 (stacks_numbered thread)) views
    (refl, (refl, (refl, (refl, tt)))) in
    let save = hold_both (page_with (Save thread) zeros ∷ [])
    (stack_page thread 0 ∷ stack_page thread 1 ∷ stack_page thread 2 ∷ stack_page thread 3 ∷ home_record thread entry.home ∷
    page_with (Scratch thread 0) zeros ∷ [])
    (λ name. same_name (Save thread) name)
    (λ name. is_below 4 (stack_place thread name) || (same_name (Record thread 0) name || same_name (Scratch thread 0) name))
    (hold_one (page_with (Save thread) zeros)) stacks (refl, tt) in
    hold_as (thread_pages thread entry.home) _ (λ name. (thread == number_of name) && in_entry entry name) save
    (thread_names thread entry)

-- a test that no name of a thread's pages passes
record IsOfNoThread (test : PageName → Bool) (thread : ℕ) : Type 0 where
  save : test (Save thread) ≡ false
  stack : (page : ℕ) → test (Stack thread page) ≡ false
  words : test (Record thread 0) ≡ false
  scratch : test (Scratch thread 0) ≡ false

thread_apart : (test : PageName → Bool) (thread home : ℕ) → IsOfNoThread test thread
    → EachPage (λ page. test page.name ≡ false) (thread_pages thread home)
unfolding thread_pages
thread_apart test thread home none =
    (none.save, (none.stack 0, (none.stack 1, (none.stack 2, (none.stack 3, (none.words, (none.scratch, tt)))))))

entries_after : (thread : ℕ) (entries : List ThreadEntry) → IsOfNoThread (numbered in_entry (thread + 1) entries) thread
entries_after thread entries = record {
  save = not_before in_entry (thread + 1) entries (Save thread) (omega arith);
  stack = λ page. not_before in_entry (thread + 1) entries (Stack thread page) (omega arith);
  words = not_before in_entry (thread + 1) entries (Record thread 0) (omega arith);
  scratch = not_before in_entry (thread + 1) entries (Scratch thread 0) (omega arith);
}

threads_held : (thread : ℕ) (entries : List ThreadEntry) → Hold (threads_pages thread entries) (numbered in_entry thread entries)
threads_held thread [] = record { once = tt; exactly = λ name. refl }
threads_held thread (entry ∷ entries) =
    hold_both (thread_pages thread entry.home) (threads_pages (thread + 1) entries)
    (λ name. (thread == number_of name) && in_entry entry name) (numbered in_entry (thread + 1) entries)
    (thread_held thread entry) (threads_held (thread + 1) entries)
    (thread_apart (numbered in_entry (thread + 1) entries) thread entry.home (entries_after thread entries))

threads_apart : (test : PageName → Bool) (first : ℕ) (entries : List ThreadEntry) → ((thread : ℕ) → IsOfNoThread test thread)
    → EachPage (λ page. test page.name ≡ false) (threads_pages first entries)
threads_apart test first [] none = tt
threads_apart test first (entry ∷ entries) none =
    each_both (λ page. test page.name ≡ false) (thread_pages first entry.home) (threads_pages (first + 1) entries)
    (thread_apart test first entry.home (none first)) (threads_apart test (first + 1) entries none)

-- ---- all pages

abbrev is_trampoline : PageName → Bool
is_trampoline HomeTrampoline = true
is_trampoline ServerTrampoline = true
is_trampoline _ = false

trampoline_names : (name : PageName) → (same_name HomeTrampoline name || same_name ServerTrampoline name) ≡ is_trampoline name
unfolding same_name
trampoline_names HomeTrampoline = refl
trampoline_names ServerTrampoline = refl
trampoline_names _ = refl

trampoline_held : Hold trampoline_pages is_trampoline
unfolding trampoline_pages same_name
trampoline_held =
    hold_as trampoline_pages _ is_trampoline
    (hold_both (page_with HomeTrampoline home_page ∷ []) (page_with ServerTrampoline server_page ∷ [])
    (λ name. same_name HomeTrampoline name) (λ name. same_name ServerTrampoline name)
    (hold_one (page_with HomeTrampoline home_page)) (hold_one (page_with ServerTrampoline server_page)) (refl, tt))
    trampoline_names

abbrev in_start : List ProcessImage → List ThreadEntry → PageName → Bool
in_start images entries name = numbered in_image 0 images name || (numbered in_entry 0 entries name || is_trampoline name)

behind_none : (entries : List ThreadEntry) (name : PageName) → ((entry : ThreadEntry) → in_entry entry name ≡ false)
    → is_trampoline name ≡ false → (numbered in_entry 0 entries name || is_trampoline name) ≡ false
behind_none entries name none apart = rw (none_of in_entry 0 entries name none) apart

behind_process : (entries : List ThreadEntry) (process : ℕ)
    → IsOfNoProcess (λ name. numbered in_entry 0 entries name || is_trampoline name) process
behind_process entries process = record {
  text = λ page. behind_none entries (Text process page) (λ entry. refl) refl;
  area = λ page. behind_none entries (Area process page) (λ entry. refl) refl;
  initial = λ page. behind_none entries (Data process page) (λ entry. refl) refl;
  heap = λ page. behind_none entries (Heap process page) (λ entry. refl) refl;
  pool = behind_none entries (Pool process) (λ entry. refl) refl;
}

start_held : (images : List ProcessImage) (entries : List ThreadEntry)
    → Hold (images_pages 0 images ++ (threads_pages 0 entries ++ trampoline_pages)) (in_start images entries)
start_held images entries =
    hold_both (images_pages 0 images) (threads_pages 0 entries ++ trampoline_pages) (numbered in_image 0 images)
    (λ name. numbered in_entry 0 entries name || is_trampoline name)
    (images_held 0 images)
    (hold_both (threads_pages 0 entries) trampoline_pages (numbered in_entry 0 entries) is_trampoline (threads_held 0 entries)
    trampoline_held
    (threads_apart is_trampoline 0 entries
    (λ thread. record { save = refl; stack = λ page. refl; words = refl; scratch = refl })))
    (images_apart (λ name. numbered in_entry 0 entries name || is_trampoline name) 0 images (behind_process entries))

-- ---- the table

abbrev pages_of : Option ProcessImage → ImagePages
pages_of None = record { text = 0; area = 0; initial = 0 }
pages_of (Some image) = record {
  text = page_count (length image.text);
  area = page_count (length image.area);
  initial = page_count (length image.initial);
}

-- the numbers of pages of the images
abbrev pub image_pages : List ProcessImage → ℕ → ImagePages
image_pages images process = pages_of (slice_get images process)

-- a number is below the length of a list where the list has an element of that number
pub within : {A : Type 0} (list : List A) (place : ℕ) → nat_lt place (length list) ≡ is_some (slice_get list place)
within [] place = below_none place
within (one ∷ list) zero = (Decides-ltb 0 (suc (length list))).1 (omega arith)
within (one ∷ list) (suc place) =
    less_same (suc place) (suc (length list)) place (length list) (λ less. omega (arith, less)) (λ less. omega (arith, less))
    ∙ within list place

got_process : (images : List ProcessImage) (process : ℕ)
    → slice_get (map start_process images) process ≡ option_map start_process (slice_get images process)
got_process [] process = refl
got_process (image ∷ images) zero = refl
got_process (image ∷ images) (suc process) = got_process images process

pub got_thread : (entries : List ThreadEntry) (first thread : ℕ)
    → slice_get (start_threads first entries) thread ≡ option_map (start_thread (first + thread)) (slice_get entries thread)
got_thread [] first thread = refl
got_thread (entry ∷ entries) first zero =
    let same : first + 0 ≡ first = omega arith in
    ap (λ (number : ℕ). Some (start_thread number entry)) (sym same)
got_thread (entry ∷ entries) first (suc thread) =
    let same : first + 1 + thread ≡ first + suc thread = omega arith in
    subst (λ (number : ℕ). slice_get (start_threads (first + 1) entries) thread
    ≡ option_map (start_thread number) (slice_get entries thread)) same (got_thread entries (first + 1) thread)

some_map : {A B : Type 0} (change : A → B) (found : Option A) → is_some (option_map change found) ≡ is_some found
some_map change None = refl
some_map change (Some one) = refl

process_there : (images : List ProcessImage) (process : ℕ)
    → nat_lt process (length (map start_process images)) ≡ is_some (slice_get images process)
process_there images process =
    within (map start_process images) process ∙ (ap is_some (got_process images process)
    ∙ some_map start_process (slice_get images process))

thread_there : (entries : List ThreadEntry) (thread : ℕ)
    → nat_lt thread (length (start_threads 0 entries)) ≡ is_some (slice_get entries thread)
thread_there entries thread =
    within (start_threads 0 entries) thread ∙ (ap is_some (got_thread entries 0 thread)
    ∙ some_map (start_thread (0 + thread)) (slice_get entries thread))

home_alone : (test : Bool) (home : ℕ) → is_some (if test then Some home else None) ≡ test
home_alone true home = refl
home_alone false home = refl

view_by : (found : Option ThreadEntry) (number view : ℕ)
    → is_some (option_and_then (process_of_view view) (option_map (start_thread number) found)) ≡ (is_some found && (view == 0))
view_by None number view = refl
view_by (Some entry) number view = home_alone (view == 0) entry.home

-- at the start, the threads have their home views alone
pub view_there : (entries : List ThreadEntry) (thread view : ℕ)
    → is_some (process_shown (start_threads 0 entries) thread view) ≡ (is_some (slice_get entries thread) && (view == 0))
unfolding process_shown
view_there entries thread view =
    ap (λ found. is_some (option_and_then (process_of_view view) found)) (got_thread entries 0 thread)
    ∙ view_by (slice_get entries thread) (0 + thread) view

-- ---- the table, kind by kind

of_image : (images : List ProcessImage) (entries : List ThreadEntry) (name : PageName)
    → ((entry : ThreadEntry) → in_entry entry name ≡ false) → is_trampoline name ≡ false
    → in_start images entries name ≡ held_by in_image (slice_get images (number_of name)) name
of_image images entries name none apart =
    rw (behind_none entries name none apart)
    (or-false (numbered in_image 0 images name) ∙ numbered_at in_image images 0 (number_of name) name (omega arith))

of_entry : (images : List ProcessImage) (entries : List ThreadEntry) (name : PageName)
    → ((image : ProcessImage) → in_image image name ≡ false) → is_trampoline name ≡ false
    → in_start images entries name ≡ held_by in_entry (slice_get entries (number_of name)) name
of_entry images entries name none apart =
    rw (none_of in_image 0 images name none, apart)
    (or-false (numbered in_entry 0 entries name) ∙ numbered_at in_entry entries 0 (number_of name) name (omega arith))

text_by : (found : Option ProcessImage) (process page : ℕ)
    → held_by in_image found (Text process page) ≡ (is_some found && nat_lt page (pages_of found).text)
text_by None process page = refl
text_by (Some image) process page = refl

area_by : (found : Option ProcessImage) (process page : ℕ)
    → held_by in_image found (Area process page) ≡ (is_some found && nat_lt page (pages_of found).area)
area_by None process page = refl
area_by (Some image) process page = refl

data_by : (found : Option ProcessImage) (process page : ℕ)
    → held_by in_image found (Data process page) ≡ (is_some found && nat_lt page (pages_of found).initial)
data_by None process page = refl
data_by (Some image) process page = refl

heap_by : (found : Option ProcessImage) (process page : ℕ)
    → held_by in_image found (Heap process page) ≡ nat_lt page (heap_count (option_map start_process found))
heap_by None process page = sym (below_none page)
heap_by (Some image) process page = refl

pool_by : (found : Option ProcessImage) (process : ℕ) → held_by in_image found (Pool process) ≡ is_some found
pool_by None process = refl
pool_by (Some image) process = refl

no_stack_by : (found : Option ProcessImage) (page : ℕ)
    → nat_lt page (4 * stacks_in (registration_of (option_map start_process found))) ≡ false
no_stack_by None page = below_none page
no_stack_by (Some image) page = below_none page

no_image : (found : Option ProcessImage) (process page : ℕ) → held_by in_image found (ServerStack process page) ≡ false
no_image None process page = refl
no_image (Some image) process page = refl

save_by : (found : Option ThreadEntry) (thread : ℕ) → held_by in_entry found (Save thread) ≡ is_some found
save_by None thread = refl
save_by (Some entry) thread = refl

stack_by : (found : Option ThreadEntry) (thread page : ℕ)
    → held_by in_entry found (Stack thread page) ≡ (is_some found && nat_lt page 4)
stack_by None thread page = refl
stack_by (Some entry) thread page = refl

no_buffer : (found : Option ThreadEntry) (thread view page : ℕ) → held_by in_entry found (Buffer thread view page) ≡ false
no_buffer None thread view page = refl
no_buffer (Some entry) thread view page = refl

zero_turned : (view : ℕ) → (0 == view) ≡ (view == 0)
zero_turned view =
    same_tests (0 == view) (view == 0) (λ is. (Decides-eqb view 0).1 (sym ((Decides-eqb 0 view).0 is)))
    (λ is. (Decides-eqb 0 view).1 (sym ((Decides-eqb view 0).0 is)))

record_by : (found : Option ThreadEntry) (thread view : ℕ)
    → held_by in_entry found (Record thread view) ≡ (is_some found && (view == 0))
record_by None thread view = refl
record_by (Some entry) thread view = zero_turned view

scratch_by : (found : Option ThreadEntry) (thread view : ℕ)
    → held_by in_entry found (Scratch thread view) ≡ (is_some found && (view == 0))
scratch_by None thread view = refl
scratch_by (Some entry) thread view = zero_turned view

none_away : (home found rest : Bool) → (not home && ((found && home) && rest)) ≡ false
none_away true found rest = refl
none_away false true rest = refl
none_away false false rest = refl

start_table : (images : List ProcessImage) (entries : List ThreadEntry) (free : ℕ) (keys : List ℕ) (name : PageName)
    → in_start images entries name ≡ is_in_table (image_pages images) (start_state images entries free keys) name
unfolding is_in_table process_at registration_at
start_table images entries free keys (Text process page) =
    of_image images entries (Text process page) (λ entry. refl) refl
    ∙ (text_by (slice_get images process) process page
    ∙ ap (λ there. there && nat_lt page (image_pages images process).text) (sym (process_there images process)))
start_table images entries free keys (Area process page) =
    of_image images entries (Area process page) (λ entry. refl) refl
    ∙ (area_by (slice_get images process) process page
    ∙ ap (λ there. there && nat_lt page (image_pages images process).area) (sym (process_there images process)))
start_table images entries free keys (Data process page) =
    of_image images entries (Data process page) (λ entry. refl) refl
    ∙ (data_by (slice_get images process) process page
    ∙ ap (λ there. there && nat_lt page (image_pages images process).initial) (sym (process_there images process)))
start_table images entries free keys (Heap process page) =
    of_image images entries (Heap process page) (λ entry. refl) refl
    ∙ (heap_by (slice_get images process) process page
    ∙ ap (λ found. nat_lt page (heap_count found)) (sym (got_process images process)))
start_table images entries free keys (Pool process) =
    of_image images entries (Pool process) (λ entry. refl) refl
    ∙ (pool_by (slice_get images process) process ∙ sym (process_there images process))
start_table images entries free keys (ServerStack process page) =
    of_image images entries (ServerStack process page) (λ entry. refl) refl
    ∙ (no_image (slice_get images process) process page
    ∙ (sym (no_stack_by (slice_get images process) page)
    ∙ ap (λ found. nat_lt page (4 * stacks_in (registration_of found))) (sym (got_process images process))))
start_table images entries free keys (Save thread) =
    of_entry images entries (Save thread) (λ image. refl) refl
    ∙ (save_by (slice_get entries thread) thread ∙ sym (thread_there entries thread))
start_table images entries free keys (Stack thread page) =
    of_entry images entries (Stack thread page) (λ image. refl) refl
    ∙ (stack_by (slice_get entries thread) thread page
    ∙ ap (λ there. there && nat_lt page 4) (sym (thread_there entries thread)))
start_table images entries free keys (Buffer thread view page) =
    of_entry images entries (Buffer thread view page) (λ image. refl) refl
    ∙ (no_buffer (slice_get entries thread) thread view page
    ∙ (sym (none_away (view == 0) (is_some (slice_get entries thread)) (nat_lt page 4))
    ∙ ap (λ (there : Bool). not (view == 0) && (there && nat_lt page 4)) (sym (view_there entries thread view))))
start_table images entries free keys (Record thread view) =
    of_entry images entries (Record thread view) (λ image. refl) refl
    ∙ (record_by (slice_get entries thread) thread view ∙ sym (view_there entries thread view))
start_table images entries free keys (Scratch thread view) =
    of_entry images entries (Scratch thread view) (λ image. refl) refl
    ∙ (scratch_by (slice_get entries thread) thread view ∙ sym (view_there entries thread view))
start_table images entries free keys HomeTrampoline =
    rw (none_of in_image 0 images HomeTrampoline (λ image. refl), none_of in_entry 0 entries HomeTrampoline (λ entry. refl)) refl
start_table images entries free keys ServerTrampoline =
    rw (none_of in_image 0 images ServerTrampoline (λ image. refl), none_of in_entry 0 entries ServerTrampoline (λ entry. refl))
    refl

-- ---- the windows

few_pages : (bytes pages : ℕ) → bytes ≤ 4096 * pages → page_count bytes ≤ pages
few_pages bytes pages within = omega (arith, within)

fits : (images : List ProcessImage) (process : ℕ) → AllByRecursion IsImageSound images → FitWindows (image_pages images process)
fits [] process all = record { text = omega arith; area = omega arith; initial = omega arith }
fits (image ∷ images) zero all = record {
  text = few_pages (length image.text) 512 all.0.text_length;
  area = few_pages (length image.area) 16 all.0.area_length;
  initial = few_pages (length image.initial) 512 all.0.initial_length;
}
fits (image ∷ images) (suc process) all = fits images process all.1

-- the start has the pages of the table
pub table_starts : (images : List ProcessImage) (entries : List ThreadEntry) (free : ℕ) (keys : List ℕ)
    → AllByRecursion IsImageSound images → ArePagesOfTable (start_state images entries free keys)
table_starts images entries free keys all =
    let held = start_held images entries in
    record {
      images = image_pages images;
      windows = λ process. fits images process all;
      once = held.once;
      exactly = λ name. held.exactly name ∙ start_table images entries free keys name;
    }

-- the record page of a view is there at the start where the view is
pub start_there : (images : List ProcessImage) (entries : List ThreadEntry) (free : ℕ) (keys : List ℕ) (thread view : ℕ)
    → is_some (find_page (start_state images entries free keys).pages (Record thread view))
    ≡ is_some (process_shown (start_threads 0 entries) thread view)
unfolding is_in_table
start_there images entries free keys thread view =
    (start_held images entries).exactly (Record thread view) ∙ start_table images entries free keys (Record thread view)
