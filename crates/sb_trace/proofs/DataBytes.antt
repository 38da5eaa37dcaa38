-- What can be loaded is a byte: at the start, and after each step.
use Rattle.std.proofs.Common.{◌≡◌, ◌∙◌, sym, ap, subst, ℕ, zero, suc, ◌+◌, ◌-◌, ◌*◌, ◌^◌, ◌<◌, Bool, true, false, List, [], ◌∷◌, ◌++◌, length, take, drop, replicate, set, refl, arith, inl, inr}
use Rattle.std.specs.Prelude.{Option, Some, None, if◌then◌else◌}
use Rattle.std.specs.Option.{option_map}
use Rattle.std.specs.List.{AllByRecursion}
use Rattle.std.specs.Int.{byte_at, bytes_low_first}
use Rattle.std.proofs.lemmas.List.Edits.{sets}
use Rattle.byteorder.specs.Endian.{little_bytes}
use Rattle.sb_abi.specs.declared.space.TheConstants.{STACK_PAGES, BUFFER_PAGES}
use Rattle.sb_memory.specs.Words.{put_word, put_words}
use Rattle.sb_tramp.specs.declared.record_words.RecordWords.{RecordWords}
use Rattle.sb_tramp.specs.Record.{words_of}
use Rattle.sb_trace.specs.declared.event.Event.{Event}
use Rattle.sb_trace.specs.declared.event.Event.TheVariants.{Step as StepLine, Extra, Stray, Sys, Entered, Landing, Idle}
use Rattle.sb_state.specs.declared.page.Page.{Page}
use Rattle.sb_state.specs.declared.page.PageName.{PageName}
use Rattle.sb_state.specs.declared.page.PageName.TheVariants.{Text, Area, Data, Heap, Pool}
use Rattle.sb_state.specs.PageName.{same_name}
use Rattle.sb_state.specs.State.{State, find_page, bytes_of, contents, with_mode, page_with, thread_at}
use Rattle.sb_state.specs.PageWords.{zeros}
use Rattle.sb_state.specs.Windows.{process_now}
use Rattle.sb_state.specs.Start.{ProcessImage, ThreadEntry, record_bytes, pages_from, page_of, padded_page, page_count, padded_pages, heap_page, heap_pages, process_pages, thread_pages, home_words, trampoline_pages, images_pages, threads_pages, start_state}
use Rattle.sb_trace.specs.KernelCall.{pool_word}
use Rattle.sb_trace.specs.SyscallRegister.{stack_bytes, server_stack_page}
use Rattle.sb_trace.specs.SyscallBind.{buffer_page, binding_pages, server_words}
use Rattle.sb_trace.specs.Sound.{is_code_name}
use Rattle.sb_trace.specs.Changes.{AreBytes, OnlyPages, WritesOpen, CallChanges, LineChanges, with_first_word}
use Rattle.sb_trace.specs.Laws.{IsImageSound}
use Rattle.sb_state.proofs.Names.{name_same}
use Rattle.sb_state.proofs.PageLists.{with_bytes, with_executable, found_same, found_other, either, found_added}
use Rattle.sb_state.proofs.Modes.{mode_same, mode_other}
use Rattle.sb_state.proofs.Start.{record_page, EachPage, found_each, each_both, each_from}
use Rattle.sb_trace.proofs.Beginning.{found_name, first_pages}
use Rattle.sb_trace.proofs.CodeSound.{HaveBytes}
use Rattle.sb_trace.proofs.PoolWords.{bytes_by}

-- ---- lists of bytes

both_bytes : (first second : List ℕ) → AreBytes first → AreBytes second → AreBytes (first ++ second)
both_bytes [] second one other = other
both_bytes (byte ∷ first) second one other = (one.0, both_bytes first second one.1 other)

taken_bytes : (count : ℕ) (bytes : List ℕ) → AreBytes bytes → AreBytes (take count bytes)
taken_bytes zero bytes all = tt
taken_bytes (suc count) [] all = tt
taken_bytes (suc count) (byte ∷ bytes) all = (all.0, taken_bytes count bytes all.1)

dropped_bytes : (count : ℕ) (bytes : List ℕ) → AreBytes bytes → AreBytes (drop count bytes)
dropped_bytes zero bytes all = all
dropped_bytes (suc count) [] all = tt
dropped_bytes (suc count) (byte ∷ bytes) all = dropped_bytes count bytes all.1

repeated_bytes : (count byte : ℕ) → byte < 256 → AreBytes (replicate count byte)
repeated_bytes zero byte below = tt
repeated_bytes (suc count) byte below = (below, repeated_bytes count byte below)

zeros_bytes : AreBytes zeros
unfolding zeros
zeros_bytes = repeated_bytes 4096 0 (omega arith)

set_bytes : (bytes : List ℕ) (place byte : ℕ) → byte < 256 → AreBytes bytes → AreBytes (set bytes place byte)
set_bytes [] place byte below all = tt
set_bytes (first ∷ bytes) zero byte below all = (below, all.1)
set_bytes (first ∷ bytes) (suc place) byte below all = (all.0, set_bytes bytes place byte below all.1)

sets_bytes : (new bytes : List ℕ) (place : ℕ) → AreBytes new → AreBytes bytes → AreBytes (sets bytes place new)
sets_bytes [] bytes place one all = all
sets_bytes (byte ∷ new) bytes place one all =
    sets_bytes new (set bytes place byte) (suc place) one.1 (set_bytes bytes place byte one.0 all)

byte_small : (place value : ℕ) → byte_at place value < 256
byte_small zero value = omega arith
byte_small (suc place) value = omega arith

low_bytes : (from count value : ℕ) → AreBytes (bytes_low_first from count value)
low_bytes from zero value = tt
low_bytes from (suc count) value = (byte_small from value, low_bytes (suc from) count value)

-- bytes in which a word is put are bytes
pub put_bytes : (bytes : List ℕ) (place word : ℕ) → AreBytes bytes → AreBytes (put_word bytes place word)
unfolding put_word
put_bytes bytes place word all = sets_bytes (little_bytes 8 word) bytes place (low_bytes 0 8 word) all

words_bytes : (words bytes : List ℕ) (place : ℕ) → AreBytes bytes → AreBytes (put_words bytes place words)
words_bytes [] bytes place all = all
words_bytes (word ∷ words) bytes place all =
    words_bytes words (put_word bytes place word) (place + 8) (put_bytes bytes place word all)

-- the bytes of a record page
record_are_bytes : (words : RecordWords) → AreBytes (record_bytes words)
record_are_bytes words =
    subst AreBytes (sym (record_page words)) (words_bytes (words_of words) zeros 0 zeros_bytes)

page_bytes : (bytes : List ℕ) (page : ℕ) → AreBytes bytes → AreBytes (page_of 0 bytes page)
page_bytes bytes page all =
    let part = taken_bytes 4096 (drop (4096 * page) bytes) (dropped_bytes (4096 * page) bytes all) in
    both_bytes (take 4096 (drop (4096 * page) bytes)) _ part (repeated_bytes _ 0 (omega arith))

-- ---- one page

-- a page of bytes, if it is one of data
abbrev HasBytes : Page → Type 0
HasBytes page = is_code_name page.name ≡ false → AreBytes page.bytes

-- the bytes of the page of a name
abbrev NamedBytes : List Page → PageName → Type 0
NamedBytes pages name = AreBytes (bytes_of (find_page pages name))

bytes_at : (pages : List Page) (name : PageName) → is_code_name name ≡ false → HaveBytes pages → NamedBytes pages name
bytes_at pages name loads all = bytes_by (find_page pages name) (λ page. all name page loads)

from_named : (pages : List Page) → ((name : PageName) → is_code_name name ≡ false → NamedBytes pages name) → HaveBytes pages
from_named pages all name page loads there = subst (λ found. AreBytes (bytes_of found)) there (all name loads)

-- ---- an instruction

written_bytes : (old : State) (core view : ℕ) (new : State) → WritesOpen old core view new → HaveBytes old.pages
    → HaveBytes new.pages
unfolding contents
written_bytes old core view new writes all =
    from_named new.pages (λ name loads. writes.bytes name (bytes_at old.pages name loads all))

-- ---- a word is put first into a page

given_bytes : (found : Option Page) (bytes : List ℕ) → AreBytes bytes
    → AreBytes (bytes_of (option_map (with_bytes bytes) found))
given_bytes None bytes all = tt
given_bytes (Some page) bytes all = all

word_if : (test : Bool) (state : State) (process word : ℕ) (name : PageName) → same_name (Pool process) name ≡ test
    → is_code_name name ≡ false → HaveBytes state.pages → NamedBytes (with_first_word state (Pool process) word) name
unfolding contents is_code_name
word_if true state process word name is loads all =
    let same : Pool process ≡ name = name_same (Pool process) name is in
    subst (NamedBytes (with_first_word state (Pool process) word)) same
    (subst (λ found. AreBytes (bytes_of found)) (sym (found_same state.pages (Pool process) _))
    (given_bytes (find_page state.pages (Pool process)) _
    (put_bytes (contents state (Pool process)) 0 word (bytes_at state.pages (Pool process) refl all))))
word_if false state process word name is loads all =
    subst (λ found. AreBytes (bytes_of found)) (sym (found_other state.pages (Pool process) name _ is))
    (bytes_at state.pages name loads all)

word_bytes : (state : State) (process word : ℕ) → HaveBytes state.pages → HaveBytes (with_first_word state (Pool process) word)
word_bytes state process word all =
    from_named (with_first_word state (Pool process) word)
    (λ name loads. word_if (same_name (Pool process) name) state process word name refl loads all)

-- ---- pages are added

added_by : (found new : Option Page) → AreBytes (bytes_of found) → AreBytes (bytes_of new)
    → AreBytes (bytes_of (either found new))
added_by None new one other = other
added_by (Some page) new one other = one

each_bytes : (pages : List Page) → EachPage HasBytes pages → HaveBytes pages
each_bytes pages each name page loads there =
    found_each HasBytes pages name page each there
    (subst (λ n. is_code_name n ≡ false) (sym (found_name pages name page there)) loads)

added_bytes : (pages new : List Page) → HaveBytes pages → EachPage HasBytes new → HaveBytes (pages ++ new)
added_bytes pages new all each =
    from_named (pages ++ new) (λ name loads.
    subst (λ found. AreBytes (bytes_of found)) (sym (found_added pages new name))
    (added_by (find_page pages name) (find_page new name) (bytes_at pages name loads all)
    (bytes_at new name loads (each_bytes new each))))

bytes_if : (test : Bool) (one other : List ℕ) → AreBytes one → AreBytes other → AreBytes (if test then one else other)
bytes_if true one other first second = first
bytes_if false one other first second = second

stack_are_bytes : (page : ℕ) → AreBytes (stack_bytes page)
unfolding stack_bytes
stack_are_bytes page = bytes_if _ _ _ (put_bytes zeros _ _ zeros_bytes) zeros_bytes

stacks_bytes : (process count : ℕ) → EachPage HasBytes (pages_from (server_stack_page process) 0 count)
stacks_bytes process count = each_from HasBytes (server_stack_page process) 0 count (λ page loads. stack_are_bytes page)

view_bytes : (thread index : ℕ) (words : RecordWords) → EachPage HasBytes (binding_pages thread index words)
unfolding binding_pages
view_bytes thread index words = (
  λ loads. record_are_bytes words,
  (λ loads. zeros_bytes, each_from HasBytes (buffer_page thread index) 0 BUFFER_PAGES (λ page loads. zeros_bytes)),
)

-- ---- a mode

same_bytes : (found : Option Page) (executable : Bool)
    → bytes_of (option_map (with_executable executable) found) ≡ bytes_of found
same_bytes None executable = refl
same_bytes (Some page) executable = refl

mode_if : (test : Bool) (pages : List Page) (changed name : PageName) (executable : Bool) → same_name changed name ≡ test
    → is_code_name name ≡ false → HaveBytes pages → NamedBytes (with_mode pages changed executable) name
mode_if true pages changed name executable is loads all =
    let same : changed ≡ name = name_same changed name is in
    subst AreBytes
    (sym (ap (λ n. bytes_of (find_page (with_mode pages n executable) name)) same
    ∙ (ap bytes_of (mode_same pages name executable) ∙ same_bytes (find_page pages name) executable)))
    (bytes_at pages name loads all)
mode_if false pages changed name executable is loads all =
    subst (λ found. AreBytes (bytes_of found)) (sym (mode_other pages changed name executable is)) (bytes_at pages name loads all)

mode_bytes : (pages : List Page) (changed : PageName) (executable : Bool) → HaveBytes pages
    → HaveBytes (with_mode pages changed executable)
mode_bytes pages changed executable all =
    from_named (with_mode pages changed executable)
    (λ name loads. mode_if (same_name changed name) pages changed name executable refl loads all)

-- ---- by line

only_bytes : (old : State) (pages : List Page) (new : State) → OnlyPages old pages new → HaveBytes pages → HaveBytes new.pages
only_bytes old pages new only all = subst HaveBytes (sym only.become) all

call_bytes : (old : State) (core number answer : ℕ) (new : State) → CallChanges old core number answer new
    → HaveBytes old.pages → HaveBytes new.pages
call_bytes old core number answer new (inl (refused, only)) all = only_bytes old old.pages new only all
call_bytes old core number answer new (inr (inl (done, call, home, adds))) all =
    subst HaveBytes (sym adds.pages)
    (added_bytes (with_first_word old (Pool (thread_at old core).home) (2 ^ adds.stacks - 1))
    (pages_from (server_stack_page (thread_at old core).home) 0 (STACK_PAGES * adds.stacks))
    (word_bytes old (thread_at old core).home (2 ^ adds.stacks - 1) all)
    (stacks_bytes (thread_at old core).home (STACK_PAGES * adds.stacks)))
call_bytes old core number answer new (inr (inr (inl (done, call, home, adds)))) all =
    let words = server_words core (thread_at old core) adds.binding adds.registration.handler in
    subst HaveBytes (sym adds.pages)
    (added_bytes old.pages (binding_pages core adds.binding.index words) all (view_bytes core adds.binding.index words))
call_bytes old core number answer new (inr (inr (inr (done, call, changes)))) all =
    only_bytes old _ new changes.only
    (mode_bytes old.pages (Heap (process_now (thread_at old core)) changes.page) changes.executable all)

-- each step keeps it that what can be loaded is a byte
pub bytes_kept : (old : State) (core : ℕ) (event : Event) (new : State) → LineChanges old core event new
    → HaveBytes old.pages → HaveBytes new.pages
bytes_kept old core (StepLine rip) new writes all = written_bytes old core (thread_at old core).view new writes all
bytes_kept old core (Extra rip) new writes all = written_bytes old core (thread_at old core).view new writes all
bytes_kept old core (Stray rip) new writes all = written_bytes old core (thread_at old core).view new writes all
bytes_kept old core (Entered index slot) new enters all =
    only_bytes old _ new enters.only (word_bytes old enters.server (pool_word old enters.server - 2 ^ slot) all)
bytes_kept old core (Sys number answer) new changes all = call_bytes old core number answer new changes all
bytes_kept old core (Landing phase) new only all = only_bytes old old.pages new only.0 all
bytes_kept old core Idle new same all = subst (λ (state : State). HaveBytes state.pages) (sym same) all
bytes_kept old core _ new only all = only_bytes old old.pages new only all

-- ---- the start

process_bytes : (process : ℕ) (image : ProcessImage) → AreBytes image.initial → EachPage HasBytes (process_pages process image)
unfolding process_pages is_code_name
process_bytes process image all =
    each_both HasBytes (padded_pages (Text process) 0xCC image.text) _
    (each_from HasBytes (padded_page (Text process) 0xCC image.text) 0 (page_count (length image.text)) (λ page loads. absurd cc))
    (each_both HasBytes (padded_pages (Area process) 0xCC image.area) _
    (each_from HasBytes (padded_page (Area process) 0xCC image.area) 0 (page_count (length image.area)) (λ page loads. absurd cc))
    (each_both HasBytes (padded_pages (Data process) 0 image.initial) _
    (each_from HasBytes (padded_page (Data process) 0 image.initial) 0 (page_count (length image.initial))
    (λ page loads. page_bytes image.initial page all))
    (each_both HasBytes (heap_pages process image.heap_pages) (page_with (Pool process) zeros ∷ [])
    (each_from HasBytes (heap_page process) 0 image.heap_pages (λ page loads. zeros_bytes))
    (λ loads. zeros_bytes, tt))))

images_bytes : (process : ℕ) (images : List ProcessImage) → AllByRecursion IsImageSound images
    → EachPage HasBytes (images_pages process images)
images_bytes process [] all = tt
images_bytes process (image ∷ images) all =
    each_both HasBytes (process_pages process image) (images_pages (process + 1) images)
    (process_bytes process image all.0.initial) (images_bytes (process + 1) images all.1)

thread_bytes : (thread home : ℕ) → EachPage HasBytes (thread_pages thread home)
unfolding thread_pages
thread_bytes thread home = (
  λ loads. zeros_bytes,
  (
    λ loads. zeros_bytes,
    (
      λ loads. zeros_bytes,
      (
        λ loads. zeros_bytes,
        (λ loads. zeros_bytes, (λ loads. record_are_bytes (home_words thread home), (λ loads. zeros_bytes, tt))),
      ),
    ),
  ),
)

threads_bytes : (thread : ℕ) (entries : List ThreadEntry) → EachPage HasBytes (threads_pages thread entries)
threads_bytes thread [] = tt
threads_bytes thread (entry ∷ entries) =
    each_both HasBytes (thread_pages thread entry.home) (threads_pages (thread + 1) entries) (thread_bytes thread entry.home)
    (threads_bytes (thread + 1) entries)

trampoline_bytes : EachPage HasBytes trampoline_pages
unfolding trampoline_pages is_code_name
trampoline_bytes = (λ loads. absurd cc, (λ loads. absurd cc, tt))

-- what can be loaded at the start is a byte
pub bytes_start : (images : List ProcessImage) (entries : List ThreadEntry) (free : ℕ) (keys : List ℕ)
    → AllByRecursion IsImageSound images → HaveBytes (start_state images entries free keys).pages
bytes_start images entries free keys all =
    each_bytes (first_pages images entries)
    (each_both HasBytes (images_pages 0 images) (threads_pages 0 entries ++ trampoline_pages) (images_bytes 0 images all)
    (each_both HasBytes (threads_pages 0 entries) trampoline_pages (threads_bytes 0 entries) trampoline_bytes))
