-- The start of images whose texts and rewrite areas hold VMFUNC's bytes nowhere is sound.
use Rattle.std.proofs.Common.{◌≡◌, ◌≢◌, ◌∙◌, sym, ap, subst, ℕ, zero, suc, ◌+◌, ◌-◌, ◌*◌, ◌/◌, ◌%◌, ◌<◌, Bool, true, false, List, [], ◌∷◌, ◌++◌, length, take, drop, get_or, replicate, refl, arith, inl, inr, ◌⊎◌}
use Rattle.std.specs.Prelude.{Option, Some, None, if◌then◌else◌, slice_get, unwrap_or}
use Rattle.std.specs.List.{AllByRecursion}
use Rattle.std.proofs.lemmas.Bool.{cases_lt}
use Rattle.std.proofs.lemmas.List.{length-replicate, get_or_append_left, get_or-append-add, get_or-take, get_or-drop, get_or-replicate}
use Rattle.sb_memory.specs.declared.address.Access.TheVariants.{Fetch}
use Rattle.sb_scan.specs.Pattern.{HasNoPattern}
use Rattle.sb_tramp.specs.Home.{home_page}
use Rattle.sb_tramp.specs.Server.{server_page}
use Rattle.sb_tramp.proofs.Bytes.{home_size, server_size}
use Rattle.sb_state.specs.declared.page.PageName.{PageName}
use Rattle.sb_state.specs.declared.page.PageName.TheVariants.{Text, Area, Data, Heap, Pool, HomeTrampoline, ServerTrampoline}
use Rattle.sb_state.specs.declared.page.Page.{Page}
use Rattle.sb_state.specs.declared.page.Mode.TheVariants as mode
use Rattle.sb_state.specs.declared.state.Flight.{Flight}
use Rattle.sb_state.specs.PageName.{same_name, mode_of, permits}
use Rattle.sb_state.specs.State.{find_page, thread_at, no_thread, flight_at, page_with}
use Rattle.sb_state.specs.PageWords.{zeros}
use Rattle.sb_state.specs.Start.{ProcessImage, ThreadEntry, page_padded, page_of, padded_page, page_count, padded_pages, heap_page, heap_pages, process_pages, home_words, thread_pages, trampoline_pages, images_pages, threads_pages, start_threads, start_state}
use Rattle.sb_trace.specs.Code.{fetched_byte, code_byte, HasNoCodePattern}
use Rattle.sb_trace.specs.Sound.{HasPage, HasView, IsFlightSound}
use Rattle.sb_trace.specs.Laws.{IsImageSound}
use Rattle.sb_state.proofs.Names.{name_same}
use Rattle.sb_state.proofs.PageLists.{either, found_added}
use Rattle.sb_state.proofs.Filling.{page_size}
use Rattle.sb_state.proofs.Start.{zeros_size, record_size, EachPage, found_each, each_both, each_from, count_threads}
use Rattle.sb_trace.proofs.CodeSound.{AreCodePagesSound}

-- ---- bytes that fill pages

filled_byte : (filler : ℕ) (bytes : List ℕ) (offset : ℕ) → offset < 4096
    → (get_or (page_padded filler bytes) offset 0 ≡ get_or bytes offset 0) ⊎ (get_or (page_padded filler bytes) offset 0 ≡ filler)
filled_byte filler bytes offset below = elim (cases_lt offset (length bytes)) [
  | inl inside ↦ inl (get_or_append_left bytes (replicate (4096 - length bytes) filler) 0 offset inside)
  | inr past ↦
      let at : offset ≡ length bytes + (offset - length bytes) = omega arith in
      inr (ap (λ n. get_or (page_padded filler bytes) n 0) at
      ∙ (get_or-append-add bytes (replicate (4096 - length bytes) filler) (offset - length bytes) 0
      ∙ get_or-replicate (4096 - length bytes) (offset - length bytes) filler 0 (omega arith)))
]

-- a byte of a page is the one of the bytes that fill it, or filler
page_byte : (filler : ℕ) (bytes : List ℕ) (page offset : ℕ) → offset < 4096
    → (get_or (page_of filler bytes page) offset 0 ≡ get_or bytes (4096 * page + offset) 0)
    ⊎ (get_or (page_of filler bytes page) offset 0 ≡ filler)
page_byte filler bytes page offset below = elim (filled_byte filler (take 4096 (drop (4096 * page) bytes)) offset below) [
  | inl same ↦ inl (same
      ∙ (get_or-take 4096 (drop (4096 * page) bytes) offset 0 below ∙ get_or-drop (4096 * page) bytes offset 0))
  | inr fill ↦ inr fill
]

-- ---- what holds of each page at the start

-- the text of a process; none where there is no process
abbrev text_at : List ProcessImage → ℕ → List ℕ
text_at [] process = []
text_at (image ∷ images) zero = image.text
text_at (image ∷ images) (suc process) = text_at images process

-- and its rewrite area
abbrev area_at : List ProcessImage → ℕ → List ℕ
area_at [] process = []
area_at (image ∷ images) zero = image.area
area_at (image ∷ images) (suc process) = area_at images process

abbrev StartsWith : List ProcessImage → PageName → List ℕ → Type 0
StartsWith images (Text process page) bytes = bytes ≡ page_of 0xCC (text_at images process) page
StartsWith images (Area process page) bytes = bytes ≡ page_of 0xCC (area_at images process) page
StartsWith images HomeTrampoline bytes = bytes ≡ home_page
StartsWith images ServerTrampoline bytes = bytes ≡ server_page
StartsWith images _ bytes = Unit {0}

abbrev IsStartPage : List ProcessImage → Page → Type 0
IsStartPage images page = (page.executable ≡ false) × (length page.bytes ≡ 4096) × StartsWith images page.name page.bytes

-- the image is that of the process
abbrev IsImageAt : List ProcessImage → ℕ → ProcessImage → Type 0
IsImageAt images process image = (text_at images process ≡ image.text) × (area_at images process ≡ image.area)

process_starts : (images : List ProcessImage) (process : ℕ) (image : ProcessImage) → IsImageAt images process image
    → EachPage (IsStartPage images) (process_pages process image)
unfolding process_pages
process_starts images process image same =
    each_both (IsStartPage images) (padded_pages (Text process) 0xCC image.text) _
    (each_from (IsStartPage images) (padded_page (Text process) 0xCC image.text) 0 (page_count (length image.text))
    (λ page. (refl, page_size 0xCC image.text page, ap (λ text. page_of 0xCC text page) (sym same.0))))
    (each_both (IsStartPage images) (padded_pages (Area process) 0xCC image.area) _
    (each_from (IsStartPage images) (padded_page (Area process) 0xCC image.area) 0 (page_count (length image.area))
    (λ page. (refl, page_size 0xCC image.area page, ap (λ area. page_of 0xCC area page) (sym same.1))))
    (each_both (IsStartPage images) (padded_pages (Data process) 0 image.initial) _
    (each_from (IsStartPage images) (padded_page (Data process) 0 image.initial) 0 (page_count (length image.initial))
    (λ page. (refl, page_size 0 image.initial page, tt)))
    (each_both (IsStartPage images) (heap_pages process image.heap_pages) (page_with (Pool process) zeros ∷ [])
    (each_from (IsStartPage images) (heap_page process) 0 image.heap_pages (λ page. (refl, zeros_size, tt)))
    ((refl, zeros_size, tt), tt))))

-- the images are those from this process on
abbrev AreImagesFrom : List ProcessImage → ℕ → List ProcessImage → Type 0
AreImagesFrom all process images = (number : ℕ)
    → (text_at all (process + number) ≡ text_at images number) × (area_at all (process + number) ≡ area_at images number)

images_start : (all : List ProcessImage) (process : ℕ) (images : List ProcessImage) → AreImagesFrom all process images
    → EachPage (IsStartPage all) (images_pages process images)
images_start all process [] same = tt
images_start all process (image ∷ images) same =
    each_both (IsStartPage all) (process_pages process image) (images_pages (process + 1) images)
    (process_starts all process image (let here : process + 0 ≡ process = omega arith in
    subst (λ n. IsImageAt all n image) here (same 0)))
    (images_start all (process + 1) images
    (λ number. let next : process + suc number ≡ process + 1 + number = omega arith in
    subst (λ n. (text_at all n ≡ text_at images number) × (area_at all n ≡ area_at images number)) next (same (suc number))))

thread_starts : (images : List ProcessImage) (thread home : ℕ) → EachPage (IsStartPage images) (thread_pages thread home)
unfolding thread_pages
thread_starts images thread home = (
  (refl, zeros_size, tt),
  (
    (refl, zeros_size, tt),
    (
      (refl, zeros_size, tt),
      (
        (refl, zeros_size, tt),
        (
          (refl, zeros_size, tt),
          ((refl, record_size (home_words thread home), tt), ((refl, zeros_size, tt), tt)),
        ),
      ),
    ),
  ),
)

threads_start : (images : List ProcessImage) (thread : ℕ) (entries : List ThreadEntry)
    → EachPage (IsStartPage images) (threads_pages thread entries)
threads_start images thread [] = tt
threads_start images thread (entry ∷ entries) =
    each_both (IsStartPage images) (thread_pages thread entry.home) (threads_pages (thread + 1) entries)
    (thread_starts images thread entry.home) (threads_start images (thread + 1) entries)

trampoline_starts : (images : List ProcessImage) → EachPage (IsStartPage images) trampoline_pages
unfolding trampoline_pages
trampoline_starts images = ((refl, home_size, refl), ((refl, server_size, refl), tt))

-- the pages of the start
abbrev pub first_pages : List ProcessImage → List ThreadEntry → List Page
first_pages images entries = images_pages 0 images ++ (threads_pages 0 entries ++ trampoline_pages)

pages_start : (images : List ProcessImage) (entries : List ThreadEntry)
    → EachPage (IsStartPage images) (first_pages images entries)
pages_start images entries =
    each_both (IsStartPage images) (images_pages 0 images) (threads_pages 0 entries ++ trampoline_pages)
    (images_start images 0 images (λ number. let same : 0 + number ≡ number = omega arith in
    (ap (text_at images) same, ap (area_at images) same)))
    (each_both (IsStartPage images) (threads_pages 0 entries) trampoline_pages (threads_start images 0 entries)
    (trampoline_starts images))

-- ---- pages that are found

named_by : (test : Bool) (first page : Page) (found : Option Page) (name : PageName) → same_name first.name name ≡ test
    → (found ≡ Some page → page.name ≡ name)
    → (if test then Some first else found) ≡ Some page → page.name ≡ name
named_by true first page found name test more is = let same : first ≡ page = cc in
    subst (λ (one : Page). one.name ≡ name) same (name_same first.name name test)
named_by false first page found name test more is = more is

-- a page that is found has the name
pub found_name : (pages : List Page) (name : PageName) (page : Page) → find_page pages name ≡ Some page → page.name ≡ name
found_name [] name page is = absurd cc
found_name (first ∷ pages) name page is =
    named_by (same_name first.name name) first page (find_page pages name) name refl (found_name pages name page) is

-- what is said of a page at the start, by the name by which it is found
found_start : (images : List ProcessImage) (pages : List Page) (name : PageName) (page : Page)
    → EachPage (IsStartPage images) pages → find_page pages name ≡ Some page
    → (page.executable ≡ false) × (length page.bytes ≡ 4096) × StartsWith images name page.bytes
found_start images pages name page each is =
    let has = found_each (IsStartPage images) pages name page each is in
    (has.0, has.1, subst (λ n. StartsWith images n page.bytes) (found_name pages name page is) has.2)

either_there : (found : Option Page) (one : Page) → (page : Page) × (either found (Some one) ≡ Some page)
either_there None one = (one, refl)
either_there (Some page) one = (page, refl)

-- a page that stands among the last is found
found_behind : (pages last : List Page) (name : PageName) (one : Page) → find_page last name ≡ Some one
    → (page : Page) × (find_page (pages ++ last) name ≡ Some page)
found_behind pages last name one is =
    let there = either_there (find_page pages name) one in
    (there.0, found_added pages last name ∙ ap (λ found. either (find_page pages name) found) is ∙ there.1)

trampoline_found : (images : List ProcessImage) (entries : List ThreadEntry) (name : PageName) (one : Page)
    → find_page trampoline_pages name ≡ Some one
    → (page : Page) × (find_page (first_pages images entries) name ≡ Some page)
trampoline_found images entries name one is =
    let last = found_behind (threads_pages 0 entries) trampoline_pages name one is in
    found_behind (images_pages 0 images) (threads_pages 0 entries ++ trampoline_pages) name last.0 last.1

home_there : (images : List ProcessImage) (entries : List ThreadEntry)
    → HasPage (first_pages images entries) HomeTrampoline home_page
unfolding trampoline_pages same_name
home_there images entries =
    let there = trampoline_found images entries HomeTrampoline (page_with HomeTrampoline home_page) refl in (
      there.0,
      there.1,
      (found_start images (first_pages images entries) HomeTrampoline there.0 (pages_start images entries) there.1).2,
    )

server_there : (images : List ProcessImage) (entries : List ThreadEntry)
    → HasPage (first_pages images entries) ServerTrampoline server_page
unfolding trampoline_pages same_name
server_there images entries =
    let there = trampoline_found images entries ServerTrampoline (page_with ServerTrampoline server_page) refl in (
      there.0,
      there.1,
      (found_start images (first_pages images entries) ServerTrampoline there.0 (pages_start images entries) there.1).2,
    )

-- ---- no pattern

-- pages of code lie one behind another, with these bytes and filler behind them
record IsCode (pages : List Page) (name : ℕ → PageName) (bytes : List ℕ) : Type 0 where
  mode : (number : ℕ) (executable : Bool) → mode_of (name number) executable ≡ mode.Fetch
  contents : (number : ℕ) (page : Page) → find_page pages (name number) ≡ Some page → page.bytes ≡ page_of 0xCC bytes number

fetched_is : (name : PageName) (found : Option Page) (offset byte : ℕ)
    → ((executable : Bool) → mode_of name executable ≡ mode.Fetch) → fetched_byte name found offset ≡ Some byte
    → (page : Page) × (found ≡ Some page) × (get_or page.bytes offset 0 ≡ byte)
fetched_is name None offset byte fetched is = absurd cc
fetched_is name (Some page) offset byte fetched is =
    let there : Some (get_or page.bytes offset 0) ≡ Some byte = rw (fetched page.executable) at is in
    (page, refl, cc there)

-- a byte of code is one of the bytes, or filler
code_of : (pages : List Page) (name : ℕ → PageName) (bytes : List ℕ) (place byte : ℕ) → IsCode pages name bytes → byte ≢ 0xCC
    → code_byte pages name place ≡ Some byte → get_or bytes place 0 ≡ byte
unfolding code_byte
code_of pages name bytes place byte code other is =
    let number : ℕ = place / 4096 in
    let offset : ℕ = place % 4096 in
    let (page, there, here) = fetched_is (name number) (find_page pages (name number)) offset byte (code.mode number) is in
    let at : get_or (page_of 0xCC bytes number) offset 0 ≡ byte =
    ap (λ list. get_or list offset 0) (sym (code.contents number page there)) ∙ here in
    let whole : 4096 * number + offset ≡ place = omega arith in
    elim (page_byte 0xCC bytes number offset (omega arith)) [
      | inl same ↦ ap (λ n. get_or bytes n 0) (sym whole) ∙ sym same ∙ at
      | inr fill ↦ absurd (other (sym at ∙ fill))
    ]

no_code_pattern : (pages : List Page) (name : ℕ → PageName) (bytes : List ℕ) → IsCode pages name bytes → HasNoPattern bytes
    → HasNoCodePattern (code_byte pages name)
no_code_pattern pages name bytes code clean place stands =
    clean place (
      code_of pages name bytes place 0x0F code (λ same. omega arith) stands.0,
      code_of pages name bytes (place + 1) 0x01 code (λ same. omega arith) stands.1,
      code_of pages name bytes (place + 2) 0xD4 code (λ same. omega arith) stands.2,
    )

text_is_code : (images : List ProcessImage) (entries : List ThreadEntry) (process : ℕ)
    → IsCode (first_pages images entries) (Text process) (text_at images process)
unfolding mode_of
text_is_code images entries process = record {
  mode = λ number executable. refl;
  contents =
      λ number page there.
      (found_start images (first_pages images entries) (Text process number) page (pages_start images entries) there).2;
}

area_is_code : (images : List ProcessImage) (entries : List ThreadEntry) (process : ℕ)
    → IsCode (first_pages images entries) (Area process) (area_at images process)
unfolding mode_of
area_is_code images entries process = record {
  mode = λ number executable. refl;
  contents =
      λ number page there.
      (found_start images (first_pages images entries) (Area process number) page (pages_start images entries) there).2;
}

clean_code : (images : List ProcessImage) (process : ℕ) → AllByRecursion IsImageSound images
    → HasNoPattern (text_at images process) × HasNoPattern (area_at images process)
clean_code [] process clean = (λ place stands. omega (arith, stands.0), λ place stands. omega (arith, stands.0))
clean_code (image ∷ images) zero clean = (clean.0.text, clean.0.area)
clean_code (image ∷ images) (suc process) clean = clean_code images process clean.1

never_by : (executable : Bool) (process number value byte : ℕ) → executable ≡ false
    → (if permits (mode_of (Heap process number) executable) Fetch then Some value else None) ≡ Some byte → ⊥
unfolding mode_of
never_by true process number value byte written is = absurd cc
never_by false process number value byte written is = cc

no_heap : (images : List ProcessImage) (process number offset byte : ℕ) (found : Option Page)
    → ((page : Page) → found ≡ Some page
    → (page.executable ≡ false) × (length page.bytes ≡ 4096) × StartsWith images (Heap process number) page.bytes)
    → fetched_byte (Heap process number) found offset ≡ Some byte → ⊥
no_heap images process number offset byte None starts is = cc
no_heap images process number offset byte (Some page) starts is =
    never_by page.executable process number (get_or page.bytes offset 0) byte (starts page refl).0 is

pub code_starts_sound : (images : List ProcessImage) (entries : List ThreadEntry) → AllByRecursion IsImageSound images
    → AreCodePagesSound (first_pages images entries)
unfolding code_byte
code_starts_sound images entries clean = record {
  sizes = λ name page there. (found_start images (first_pages images entries) name page (pages_start images entries) there).1;
  home = home_there images entries;
  server = server_there images entries;
  text = λ process. no_code_pattern (first_pages images entries) (Text process) (text_at images process)
      (text_is_code images entries process) (clean_code images process clean).0;
  area = λ process. no_code_pattern (first_pages images entries) (Area process) (area_at images process)
      (area_is_code images entries process) (clean_code images process clean).1;
  heap = λ process place stands.
      no_heap images process (place / 4096) (place % 4096) 0x0F _
      (λ page there. found_start images (first_pages images entries) (Heap process (place / 4096)) page
      (pages_start images entries) there) stands.0;
}

-- ---- threads

view_starts : (entries : List ThreadEntry) (first number : ℕ)
    → HasView (unwrap_or (slice_get (start_threads first entries) number) no_thread)
unfolding no_thread
view_starts [] first number = (0, refl)
view_starts (entry ∷ entries) first zero = (entry.home, refl)
view_starts (entry ∷ entries) first (suc number) = view_starts entries (first + 1) number

abbrev no_flight : Option Flight
no_flight = None

pub none_flies : (count number : ℕ) → unwrap_or (slice_get (replicate count no_flight) number) no_flight ≡ no_flight
none_flies zero number = refl
none_flies (suc count) zero = refl
none_flies (suc count) (suc number) = none_flies count number

-- a flight, or none, for each thread
pub places_start : (images : List ProcessImage) (entries : List ThreadEntry) (free : ℕ) (keys : List ℕ)
    → length (start_state images entries free keys).flights ≡ length (start_state images entries free keys).threads
places_start images entries free keys =
    length-replicate {A = Option Flight} (length entries) None ∙ sym (count_threads 0 entries)

-- each thread starts in a view that it has
pub views_start : (images : List ProcessImage) (entries : List ThreadEntry) (free : ℕ) (keys : List ℕ) (number : ℕ)
    → HasView (thread_at (start_state images entries free keys) number)
unfolding thread_at
views_start images entries free keys number = view_starts entries 0 number

-- no thread starts in flight
pub flights_start : (images : List ProcessImage) (entries : List ThreadEntry) (free : ℕ) (keys : List ℕ) (number : ℕ)
    → IsFlightSound (thread_at (start_state images entries free keys) number)
    (flight_at (start_state images entries free keys) number)
unfolding thread_at flight_at
flights_start images entries free keys number =
    subst (IsFlightSound (thread_at (start_state images entries free keys) number)) (sym (none_flies (length entries) number)) tt
