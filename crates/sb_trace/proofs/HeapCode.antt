-- A heap page that becomes executable where the pattern stands neither in it nor across its borders.
use Rattle.std.proofs.Common.{◌≡◌, ◌≢◌, ◌∙◌, sym, ap, subst, ℕ, zero, suc, ◌+◌, ◌-◌, ◌*◌, ◌/◌, ◌%◌, ◌<◌, ◌≤◌, Bool, true, false, List, [], ◌∷◌, ◌++◌, ◌==◌, length, take, drop, get_or, refl, arith, inl, inr, length-drop}
use Rattle.std.specs.Prelude.{Option, Some, None, if◌then◌else◌, ◌&&◌}
use Rattle.std.specs.Option.{option_map}
use Rattle.std.proofs.lemmas.Bool.{cases_lt, cases_eq}
use Rattle.std.proofs.lemmas.Bool.Decides.{Decides-eqb}
use Rattle.std.proofs.lemmas.List.{get_or-append-add, get_or_append_left, get_or-take, get_or-drop}
use Rattle.sb_memory.specs.declared.address.Access.TheVariants.{Fetch}
use Rattle.sb_state.specs.declared.page.PageName.{PageName}
use Rattle.sb_state.specs.declared.page.PageName.TheVariants.{Text, Area, Heap, HomeTrampoline, ServerTrampoline}
use Rattle.sb_state.specs.declared.page.Mode.TheVariants as mode
use Rattle.sb_state.specs.declared.page.Page.{Page}
use Rattle.sb_state.specs.PageName.{same_name, mode_of, permits}
use Rattle.sb_state.specs.State.{State, find_page, with_mode}
use Rattle.sb_state.specs.Pattern.{begins_pattern, first_pattern, executable_bytes, bytes_before, bytes_behind, heap_address, heap_pattern, pattern_around}
use Rattle.sb_trace.specs.Code.{fetched_byte, code_byte, HasCodePatternAt, HasNoCodePattern}
use Rattle.sb_trace.specs.Sound.{HasPage}
use Rattle.sb_state.proofs.Cases.{clash, none_some, same_some}
use Rattle.sb_state.proofs.Names.{name_same, name_other}
use Rattle.sb_state.proofs.PageLists.{with_executable}
use Rattle.sb_state.proofs.Modes.{mode_other, mode_same}
use Rattle.sb_trace.proofs.CodePages.{SameCode, no_pattern_kept, code_where_found}
use Rattle.sb_trace.proofs.CodeSound.{AreCodePagesSound}

-- ---- the pattern in bytes

-- the bytes of the pattern at a place
abbrev StandsAt : List ℕ → ℕ → Type 0
StandsAt bytes place = (get_or bytes place 0 ≡ 0x0F) × (get_or bytes (place + 1) 0 ≡ 0x01) × (get_or bytes (place + 2) 0 ≡ 0xD4)

begins : (a b c : ℕ) → a ≡ 0x0F → b ≡ 0x01 → c ≡ 0xD4 → ((a == 0x0F) && ((b == 0x01) && (c == 0xD4))) ≡ true
begins a b c first second third = rw (first, second, third) refl

none_mapped : {A B : Type 0} (map : A → B) (found : Option A) → option_map map found ≡ None → found ≡ None
none_mapped map None is = refl
none_mapped map (Some value) is = absurd cc

not_first : (test : Bool) (later : Option ℕ) → (if test then Some 0 else option_map suc later) ≡ None
    → (test ≡ false) × (later ≡ None)
not_first true later is = absurd cc
not_first false later is = (refl, none_mapped suc later is)

one_on : (byte : ℕ) (bytes : List ℕ) (place count : ℕ)
    → get_or bytes (place + count) 0 ≡ get_or (byte ∷ bytes) (suc place + count) 0
one_on byte bytes place count = let same : suc (place + count) ≡ suc place + count = omega arith in
    ap (λ n. get_or (byte ∷ bytes) n 0) same

-- the search for the first finds each
no_first : (bytes : List ℕ) → first_pattern bytes ≡ None → (place : ℕ) → ¬ StandsAt bytes place
no_first [] none place stands = absurd (omega (arith, stands.0))
no_first (byte ∷ bytes) none zero stands =
    clash (begins_pattern (byte ∷ bytes)) (begins byte (get_or bytes 0 0) (get_or bytes 1 0) stands.0 stands.1 stands.2)
    (not_first (begins_pattern (byte ∷ bytes)) (first_pattern bytes) none).0
no_first (byte ∷ bytes) none (suc place) stands =
    no_first bytes (not_first (begins_pattern (byte ∷ bytes)) (first_pattern bytes) none).1 place (
      stands.0,
      one_on byte bytes place 1 ∙ stands.1,
      one_on byte bytes place 2 ∙ stands.2,
    )

-- ---- bytes of the heap that may be fetched

executable_by : (test : Bool) (value byte : ℕ)
    → (if permits (if test then mode.Fetch else mode.ReadWrite) Fetch then Some value else None) ≡ Some byte
    → (test ≡ true) × (value ≡ byte)
executable_by true value byte is = (refl, cc)
executable_by false value byte is = absurd cc

-- an executable page with this byte
record IsHeapByte (found : Option Page) (offset byte : ℕ) : Type 0 where
  page : Page
  there : found ≡ Some page
  executable : page.executable ≡ true
  has : get_or page.bytes offset 0 ≡ byte

heap_fetched : (process number : ℕ) (found : Option Page) (offset byte : ℕ)
    → fetched_byte (Heap process number) found offset ≡ Some byte → IsHeapByte found offset byte
unfolding mode_of
heap_fetched process number None offset byte is = absurd cc
heap_fetched process number (Some page) offset byte is =
    let parts = executable_by page.executable (get_or page.bytes offset 0) byte is in
    record { page = page; there = refl; executable = parts.0; has = parts.1 }

heap_byte : (pages : List Page) (process place byte : ℕ) → code_byte pages (Heap process) place ≡ Some byte
    → IsHeapByte (find_page pages (Heap process (place / 4096))) (place % 4096) byte
unfolding code_byte
heap_byte pages process place byte is =
    heap_fetched process (place / 4096) (find_page pages (Heap process (place / 4096))) (place % 4096) byte is

-- ---- a page whose mode changes

heap_apart : (process page other : ℕ) → other ≢ page → same_name (Heap process page) (Heap process other) ≡ false
heap_apart process page other apart =
    name_other (Heap process page) (Heap process other) (λ same. apart (let equal : page ≡ other = cc in sym equal))

-- elsewhere all is as before
elsewhere : (pages : List Page) (process page place : ℕ) (executable : Bool) → place / 4096 ≢ page
    → code_byte (with_mode pages (Heap process page) executable) (Heap process) place ≡ code_byte pages (Heap process) place
unfolding code_byte
elsewhere pages process page place executable apart =
    ap (λ found. fetched_byte (Heap process (place / 4096)) found (place % 4096))
    (mode_other pages (Heap process page) (Heap process (place / 4096)) executable (heap_apart process page (place / 4096) apart))

-- in the page itself
within : (pages : List Page) (process page place : ℕ) (executable : Bool) → place / 4096 ≡ page
    → code_byte (with_mode pages (Heap process page) executable) (Heap process) place
    ≡ fetched_byte (Heap process page) (option_map (with_executable executable) (find_page pages (Heap process page)))
    (place % 4096)
unfolding code_byte
within pages process page place executable here =
    ap (λ number. fetched_byte (Heap process number)
    (find_page (with_mode pages (Heap process page) executable) (Heap process number)) (place % 4096)) here
    ∙ ap (λ found. fetched_byte (Heap process page) found (place % 4096)) (mode_same pages (Heap process page) executable)

-- ---- to write mode

no_code : (process page : ℕ) (found : Option Page) (offset : ℕ)
    → fetched_byte (Heap process page) (option_map (with_executable false) found) offset ≡ None
unfolding mode_of
no_code process page None offset = refl
no_code process page (Some one) offset = refl

fewer : (pages : List Page) (process page place byte : ℕ)
    → code_byte (with_mode pages (Heap process page) false) (Heap process) place ≡ Some byte
    → code_byte pages (Heap process) place ≡ Some byte
fewer pages process page place byte is = elim (cases_eq (place / 4096) page) [
  | inl here ↦ absurd
      (none_some _ byte (within pages process page place false here
      ∙ no_code process page (find_page pages (Heap process page)) (place % 4096)) is)
  | inr apart ↦ sym (elsewhere pages process page place false apart) ∙ is
]

written_heap : (pages : List Page) (process page : ℕ) → HasNoCodePattern (code_byte pages (Heap process))
    → HasNoCodePattern (code_byte (with_mode pages (Heap process page) false) (Heap process))
written_heap pages process page none place stands =
    none place (
      fewer pages process page place 0x0F stands.0,
      fewer pages process page (place + 1) 0x01 stands.1,
      fewer pages process page (place + 2) 0xD4 stands.2,
    )

-- ---- to execute mode: where the bytes stand in the list that is searched

executable_of : (found : Option Page) (page : Page) → found ≡ Some page → page.executable ≡ true
    → executable_bytes found ≡ page.bytes
executable_of found page there executable = rw there (rw executable refl)

before_by : (test : Bool) (page : ℕ) (bytes : List ℕ) → (page == 0) ≡ test → page ≢ 0 → (if test then [] else bytes) ≡ bytes
before_by true page bytes is some = absurd (some ((Decides-eqb page 0).0 is))
before_by false page bytes is some = refl

before_is : (state : State) (process page : ℕ) (found : Page) → page ≢ 0
    → find_page state.pages (Heap process (page - 1)) ≡ Some found → found.executable ≡ true
    → bytes_before state process page ≡ drop 4094 found.bytes
before_is state process page found some there executable =
    before_by (page == 0) page _ refl some
    ∙ ap (λ bytes. drop 4094 bytes) (executable_of (find_page state.pages (Heap process (page - 1))) found there executable)

behind_is : (state : State) (process page : ℕ) (found : Page) → find_page state.pages (Heap process (page + 1)) ≡ Some found
    → found.executable ≡ true
    → bytes_behind state process page ≡ take 2 found.bytes
behind_is state process page found there executable =
    ap (λ bytes. take 2 bytes) (executable_of (find_page state.pages (Heap process (page + 1))) found there executable)

-- a byte in the page before
in_before : (state : State) (process page place byte : ℕ) → AreCodePagesSound state.pages → place / 4096 + 1 ≡ page
    → 4094 ≤ place % 4096
    → code_byte state.pages (Heap process) place ≡ Some byte
    → (length (bytes_before state process page) ≡ 2) × (get_or (bytes_before state process page) (place % 4096 - 4094) 0 ≡ byte)
in_before state process page place byte sound next last is =
    let found = heap_byte state.pages process place byte is in
    let number : place / 4096 ≡ page - 1 = omega arith in
    let there : find_page state.pages (Heap process (page - 1)) ≡ Some found.page =
    subst (λ n. find_page state.pages (Heap process n) ≡ Some found.page) number found.there in
    let size : length found.page.bytes ≡ 4096 = sound.sizes (Heap process (page - 1)) found.page there in
    let same = before_is state process page found.page (λ zero. omega arith) there found.executable in
    let offset : 4094 + (place % 4096 - 4094) ≡ place % 4096 = omega arith in (
      ap length same ∙ (length-drop 4094 found.page.bytes ∙ ap (λ n. n - 4094) size),
      ap (λ bytes. get_or bytes (place % 4096 - 4094) 0) same ∙ (get_or-drop 4094 found.page.bytes (place % 4096 - 4094) 0
          ∙ (ap (λ n. get_or found.page.bytes n 0) offset ∙ found.has)),
    )

-- a byte in the page behind
in_behind : (state : State) (process page place byte : ℕ) → place / 4096 ≡ page + 1 → place % 4096 < 2
    → code_byte state.pages (Heap process) place ≡ Some byte → get_or (bytes_behind state process page) (place % 4096) 0 ≡ byte
in_behind state process page place byte next first is =
    let found = heap_byte state.pages process place byte is in
    let there : find_page state.pages (Heap process (page + 1)) ≡ Some found.page =
    subst (λ n. find_page state.pages (Heap process n) ≡ Some found.page) next found.there in
    ap (λ bytes. get_or bytes (place % 4096) 0) (behind_is state process page found.page there found.executable)
    ∙ (get_or-take 2 found.page.bytes (place % 4096) 0 first ∙ found.has)

-- ---- to execute mode: the three parts of the list

first_part : (before here behind : List ℕ) (index : ℕ) → index < length before
    → get_or (before ++ (here ++ behind)) index 0 ≡ get_or before index 0
first_part before here behind index inside = get_or_append_left before (here ++ behind) 0 index inside

second_part : (before here behind : List ℕ) (index offset : ℕ) → index ≡ length before + offset → offset < length here
    → get_or (before ++ (here ++ behind)) index 0 ≡ get_or here offset 0
second_part before here behind index offset at inside =
    ap (λ n. get_or (before ++ (here ++ behind)) n 0) at
    ∙ (get_or-append-add before (here ++ behind) offset 0 ∙ get_or_append_left here behind 0 offset inside)

third_part : (before here behind : List ℕ) (index offset : ℕ) → index ≡ length before + (length here + offset)
    → get_or (before ++ (here ++ behind)) index 0 ≡ get_or behind offset 0
third_part before here behind index offset at =
    ap (λ n. get_or (before ++ (here ++ behind)) n 0) at
    ∙ (get_or-append-add before (here ++ behind) (length here + offset) 0 ∙ get_or-append-add here behind offset 0)

-- the page, found, and the bytes that are searched
record IsSearched (state : State) (process page : ℕ) (one : Page) : Type 0 where
  sound : AreCodePagesSound state.pages
  there : find_page state.pages (Heap process page) ≡ Some one

abbrev searched : State → ℕ → ℕ → Page → List ℕ
searched state process page one = bytes_before state process page ++ (one.bytes ++ bytes_behind state process page)

-- where a byte stands in them that may be fetched once the page is executable, no further from the page than two bytes
byte_searched : (state : State) (process page : ℕ) (one : Page) → IsSearched state process page one → (place index byte : ℕ)
    → 4096 * page ≤ place + 2 → place < 4096 * page + 4098
    → 4096 * page + index ≡ place + length (bytes_before state process page)
    → code_byte (with_mode state.pages (Heap process page) true) (Heap process) place ≡ Some byte
    → get_or (searched state process page one) index 0 ≡ byte
byte_searched state process page one is place index byte low high at has =
    let size : length one.bytes ≡ 4096 = is.sound.sizes (Heap process page) one is.there in
    elim (cases_lt place (4096 * page)) [
      | inl less ↦
          let old = sym (elsewhere state.pages process page place true (λ same. omega arith)) ∙ has in
          let found = in_before state process page place byte is.sound (omega arith) (omega arith) old in
          let offset : index ≡ place % 4096 - 4094 = omega (arith, found.0) in
          first_part (bytes_before state process page) one.bytes (bytes_behind state process page) index (omega (arith, found.0))
          ∙ (ap (λ n. get_or (bytes_before state process page) n 0) offset ∙ found.1)
      | inr behind ↦ elim (cases_lt place (4096 * page + 4096)) [
        | inl inside ↦
            let here : place / 4096 ≡ page = omega arith in
            let found =
            heap_fetched process page (option_map (with_executable true) (find_page state.pages (Heap process page)))
            (place % 4096) byte
            (sym (within state.pages process page place true here) ∙ has) in
            let same : with_executable true one ≡ found.page = same_some (with_executable true one) found.page
            (ap (λ f. option_map (with_executable true) f) (sym is.there) ∙ found.there) in
            second_part (bytes_before state process page) one.bytes (bytes_behind state process page) index (place % 4096)
            (omega arith) (omega arith)
            ∙ (ap (λ (p : Page). get_or p.bytes (place % 4096) 0) same ∙ found.has)
        | inr past ↦
            let next : place / 4096 ≡ page + 1 = omega arith in
            let old = sym (elsewhere state.pages process page place true (λ same. omega arith)) ∙ has in
            third_part (bytes_before state process page) one.bytes (bytes_behind state process page) index (place % 4096)
            (omega arith)
            ∙ in_behind state process page place byte next (omega arith) old
      ]
    ]

-- ---- to execute mode

-- the search found none in them
none_searched : (state : State) (process page : ℕ) (one : Page) → find_page state.pages (Heap process page) ≡ Some one
    → heap_pattern state process page ≡ None
    → first_pattern (searched state process page one) ≡ None
unfolding heap_pattern
none_searched state process page one there none =
    ap (λ found. pattern_around (bytes_before state process page) (bytes_behind state process page) found) (sym there)
    ∙ none_mapped (heap_address page (length (bytes_before state process page))) _ none

-- the pattern touches the page
touching : (state : State) (process page : ℕ) (one : Page) → IsSearched state process page one
    → heap_pattern state process page ≡ None → (place : ℕ)
    → 4096 * page ≤ place + 2 → place < 4096 * page + 4096 → 4096 * page ≤ place + length (bytes_before state process page)
    → ¬ HasCodePatternAt (code_byte (with_mode state.pages (Heap process page) true) (Heap process)) place
touching state process page one is none place low high from stands =
    let index : ℕ = place + length (bytes_before state process page) - 4096 * page in
    no_first (searched state process page one) (none_searched state process page one is.there none) index (
      byte_searched state process page one is place index 0x0F low (omega arith) (omega arith) stands.0,
      byte_searched state process page one is (place + 1) (index + 1) 0x01 (omega arith) (omega arith) (omega arith) stands.1,
      byte_searched state process page one is (place + 2) (index + 2) 0xD4 (omega arith) (omega arith) (omega arith) stands.2,
    )

-- before it stand two bytes, where the pattern begins there
from_before : (state : State) (process page : ℕ) → AreCodePagesSound state.pages → (place byte : ℕ) → 4096 * page ≤ place + 2
    → code_byte (with_mode state.pages (Heap process page) true) (Heap process) place ≡ Some byte
    → 4096 * page ≤ place + length (bytes_before state process page)
from_before state process page sound place byte low has = elim (cases_lt place (4096 * page)) [
  | inl less ↦
      let found =
      in_before state process page place byte sound (omega arith) (omega arith)
      (sym (elsewhere state.pages process page place true (λ same. omega arith)) ∙ has) in
      omega (arith, found.0)
  | inr behind ↦ omega arith
]

apart_from : (pages : List Page) (process page place byte : ℕ) (executable : Bool) → place / 4096 ≢ page
    → code_byte (with_mode pages (Heap process page) executable) (Heap process) place ≡ Some byte
    → code_byte pages (Heap process) place ≡ Some byte
apart_from pages process page place byte executable apart has = sym (elsewhere pages process page place executable apart) ∙ has

executed_page : (state : State) (process page : ℕ) (one : Page) → IsSearched state process page one
    → heap_pattern state process page ≡ None
    → HasNoCodePattern (code_byte (with_mode state.pages (Heap process page) true) (Heap process))
executed_page state process page one is none place stands =
    let apart : (place / 4096 ≢ page) → ((place + 1) / 4096 ≢ page) → ((place + 2) / 4096 ≢ page) → ⊥ =
    λ first second third. is.sound.heap process place (
      apart_from state.pages process page place 0x0F true first stands.0,
      apart_from state.pages process page (place + 1) 0x01 true second stands.1,
      apart_from state.pages process page (place + 2) 0xD4 true third stands.2,
    ) in
    elim (cases_lt (place + 2) (4096 * page)) [
      | inl before ↦ apart (λ same. omega arith) (λ same. omega arith) (λ same. omega arith)
      | inr low ↦ elim (cases_lt place (4096 * page + 4096)) [
        | inl high ↦ touching state process page one is none place low high
            (from_before state process page is.sound place 0x0F low stands.0) stands
        | inr behind ↦ apart (λ same. omega arith) (λ same. omega arith) (λ same. omega arith)
      ]
    ]

-- where the page is not there
absent : (pages : List Page) (process page place byte : ℕ) → find_page pages (Heap process page) ≡ None
    → code_byte (with_mode pages (Heap process page) true) (Heap process) place ≡ Some byte
    → code_byte pages (Heap process) place ≡ Some byte
absent pages process page place byte none has = elim (cases_eq (place / 4096) page) [
  | inl here ↦
      absurd (none_some _ byte
      (within pages process page place true here
      ∙ ap (λ found. fetched_byte (Heap process page) (option_map (with_executable true) found) (place % 4096)) none) has)
  | inr apart ↦ apart_from pages process page place byte true apart has
]

executed_heap : (state : State) (process page : ℕ) (found : Option Page) → find_page state.pages (Heap process page) ≡ found
    → AreCodePagesSound state.pages
    → heap_pattern state process page ≡ None
    → HasNoCodePattern (code_byte (with_mode state.pages (Heap process page) true) (Heap process))
executed_heap state process page None there sound none = λ place stands.
    sound.heap process place (
      absent state.pages process page place 0x0F there stands.0,
      absent state.pages process page (place + 1) 0x01 there stands.1,
      absent state.pages process page (place + 2) 0xD4 there stands.2,
    )
executed_heap state process page (Some one) there sound none =
    executed_page state process page one (record { sound = sound; there = there }) none

-- ---- either mode

changed_heap : (state : State) (process page : ℕ) (executable : Bool) → AreCodePagesSound state.pages
    → (executable ≡ true → heap_pattern state process page ≡ None)
    → HasNoCodePattern (code_byte (with_mode state.pages (Heap process page) executable) (Heap process))
changed_heap state process page true sound harmless =
    executed_heap state process page (find_page state.pages (Heap process page)) refl sound (harmless refl)
changed_heap state process page false sound harmless = written_heap state.pages process page (sound.heap process)

-- another process's heap
other_heap : (state : State) (process page other : ℕ) (executable : Bool) → other ≢ process
    → SameCode state.pages (with_mode state.pages (Heap process page) executable) (Heap other)
other_heap state process page other executable apart =
    code_where_found state.pages (with_mode state.pages (Heap process page) executable) (Heap other)
    (λ number. mode_other state.pages (Heap process page) (Heap other number) executable
    (name_other (Heap process page) (Heap other number) (λ same. apart (let equal : process ≡ other = cc in sym equal))))

each_heap : (state : State) (process page other : ℕ) (executable : Bool) → AreCodePagesSound state.pages
    → (executable ≡ true → heap_pattern state process page ≡ None)
    → HasNoCodePattern (code_byte (with_mode state.pages (Heap process page) executable) (Heap other))
each_heap state process page other executable sound harmless = elim (cases_eq other process) [
  | inl same ↦
      subst (λ n. HasNoCodePattern (code_byte (with_mode state.pages (Heap process page) executable) (Heap n))) (sym same)
      (changed_heap state process page executable sound harmless)
  | inr apart ↦
      no_pattern_kept state.pages (with_mode state.pages (Heap process page) executable) (Heap other)
      (other_heap state process page other executable apart) (sound.heap other)
]

mode_size : (found : Option Page) (page' : Page) (executable : Bool) → option_map (with_executable executable) found ≡ Some page'
    → ((page : Page) → found ≡ Some page → length page.bytes ≡ 4096) → length page'.bytes ≡ 4096
mode_size None page' executable is sizes = absurd cc
mode_size (Some page) page' executable is sizes =
    subst (λ (p : Page). length p.bytes ≡ 4096) (same_some (with_executable executable page) page' is) (sizes page refl)

changed_size : (test : Bool) (pages : List Page) (name other : PageName) (page' : Page) (executable : Bool)
    → same_name name other ≡ test
    → ((page : Page) → find_page pages other ≡ Some page → length page.bytes ≡ 4096)
    → find_page (with_mode pages name executable) other ≡ Some page'
    → length page'.bytes ≡ 4096
changed_size true pages name other page' executable is sizes found =
    let one : other ≡ name = sym (name_same name other is) in
    mode_size (find_page pages name) page' executable
    (sym (mode_same pages name executable) ∙ subst (λ n. find_page (with_mode pages name executable) n ≡ Some page') one found)
    (λ page there. sizes page (subst (λ n. find_page pages n ≡ Some page) (sym one) there))
changed_size false pages name other page' executable is sizes found =
    sizes page' (sym (mode_other pages name other executable is) ∙ found)

mode_page : (pages : List Page) (process page : ℕ) (other : PageName) (executable : Bool) (bytes : List ℕ)
    → same_name (Heap process page) other ≡ false
    → HasPage pages other bytes → HasPage (with_mode pages (Heap process page) executable) other bytes
mode_page pages process page other executable bytes apart (one, there, has) =
    (one, mode_other pages (Heap process page) other executable apart ∙ there, has)

pub mode_sound : (state : State) (process page : ℕ) (executable : Bool)
    → (executable ≡ true → heap_pattern state process page ≡ None)
    → AreCodePagesSound state.pages → AreCodePagesSound (with_mode state.pages (Heap process page) executable)
unfolding same_name
mode_sound state process page executable harmless sound = record {
  sizes = λ name page' is. changed_size (same_name (Heap process page) name) state.pages
      (Heap process page) name page' executable refl (sound.sizes name) is;
  home = mode_page state.pages process page HomeTrampoline executable _ refl sound.home;
  server = mode_page state.pages process page ServerTrampoline executable _ refl sound.server;
  text = λ other. no_pattern_kept state.pages (with_mode state.pages (Heap process page) executable) (Text other)
      (code_where_found state.pages (with_mode state.pages (Heap process page) executable) (Text other)
      (λ number. mode_other state.pages (Heap process page) (Text other number) executable refl)) (sound.text other);
  area = λ other. no_pattern_kept state.pages (with_mode state.pages (Heap process page) executable) (Area other)
      (code_where_found state.pages (with_mode state.pages (Heap process page) executable) (Area other)
      (λ number. mode_other state.pages (Heap process page) (Area other number) executable refl)) (sound.area other);
  heap = λ other. each_heap state process page other executable sound harmless;
}
