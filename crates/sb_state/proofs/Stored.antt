-- A store puts its bytes where its addresses lead, and changes no others.
use Rattle.std.proofs.Common.{◌≡◌, ◌≢◌, ◌∙◌, sym, ap, subst, ℕ, zero, suc, ◌+◌, ◌/◌, ◌%◌, ◌^◌, ◌<◌, Bool, true, false, List, [], ◌∷◌, length, length-set, refl, arith}
use Rattle.std.specs.Prelude.{Option, Some, None, slice_index, slice_set}
use Rattle.std.specs.Option.{option_map}
use Rattle.std.proofs.Math.Nat.{pow-suc, div-div-eq-div-mul, mul_comm}
use Rattle.std.proofs.lemmas.List.{get_or-set_same, get_or-set_other}
use Rattle.sb_pages.specs.declared.page.PageName.{PageName}
use Rattle.sb_pages.specs.declared.page.Page.{Page}
use Rattle.sb_pages.specs.declared.page.SeenPage.{SeenPage}
use Rattle.sb_pages.specs.PageName.{same_name}
use Rattle.sb_state.specs.PlainMemory.{ByteToPut, byte_in, put_byte, put_all, with_byte_to_put, bytes_to_put, plain_stored}
use Rattle.sb_pages.specs.PageLists.{find_page, bytes_of}
use Rattle.sb_state.specs.State.{State, contents, with_contents}
use Rattle.sb_state.specs.Windows.{page_for}
use Rattle.sb_pages.proofs.Names.{name_same}
use Rattle.sb_pages.proofs.PageLists.{with_bytes, found_other, found_same}

-- ---- one byte

-- a page that is there gets the bytes, and one that is not has none
given : (found : Option Page) (offset other value : ℕ) → other ≢ offset
    → slice_index (bytes_of (option_map (with_bytes (slice_set (bytes_of found) offset value)) found)) other
    ≡ slice_index (bytes_of found) other
given None offset other value apart = refl
given (Some page) offset other value apart = get_or-set_other page.bytes offset other value _ apart

put_by : (test : Bool) (state : State) (name other : PageName) (offset place value : ℕ) → same_name name other ≡ test
    → (name ≡ other → offset ≢ place) → byte_in (put_byte state name offset value) other place ≡ byte_in state other place
unfolding put_byte with_contents contents
put_by true state name other offset place value is apart =
    let same = name_same name other is in
    subst
    (λ (one : PageName). byte_in (put_byte state name offset value) one place ≡ byte_in state one place) same
    (ap (λ found. slice_index (bytes_of found) place) (found_same state.pages name (slice_set (contents state name) offset value))
    ∙ given (find_page state.pages name) offset place value (λ e. apart same (sym e)))
put_by false state name other offset place value is apart =
    ap (λ found. slice_index (bytes_of found) place)
    (found_other state.pages name other (slice_set (contents state name) offset value) is)

-- ---- the bytes of a store

-- none of these bytes is put at this place
abbrev AllBeside : PageName → ℕ → List ByteToPut → Type 0
AllBeside name place [] = Unit {0}
AllBeside name place (byte ∷ bytes) = (byte.name ≡ name → byte.offset ≢ place) × AllBeside name place bytes

put_beside : (state : State) (bytes : List ByteToPut) (name : PageName) (place : ℕ) → AllBeside name place bytes
    → byte_in (put_all state bytes) name place ≡ byte_in state name place
put_beside state [] name place beside = refl
put_beside state (byte ∷ bytes) name place beside =
    put_beside (put_byte state byte.name byte.offset byte.value) bytes name place beside.1
    ∙ put_by (same_name byte.name name) state byte.name name byte.offset place byte.value refl beside.0

placed_beside : (seen : Option SeenPage) (address value : ℕ) (bytes : List ByteToPut) (name : PageName) (place : ℕ)
    → ((page : SeenPage) → seen ≡ Some page → page.name ≡ name → address % 4096 ≢ place)
    → AllBeside name place bytes → AllBeside name place (with_byte_to_put seen address value bytes)
placed_beside None address value bytes name place apart beside = beside
placed_beside (Some page) address value bytes name place apart beside = (apart page refl, beside)

beside_all : (state : State) (thread view address size value : ℕ) (name : PageName) (place : ℕ) → address < 2 ^ 64
    → ((k : ℕ) (page : SeenPage) → k < size → page_for state thread view ((address + k) % 2 ^ 64 / 4096) ≡ Some page
    → page.name ≡ name → (address + k) % 2 ^ 64 % 4096 ≢ place)
    → AllBeside name place (bytes_to_put state thread view address size value)
unfolding bytes_to_put
beside_all state thread view address zero value name place small apart = tt
beside_all state thread view address (suc size) value name place small apart =
    let start : (address + 0) % 2 ^ 64 ≡ address = omega arith in
    placed_beside (page_for state thread view (address / 4096)) address (value % 256)
    (bytes_to_put state thread view ((address + 1) % 2 ^ 64) size (value / 256)) name place
    (subst (λ (at : ℕ). (page : SeenPage) → page_for state thread view (at / 4096) ≡ Some page → page.name ≡ name
    → at % 4096 ≢ place) start (λ page. apart 0 page (omega arith)))
    (beside_all state thread view ((address + 1) % 2 ^ 64) size (value / 256) name place (omega arith)
    (λ k page few.
    let same : (address + suc k) % 2 ^ 64 ≡ ((address + 1) % 2 ^ 64 + k) % 2 ^ 64 = omega arith in
    subst (λ (at : ℕ). page_for state thread view (at / 4096) ≡ Some page → page.name ≡ name → at % 4096 ≢ place) same
    (apart (suc k) page (omega arith))))

-- where no address of a store leads, each byte stays
pub stored_elsewhere : (thread view : ℕ) (state : State) (address size value : ℕ) (name : PageName) (offset : ℕ)
    → address < 2 ^ 64
    → ((k : ℕ) (page : SeenPage) → k < size → page_for state thread view ((address + k) % 2 ^ 64 / 4096) ≡ Some page
    → page.name ≡ name → (address + k) % 2 ^ 64 % 4096 ≢ offset)
    → byte_in (plain_stored thread view state address size value) name offset ≡ byte_in state name offset
unfolding plain_stored
stored_elsewhere thread view state address size value name offset small apart =
    put_beside state (bytes_to_put state thread view address size value) name offset
    (beside_all state thread view address size value name offset small apart)

-- ---- what is put

length_given : (found : Option Page) (offset value : ℕ)
    → length (bytes_of (option_map (with_bytes (slice_set (bytes_of found) offset value)) found)) ≡ length (bytes_of found)
length_given None offset value = refl
length_given (Some page) offset value = length-set page.bytes offset value

length_by : (test : Bool) (state : State) (name other : PageName) (offset value : ℕ) → same_name name other ≡ test
    → length (contents (put_byte state name offset value) other) ≡ length (contents state other)
unfolding put_byte with_contents contents
length_by true state name other offset value is =
    subst
    (λ (one : PageName). length (contents (put_byte state name offset value) one) ≡ length (contents state one))
    (name_same name other is)
    (ap (λ found. length (bytes_of found)) (found_same state.pages name (slice_set (contents state name) offset value))
    ∙ length_given (find_page state.pages name) offset value)
length_by false state name other offset value is =
    ap (λ found. length (bytes_of found)) (found_other state.pages name other (slice_set (contents state name) offset value) is)

placed : (found : Option Page) (offset value : ℕ) → offset < length (bytes_of found)
    → slice_index (bytes_of (option_map (with_bytes (slice_set (bytes_of found) offset value)) found)) offset ≡ value
placed None offset value inside = let nothing : offset < 0 = inside in absurd (omega arith)
placed (Some page) offset value inside = get_or-set_same page.bytes offset value _ inside

put_there : (state : State) (name : PageName) (offset value : ℕ) → offset < length (contents state name)
    → byte_in (put_byte state name offset value) name offset ≡ value
unfolding put_byte with_contents contents
put_there state name offset value inside =
    ap (λ found. slice_index (bytes_of found) offset) (found_same state.pages name (slice_set (contents state name) offset value))
    ∙ placed (find_page state.pages name) offset value inside

-- the state before the other bytes are put
abbrev after_first : Option SeenPage → ℕ → ℕ → State → State
after_first None address value now = now
after_first (Some page) address value now = put_byte now page.name (address % 4096) value

first_put : (seen : Option SeenPage) (address value : ℕ) (bytes : List ByteToPut) (now : State)
    → put_all now (with_byte_to_put seen address value bytes) ≡ put_all (after_first seen address value now) bytes
first_put None address value bytes now = refl
first_put (Some page) address value bytes now = refl

length_first : (seen : Option SeenPage) (address value : ℕ) (now : State) (name : PageName)
    → length (contents (after_first seen address value now) name) ≡ length (contents now name)
length_first None address value now name = refl
length_first (Some page) address value now name =
    length_by (same_name page.name name) now page.name name (address % 4096) value refl

-- where an address of a store leads, and no later one, the number's byte is put
put_reached : (size k : ℕ) (now state : State) (thread view address value : ℕ) (page : SeenPage) → address < 2 ^ 64 → k < size
    → page_for state thread view ((address + k) % 2 ^ 64 / 4096) ≡ Some page
    → (address + k) % 2 ^ 64 % 4096 < length (contents now page.name)
    → ((j : ℕ) (other : SeenPage) → k < j → j < size → page_for state thread view ((address + j) % 2 ^ 64 / 4096) ≡ Some other
    → other.name ≡ page.name → (address + j) % 2 ^ 64 % 4096 ≢ (address + k) % 2 ^ 64 % 4096)
    → byte_in (put_all now (bytes_to_put state thread view address size value)) page.name ((address + k) % 2 ^ 64 % 4096)
    ≡ value / 256 ^ k % 256
unfolding bytes_to_put
put_reached zero k now state thread view address value page small few seen inside last = absurd (omega arith)
put_reached (suc size) zero now state thread view address value page small few seen inside last =
    let start : (address + 0) % 2 ^ 64 ≡ address = omega arith in
    let here : page_for state thread view (address / 4096) ≡ Some page =
    subst (λ (at : ℕ). page_for state thread view (at / 4096) ≡ Some page) start seen in
    let whole : value / 256 ^ 0 ≡ value = omega arith in
    let others = bytes_to_put state thread view ((address + 1) % 2 ^ 64) size (value / 256) in
    let beside : AllBeside page.name (address % 4096) others =
    beside_all state thread view ((address + 1) % 2 ^ 64) size (value / 256) page.name (address % 4096) (omega arith)
    (λ j other below.
    let same : (address + suc j) % 2 ^ 64 ≡ ((address + 1) % 2 ^ 64 + j) % 2 ^ 64 = omega arith in
    subst (λ (at : ℕ). page_for state thread view (at / 4096) ≡ Some other → other.name ≡ page.name → at % 4096 ≢ address % 4096)
    same
    (subst (λ (at : ℕ). page_for state thread view ((address + suc j) % 2 ^ 64 / 4096) ≡ Some other → other.name ≡ page.name
    → (address + suc j) % 2 ^ 64 % 4096 ≢ at % 4096) start (last (suc j) other (omega arith) (omega arith)))) in
    let there : address % 4096 < length (contents now page.name) =
    subst (λ (at : ℕ). at % 4096 < length (contents now page.name)) start inside in
    ap (λ (at : ℕ).
    byte_in (put_all now (with_byte_to_put (page_for state thread view (address / 4096)) address (value % 256) others))
    page.name (at % 4096)) start
    ∙ (ap (λ found. byte_in (put_all now (with_byte_to_put found address (value % 256) others)) page.name (address % 4096)) here
    ∙ (put_beside (put_byte now page.name (address % 4096) (value % 256)) others page.name (address % 4096) beside
    ∙ (put_there now page.name (address % 4096) (value % 256) there ∙ ap (λ (n : ℕ). n % 256) (sym whole))))
put_reached (suc size) (suc k) now state thread view address value page small few seen inside last =
    let next = (address + 1) % 2 ^ 64 in
    let found = page_for state thread view (address / 4096) in
    let same : (j : ℕ) → (address + suc j) % 2 ^ 64 ≡ ((address + 1) % 2 ^ 64 + j) % 2 ^ 64 = λ j. omega arith in
    let moved = after_first (page_for state thread view (address / 4096)) address (value % 256) now in
    let more = put_reached size k moved state thread view ((address + 1) % 2 ^ 64) (value / 256) page (omega arith) (omega arith)
    (subst (λ (at : ℕ). page_for state thread view (at / 4096) ≡ Some page) (same k) seen)
    (subst (λ (count : ℕ). ((address + 1) % 2 ^ 64 + k) % 2 ^ 64 % 4096 < count)
    (sym (length_first (page_for state thread view (address / 4096)) address (value % 256) now page.name))
    (subst (λ (at : ℕ). at % 4096 < length (contents now page.name)) (same k) inside))
    (λ j other above below.
    subst (λ (at : ℕ). page_for state thread view (at / 4096) ≡ Some other → other.name ≡ page.name
    → at % 4096 ≢ ((address + 1) % 2 ^ 64 + k) % 2 ^ 64 % 4096) (same j)
    (subst (λ (at : ℕ). page_for state thread view ((address + suc j) % 2 ^ 64 / 4096) ≡ Some other → other.name ≡ page.name
    → (address + suc j) % 2 ^ 64 % 4096 ≢ at % 4096) (same k) (last (suc j) other (omega arith) (omega arith)))) in
    ap (λ (at : ℕ). byte_in (put_all now (with_byte_to_put (page_for state thread view (address / 4096)) address (value % 256)
    (bytes_to_put state thread view ((address + 1) % 2 ^ 64) size (value / 256)))) page.name (at % 4096)) (same k)
    ∙ (ap (λ (after : State). byte_in after page.name (((address + 1) % 2 ^ 64 + k) % 2 ^ 64 % 4096))
    (first_put (page_for state thread view (address / 4096)) address (value % 256)
    (bytes_to_put state thread view ((address + 1) % 2 ^ 64) size (value / 256)) now)
    ∙ (more ∙ ap (λ (n : ℕ). n % 256)
    (div-div-eq-div-mul value 256 (256 ^ k) ∙ ap (λ (p : ℕ). value / p)
    (mul_comm 256 (256 ^ k) ∙ sym (pow-suc 256 k)))))

-- so each byte of the number is where its address led, unless a later one led there too
pub stored_there : (thread view : ℕ) (state : State) (address size value k : ℕ) (page : SeenPage) → address < 2 ^ 64 → k < size
    → page_for state thread view ((address + k) % 2 ^ 64 / 4096) ≡ Some page
    → (address + k) % 2 ^ 64 % 4096 < length (contents state page.name)
    → ((j : ℕ) (other : SeenPage) → k < j → j < size → page_for state thread view ((address + j) % 2 ^ 64 / 4096) ≡ Some other
    → other.name ≡ page.name → (address + j) % 2 ^ 64 % 4096 ≢ (address + k) % 2 ^ 64 % 4096)
    → byte_in (plain_stored thread view state address size value) page.name ((address + k) % 2 ^ 64 % 4096)
    ≡ value / 256 ^ k % 256
unfolding plain_stored
stored_there thread view state address size value k page small few seen inside last =
    put_reached size k state state thread view address value page small few seen inside last
