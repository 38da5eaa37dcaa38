-- A number that is stored in one page.
use Rattle.std.proofs.Common.{◌≡◌, ℕ, zero, suc, ◌+◌, ◌/◌, ◌%◌, ◌^◌, ◌<◌, ◌≤◌, List, [], ◌∷◌, Ok, Err, refl, ap, sym, ◌∙◌, arith}
use Rattle.std.specs.Prelude.{Some, slice_set}
use Rattle.std.specs.Int.{byte_at, bytes_low_first}
use Rattle.std.proofs.lemmas.List.Edits.{sets}
use Rattle.std.proofs.Math.Nat.{pow-suc, div-div-eq-div-mul}
use Rattle.sb_memory.specs.declared.address.Access.TheVariants.{Write}
use Rattle.sb_bus.specs.declared.stop.BusStop.{BusStop}
use Rattle.sb_bus.specs.Access.{byte_for, store_answer}
use Rattle.sb_bus.proofs.Loads.{stored_where_loaded, stops_where_loaded}
use Rattle.sb_pages.specs.declared.page.PageName.{PageName}
use Rattle.sb_pages.specs.declared.page.Page.{Page}
use Rattle.sb_pages.specs.PageLists.{find_page}
use Rattle.sb_state.specs.State.{State, contents, with_contents}
use Rattle.sb_state.specs.PlainMemory.{plain_byte, ByteToPut, put_byte, bytes_to_put, put_all, plain_stored}
use Rattle.sb_pages.proofs.PageLists.{found_same}
use Rattle.sb_state.proofs.Contents.{contents_own, contents_there, contents_twice}
use Rattle.sb_pages.specs.PageWords.{put_number}
use Rattle.sb_state.specs.NameForAccess.{name_for_access}
use Rattle.sb_state.specs.PagePlaces.{page_place_at}
use Rattle.sb_state.proofs.InPage.{further, reached_again, number_in_page, number_refused}
use Rattle.sb_state.proofs.PagePlaces.{placed_first}

-- ---- bytes that are put one after another into one page

-- bytes that are to be put into a page from a place on
abbrev pub placed_from : PageName → ℕ → List ℕ → List ByteToPut
placed_from name offset [] = []
placed_from name offset (byte ∷ bytes) =
    record { name = name; offset = offset; value = byte } ∷ placed_from name (suc offset) bytes

found_given : (state : State) (name : PageName) (page : Page) (bytes : List ℕ) → find_page state.pages name ≡ Some page
    → find_page (with_contents state name bytes).pages name ≡ Some (record page { bytes = bytes })
unfolding with_contents
found_given state name page bytes found = rw (found_same state.pages name bytes, found) refl

-- byte by byte, or all at once
pub puts_sets : (bytes : List ℕ) (state : State) (name : PageName) (page : Page) (offset : ℕ)
    → find_page state.pages name ≡ Some page
    → put_all state (placed_from name offset bytes) ≡ with_contents state name (sets (contents state name) offset bytes)
unfolding put_byte
puts_sets [] state name page offset found = sym (contents_own state name)
puts_sets (byte ∷ bytes) state name page offset found =
    let first : List ℕ = slice_set (contents state name) offset byte in
    puts_sets bytes (with_contents state name first) name (record page { bytes = first }) (suc offset)
    (found_given state name page first found)
    ∙ ap (λ (now : List ℕ). with_contents (with_contents state name first) name (sets now (suc offset) bytes))
    (contents_there state name page first found)
    ∙ contents_twice state name first (sets first (suc offset) bytes)

-- ---- the bytes of a number

abbrev low : ℕ → ℕ → List ℕ
low zero value = []
low (suc count) value = value % 256 ∷ low count (value / 256)

byte_is : (index value : ℕ) → value / 256 ^ index % 256 ≡ byte_at index value
byte_is zero value = let whole : value / 256 ^ 0 ≡ value = omega arith in ap (λ (n : ℕ). n % 256) whole
byte_is (suc index) value = refl

low_bytes : (count index value : ℕ) → low count (value / 256 ^ index) ≡ bytes_low_first index count value
low_bytes zero index value = refl
low_bytes (suc count) index value =
    let shift : value / 256 ^ index / 256 ≡ value / 256 ^ suc index =
    div-div-eq-div-mul value (256 ^ index) 256 ∙ ap (λ (p : ℕ). value / p) (sym (pow-suc 256 index)) in
    ap (λ (byte : ℕ). byte ∷ low count (value / 256 ^ index / 256)) (byte_is index value)
    ∙ ap (λ (others : List ℕ). byte_at index value ∷ others) (ap (λ (n : ℕ). low count n) shift
    ∙ low_bytes count (suc index) value)

-- ---- a store in one page

page_place_of : (thread view : ℕ) (state : State) (address : ℕ) (name : PageName)
    → name_for_access thread view state address Write ≡ Ok name
    → page_place_at thread view state address ≡ Ok (record { name = name; offset = address % 4096 })
unfolding page_place_at
page_place_of thread view state address name is = rw is refl

placed_on : (size thread view : ℕ) (state : State) (address index value : ℕ) (name : PageName) → address < 2 ^ 64
    → address % 4096 + index + size ≤ 4096 → name_for_access thread view state address Write ≡ Ok name
    → bytes_to_put state thread view (further address index) size value
    ≡ placed_from name (address % 4096 + index) (low size value)
unfolding bytes_to_put
placed_on zero thread view state address index value name fits inside is = refl
placed_on (suc size) thread view state address index value name fits inside is =
    let same : further address index / 4096 ≡ address / 4096 = omega (arith, fits, inside) in
    let place : further address index % 4096 ≡ address % 4096 + index = omega (arith, fits, inside) in
    let next : (further address index + 1) % 2 ^ 64 ≡ further address (suc index) = omega (arith, fits) in
    let behind : address % 4096 + suc index ≡ suc (address % 4096 + index) = omega arith in
    let others = placed_on size thread view state address (suc index) (value / 256) name fits (omega (arith, inside)) is in
    let page_place : page_place_at thread view state (further address index)
    ≡ Ok (record { name = name; offset = further address index % 4096 }) =
    page_place_of thread view state (further address index) name
    (reached_again thread view state address _ Write name same is) in
    placed_first thread view state (further address index) (value % 256)
    (record { name = name; offset = further address index % 4096 }) _ page_place
    ∙ rw (next, others, place, behind) refl

-- a number whose bytes end in the page in which they begin
pub number_stored : (thread view : ℕ) (state : State) (address size value : ℕ) (name : PageName) (page : Page) → address < 2 ^ 64
    → address % 4096 + size ≤ 4096 → name_for_access thread view state address Write ≡ Ok name
    → find_page state.pages name ≡ Some page
    → plain_stored thread view state address size value
    ≡ with_contents state name (put_number (contents state name) (address % 4096) size value)
unfolding plain_stored put_number
number_stored thread view state address size value name page fits inside is found =
    let here : further address 0 ≡ address = omega (arith, fits) in
    let place : address % 4096 + 0 ≡ address % 4096 = omega arith in
    let whole : value / 256 ^ 0 ≡ value = omega arith in
    let list : bytes_to_put state thread view (further address 0) size value
    ≡ placed_from name (address % 4096 + 0) (low size value) =
    placed_on size thread view state address 0 value name fits (omega (arith, inside)) is in
    let bytes : low size value ≡ bytes_low_first 0 size value =
    ap (λ (n : ℕ). low size n) (sym whole) ∙ low_bytes size 0 value in
    ap (λ (at : ℕ). put_all state (bytes_to_put state thread view at size value)) (sym here)
    ∙ ap (λ (all : List ByteToPut). put_all state all) list
    ∙ ap (λ (all : List ℕ). put_all state (placed_from name (address % 4096 + 0) all)) bytes
    ∙ ap (λ (at : ℕ). put_all state (placed_from name at (bytes_low_first 0 size value))) place
    ∙ puts_sets (bytes_low_first 0 size value) state name page (address % 4096) found

pub number_may_be_stored : (thread view : ℕ) (state : State) (address size : ℕ) (name : PageName) (page : Page)
    → address < 2 ^ 64
    → address % 4096 + size ≤ 4096 → name_for_access thread view state address Write ≡ Ok name
    → find_page state.pages name ≡ Some page
    → store_answer (byte_for (plain_byte thread view state) Write) address size ≡ Ok tt
number_may_be_stored thread view state address size name page fits inside is found =
    stored_where_loaded (byte_for (plain_byte thread view state) Write) address size _
    (number_in_page thread view state address size Write name page fits inside is found)

pub number_not_stored : (thread view : ℕ) (state : State) (address size : ℕ) (stop : BusStop) → 0 < size
    → name_for_access thread view state address Write ≡ Err stop
    → store_answer (byte_for (plain_byte thread view state) Write) address size ≡ Err stop
number_not_stored thread view state address size stop some is =
    stops_where_loaded (byte_for (plain_byte thread view state) Write) address size stop
    (number_refused thread view state address size Write stop some is)
