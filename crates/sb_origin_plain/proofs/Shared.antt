-- Loads and stores outside the scratch page, on two machines of which one is beside the other.
use Rattle.std.proofs.Common.{◌≡◌, ◌≢◌, ◌∙◌, sym, ap, subst, ℕ, zero, suc, ◌+◌, ◌/◌, ◌%◌, ◌^◌, Bool, true, false, List, [], ◌∷◌, slice_set, refl, arith, Result, Ok, Err}
use Rattle.std.specs.Prelude.{Option, Some, is_some}
use Rattle.std.specs.Option.{option_map}
use Rattle.sb_memory.specs.declared.address.Access.TheVariants.{Write}
use Rattle.sb_memory.specs.Outcome.{and_then, done}
use Rattle.sb_bus.specs.declared.stop.BusStop.{BusStop}
use Rattle.sb_pages.specs.declared.page.PageName.{PageName}
use Rattle.sb_pages.specs.declared.page.PageName.TheVariants.{Scratch}
use Rattle.sb_pages.specs.declared.page.SeenPage.{SeenPage}
use Rattle.sb_pages.specs.PageName.{same_name}
use Rattle.sb_exec.specs.Access.{bytes_from, store_answer, byte_for}
use Rattle.sb_exec.specs.Simulation.{named_answer, WhereOk, AgreeFrom}
use Rattle.sb_state.specs.State.{State, find_page, contents, with_contents, bytes_of}
use Rattle.sb_state.specs.Windows.{page_for, process_shown}
use Rattle.sb_state.specs.PlainMemory.{ByteToPut, plain_byte, put_byte, put_all, with_byte_to_put, bytes_to_put, plain_stored}
use Rattle.sb_state.proofs.Names.{name_same, name_other}
use Rattle.sb_state.proofs.PageLists.{with_bytes, found_same, found_other}
use Rattle.sb_state.proofs.StoredThreads.{put_threads}
use Rattle.sb_original.specs.Words.{Words}
use Rattle.sb_origin_plain.specs.Memory.{HasScratch, is_shared, AreBesideScratch, IsOutside, same_stop}
use Rattle.sb_origin_plain.proofs.Seen.{BothSee, written_alike}

-- ---- bytes that agree

pub own_answer : {Value : Type 0} (answer : Result Value BusStop) → named_answer same_stop answer ≡ answer
own_answer (Ok value) = refl
own_answer (Err stop) = refl

agree_where : (left : Result ℕ BusStop) (Claim : Type 0) → Claim → WhereOk left (λ _. Claim)
agree_where (Ok byte) Claim claim = claim
agree_where (Err stop) Claim claim = tt

outside_here : (address size : ℕ) → IsOutside address (suc size) → address / 4096 ≢ 0x70004
outside_here address size outside at =
    let same : (address + 0) % 2 ^ 64 / 4096 ≡ 0x70004 = omega (arith, at) in outside 0 (omega arith) same

outside_next : (address size : ℕ) → IsOutside address (suc size) → IsOutside ((address + 1) % 2 ^ 64) size
outside_next address size outside index below at =
    let same : (address + suc index) % 2 ^ 64 ≡ ((address + 1) % 2 ^ 64 + index) % 2 ^ 64 = omega arith in
    outside (suc index) (omega arith) (ap (λ (n : ℕ). n / 4096) same ∙ at)

-- bytes that are the same outside the scratch page agree there
pub agree_outside : (left right : ℕ → Result ℕ BusStop) →
    ((address : ℕ) → address / 4096 ≢ 0x70004 → right address ≡ left address)
    → (address size : ℕ) → IsOutside address size → AgreeFrom same_stop left right address size
unfolding AgreeFrom
agree_outside left right same address zero outside = tt
agree_outside left right same address (suc size) outside = (
  same address (outside_here address size outside) ∙ sym (own_answer (left address)),
  agree_where (left address) _
      (agree_outside left right same ((address + 1) % 2 ^ 64) size (outside_next address size outside)),
)

-- ---- bytes that are put into shared pages

abbrev AllShared : List ByteToPut → Type 0
AllShared [] = Unit {0}
AllShared (byte ∷ bytes) = (is_shared byte.name ≡ true) × AllShared bytes

shared_apart : (name : PageName) (thread view : ℕ) → is_shared name ≡ true → same_name name (Scratch thread view) ≡ false
unfolding is_shared
shared_apart name thread view shared =
    name_other name (Scratch thread view) (λ is.
    let no : false ≡ true = subst (λ n. is_shared n ≡ true) is shared in cc)

put_found : (test : Bool) (state other : State) (name one : PageName) (offset value : ℕ) → same_name name one ≡ test
    → find_page other.pages name ≡ find_page state.pages name → find_page other.pages one ≡ find_page state.pages one
    → find_page (put_byte other name offset value).pages one ≡ find_page (put_byte state name offset value).pages one
unfolding put_byte with_contents contents
put_found true state other name one offset value is same also =
    subst (λ n. find_page (put_byte other name offset value).pages n ≡ find_page (put_byte state name offset value).pages n)
    (name_same name one is)
    (found_same other.pages name (slice_set (bytes_of (find_page other.pages name)) offset value)
    ∙ (ap (λ found. option_map (with_bytes (slice_set (bytes_of found) offset value)) found) same
    ∙ sym (found_same state.pages name (slice_set (bytes_of (find_page state.pages name)) offset value))))
put_found false state other name one offset value is same also =
    found_other other.pages name one (slice_set (bytes_of (find_page other.pages name)) offset value) is
    ∙ (also ∙ sym (found_other state.pages name one (slice_set (bytes_of (find_page state.pages name)) offset value) is))

pub put_other : (state : State) (name one : PageName) (offset value : ℕ) → same_name name one ≡ false
    → find_page (put_byte state name offset value).pages one ≡ find_page state.pages one
unfolding put_byte with_contents contents
put_other state name one offset value apart =
    found_other state.pages name one (slice_set (bytes_of (find_page state.pages name)) offset value) apart

put_beside : (state other : State) (name : PageName) (offset value : ℕ) → is_shared name ≡ true → AreBesideScratch state other
    → AreBesideScratch (put_byte state name offset value) (put_byte other name offset value)
put_beside state other name offset value shared beside = record {
  shown = λ thread view.
      ap (λ threads. process_shown threads thread view) (put_threads other name offset value)
      ∙ (beside.shown thread view
      ∙ sym (ap (λ threads. process_shown threads thread view) (put_threads state name offset value)));
  pages = λ one also.
      put_found (same_name name one) state other name one offset value refl (beside.pages name shared) (beside.pages one also);
  scratch = λ thread view.
      let apart = shared_apart name thread view shared in
      ap is_some (put_other other name (Scratch thread view) offset value apart)
      ∙ (beside.scratch thread view ∙ sym (ap is_some (put_other state name (Scratch thread view) offset value apart)));
}

all_beside : (state other : State) (bytes : List ByteToPut) → AllShared bytes → AreBesideScratch state other
    → AreBesideScratch (put_all state bytes) (put_all other bytes)
all_beside state other [] shared beside = beside
all_beside state other (byte ∷ bytes) shared beside =
    all_beside (put_byte state byte.name byte.offset byte.value) (put_byte other byte.name byte.offset byte.value) bytes shared.1
    (put_beside state other byte.name byte.offset byte.value shared.0 beside)

put_scratch : (thread view : ℕ) (words : Words) (state : State) (name : PageName) (offset value : ℕ) → is_shared name ≡ true
    → HasScratch thread view words state → HasScratch thread view words (put_byte state name offset value)
put_scratch thread view words state name offset value shared has = record {
  process = has.process;
  shown = ap (λ threads. process_shown threads thread view) (put_threads state name offset value) ∙ has.shown;
  page = has.page;
  there = put_other state name (Scratch thread view) offset value (shared_apart name thread view shared) ∙ has.there;
  size = has.size;
  bytes = has.bytes;
  held = has.held;
}

all_scratch : (thread view : ℕ) (words : Words) (state : State) (bytes : List ByteToPut) → AllShared bytes
    → HasScratch thread view words state → HasScratch thread view words (put_all state bytes)
all_scratch thread view words state [] shared has = has
all_scratch thread view words state (byte ∷ bytes) shared has =
    all_scratch thread view words (put_byte state byte.name byte.offset byte.value) bytes shared.1
    (put_scratch thread view words state byte.name byte.offset byte.value shared.0 has)

-- ---- the bytes of a store

byte_done : (byte : Result ℕ BusStop) (rest : Result (List ℕ) BusStop)
    → done (and_then byte (λ lowest. and_then rest (λ others. Ok (lowest ∷ others)))) ≡ Ok tt
    → (done byte ≡ Ok tt) × (done rest ≡ Ok tt)
byte_done (Ok lowest) (Ok others) is = (refl, refl)
byte_done (Ok lowest) (Err stop) is = absurd cc
byte_done (Err stop) rest is = absurd cc

-- a store that is permitted puts the same bytes into both, into pages that they share
record PutAlike (bytes bytes' : List ByteToPut) : Type 0 where
  same : bytes' ≡ bytes
  shared : AllShared bytes

first_alike : (state other : State) (found found' : Option SeenPage) (address value : ℕ) (bytes bytes' : List ByteToPut)
    → BothSee state other found found' → PutAlike bytes bytes'
    → PutAlike (with_byte_to_put found address value bytes) (with_byte_to_put found' address value bytes')
first_alike state other found found' address value bytes bytes' (one, is, is', shared, page) rest =
    subst (λ f. PutAlike (with_byte_to_put f address value bytes) (with_byte_to_put found' address value bytes')) (sym is)
    (subst (λ f. PutAlike (with_byte_to_put (Some one) address value bytes) (with_byte_to_put f address value bytes')) (sym is')
    (record {
      same = ap (λ (list : List ByteToPut). record { name = one.name; offset = address % 4096; value = value } ∷ list) rest.same;
      shared = (shared, rest.shared);
    }))

put_alike : (state other : State) (thread view address size value : ℕ) → AreBesideScratch state other → IsOutside address size
    → done (bytes_from (byte_for (plain_byte thread view state) Write) address size) ≡ Ok tt
    → PutAlike (bytes_to_put state thread view address size value) (bytes_to_put other thread view address size value)
unfolding bytes_from bytes_to_put
put_alike state other thread view address zero value beside outside permitted = record { same = refl; shared = tt }
put_alike state other thread view address (suc size) value beside outside permitted =
    let parts = byte_done (plain_byte thread view state address Write)
    (bytes_from (byte_for (plain_byte thread view state) Write) ((address + 1) % 2 ^ 64) size) permitted in
    first_alike state other (page_for state thread view (address / 4096)) (page_for other thread view (address / 4096)) address
    (value % 256) (bytes_to_put state thread view ((address + 1) % 2 ^ 64) size (value / 256))
    (bytes_to_put other thread view ((address + 1) % 2 ^ 64) size (value / 256))
    (written_alike state other thread view address beside (outside_here address size outside) parts.0)
    (put_alike state other thread view ((address + 1) % 2 ^ 64) size (value / 256) beside (outside_next address size outside)
    parts.1)

-- both machines after a store outside the scratch page that the one permits
pub stored_beside : (thread view : ℕ) (state other : State) (address size value : ℕ) → AreBesideScratch state other
    → IsOutside address size → store_answer (byte_for (plain_byte thread view state) Write) address size ≡ Ok tt
    → AreBesideScratch (plain_stored thread view state address size value) (plain_stored thread view other address size value)
unfolding store_answer plain_stored
stored_beside thread view state other address size value beside outside permitted =
    let alike = put_alike state other thread view address size value beside outside permitted in
    subst (λ (bytes : List ByteToPut). AreBesideScratch (put_all state (bytes_to_put state thread view address size value))
    (put_all other bytes)) (sym alike.same)
    (all_beside state other (bytes_to_put state thread view address size value) alike.shared beside)

-- such a store leaves each scratch page
pub stored_leaves : (thread view number index : ℕ) (words : Words) (state other : State) (address size value : ℕ)
    → AreBesideScratch state other → IsOutside address size
    → store_answer (byte_for (plain_byte thread view state) Write) address size ≡ Ok tt
    → HasScratch number index words state → HasScratch number index words (plain_stored thread view state address size value)
unfolding store_answer plain_stored
stored_leaves thread view number index words state other address size value beside outside permitted has =
    all_scratch number index words state (bytes_to_put state thread view address size value)
    (put_alike state other thread view address size value beside outside permitted).shared has
