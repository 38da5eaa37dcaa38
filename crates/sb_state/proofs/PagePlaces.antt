-- Where the bytes of a store go, by the lowest and the others.
use Rattle.std.proofs.Common.{◌≡◌, ap, ◌∙◌, sym, ℕ, zero, suc, ◌+◌, ◌%◌, ◌/◌, ◌^◌, ◌<◌, Bool, true, false, List, [], ◌∷◌, length, Result, Ok, Err, refl, arith}
use Rattle.std.specs.Prelude.{Option, Some, None, if◌then◌else◌}
use Rattle.sb_memory.specs.declared.address.Access.TheVariants.{Write}
use Rattle.sb_memory.specs.Outcome.{and_then, done}
use Rattle.sb_bus.specs.declared.stop.BusStop.{BusStop}
use Rattle.sb_bus.specs.Access.{bytes_from, byte_for, store_answer}
use Rattle.sb_pages.specs.declared.page.PageName.{PageName}
use Rattle.sb_pages.specs.declared.page.SeenPage.{SeenPage}
use Rattle.sb_pages.specs.PageName.{permits}
use Rattle.sb_state.specs.State.{State}
use Rattle.sb_state.specs.Windows.{page_for}
use Rattle.sb_state.specs.PlainMemory.{ByteToPut, plain_byte, byte_in, bytes_to_put, with_byte_to_put, put_all, plain_stored, is_canonical}
use Rattle.sb_state.specs.declared.write.PagePlace.{PagePlace}
use Rattle.sb_state.specs.NameForAccess.{name_for_access, name_if_permitted}
use Rattle.sb_state.specs.PagePlaces.{page_place, page_place_at, bytes_to_put_in}
use Rattle.sb_state.proofs.NameForAccess.{byte_by_reach, byte_of}

-- no place
pub places_none : (place : ℕ → Result PagePlace BusStop) (address : ℕ) (places : List PagePlace) → length places ≡ 0
    → bytes_from place address (length places) ≡ Ok places
unfolding bytes_from
places_none place address [] none = refl
places_none place address (first ∷ others) none = absurd (omega arith)

-- the lowest byte stops
pub places_stop : (place : ℕ → Result PagePlace BusStop) (address size : ℕ) (stop : BusStop) → 0 < size → place address ≡ Err stop
    → bytes_from place address size ≡ Err stop
unfolding bytes_from
places_stop place address zero stop some is = absurd (omega arith)
places_stop place address (suc count) stop some is = rw is refl

-- a later one stops
pub places_stop_later : (place : ℕ → Result PagePlace BusStop) (address size count : ℕ) (lowest : PagePlace) (stop : BusStop)
    → size ≡ count + 1
    → place address ≡ Ok lowest → bytes_from place ((address + 1) % 2 ^ 64) count ≡ Err stop
    → bytes_from place address size ≡ Err stop
unfolding bytes_from
places_stop_later place address zero count lowest stop long is later = absurd (omega arith)
places_stop_later place address (suc rest) count lowest stop long is later = let same : rest ≡ count = omega arith in
    rw (is, same, later) refl

-- all are there
pub places_more : (place : ℕ → Result PagePlace BusStop) (address size count : ℕ) (lowest : PagePlace) (others : List PagePlace)
    → size ≡ count + 1
    → place address ≡ Ok lowest → bytes_from place ((address + 1) % 2 ^ 64) count ≡ Ok others
    → bytes_from place address size ≡ Ok (lowest ∷ others)
unfolding bytes_from
places_more place address zero count lowest others long is later = absurd (omega arith)
places_more place address (suc rest) count lowest others long is later = let same : rest ≡ count = omega arith in
    rw (is, same, later) refl

-- ---- the answer of a store

done_later : (lowest : ℕ) (place : PagePlace) (bytes : Result (List ℕ) BusStop) (places : Result (List PagePlace) BusStop)
    → done bytes ≡ done places
    → done (and_then bytes (λ list. Ok (lowest ∷ list))) ≡ done (and_then places (λ list. Ok (place ∷ list)))
done_later lowest place (Ok bytes) (Ok places) same = refl
done_later lowest place (Ok bytes) (Err stop) same = same
done_later lowest place (Err stop) (Ok places) same = same
done_later lowest place (Err stop) (Err other) same = same

done_by : (state : State) (address : ℕ) (name : Result PageName BusStop) (bytes : Result (List ℕ) BusStop)
    (places : Result (List PagePlace) BusStop)
    → done bytes ≡ done places
    → done (and_then (and_then name (byte_of state address)) (λ lowest. and_then bytes (λ list. Ok (lowest ∷ list))))
    ≡ done (and_then (and_then name (page_place address)) (λ lowest. and_then places (λ list. Ok (lowest ∷ list))))
done_by state address (Ok name) bytes places same =
    done_later (byte_in state name (address % 4096)) (record { name = name; offset = address % 4096 }) bytes places same
done_by state address (Err stop) bytes places same = refl

-- each byte may be written where it has a place
pub store_answered : (thread view : ℕ) (state : State) (address size : ℕ)
    → store_answer (byte_for (plain_byte thread view state) Write) address size
    ≡ done (bytes_from (page_place_at thread view state) address size)
unfolding store_answer bytes_from page_place_at
store_answered thread view state address zero = refl
store_answered thread view state address (suc count) =
    rw byte_by_reach
    (done_by state address (name_for_access thread view state address Write) _ _
    (store_answered thread view state ((address + 1) % 2 ^ 64) count))

-- ---- the bytes that are placed

abbrev byte_to_put : PagePlace → ℕ → ByteToPut
byte_to_put place value = record { name = place.name; offset = place.offset; value = value }

permitted_by : (test : Bool) (page : SeenPage) (address value : ℕ) (stop : BusStop) (place : PagePlace) (others : List ByteToPut)
    → and_then (if test then Ok page.name else Err stop) (page_place address) ≡ Ok place
    → with_byte_to_put (Some page) address value others ≡ byte_to_put place value ∷ others
permitted_by true page address value stop place others is =
    let same : record { name = page.name; offset = address % 4096 } ≡ place = cc in
    ap (λ (one : PagePlace). byte_to_put one value ∷ others) same
permitted_by false page address value stop place others is = cc

seen_by : (seen : Option SeenPage) (address value : ℕ) (place : PagePlace) (others : List ByteToPut)
    → and_then (name_if_permitted seen address Write) (page_place address) ≡ Ok place
    → with_byte_to_put seen address value others ≡ byte_to_put place value ∷ others
seen_by None address value place others is = cc
seen_by (Some page) address value place others is = permitted_by (permits page.mode Write) page address value _ place others is

canonical_by : (test : Bool) (seen : Option SeenPage) (address value : ℕ) (stop : BusStop) (place : PagePlace)
    (others : List ByteToPut)
    → and_then (if test then name_if_permitted seen address Write else Err stop) (page_place address) ≡ Ok place
    → with_byte_to_put seen address value others ≡ byte_to_put place value ∷ others
canonical_by true seen address value stop place others is = seen_by seen address value place others is
canonical_by false seen address value stop place others is = cc

pub placed_first : (thread view : ℕ) (state : State) (address value : ℕ) (place : PagePlace) (others : List ByteToPut)
    → page_place_at thread view state address ≡ Ok place
    → with_byte_to_put (page_for state thread view (address / 4096)) address value others ≡ byte_to_put place value ∷ others
unfolding page_place_at name_for_access
placed_first thread view state address value place others is =
    canonical_by (is_canonical address) (page_for state thread view (address / 4096)) address value _ place others is

-- a list of places begins with that of the lowest byte
pub record Split (first : Result PagePlace BusStop) (rest : Result (List PagePlace) BusStop) (places : List PagePlace)
    : Type 0 where
  pub lowest : PagePlace
  pub others : List PagePlace
  pub first_is : first ≡ Ok lowest
  pub rest_is : rest ≡ Ok others
  pub both : lowest ∷ others ≡ places

split : (first : Result PagePlace BusStop) (rest : Result (List PagePlace) BusStop) (places : List PagePlace)
    → and_then first (λ lowest. and_then rest (λ others. Ok (lowest ∷ others))) ≡ Ok places → Split first rest places
split (Ok lowest) (Ok others) places is = record { lowest = lowest; others = others; first_is = refl; rest_is = refl; both = cc }
split (Ok lowest) (Err stop) places is = cc
split (Err stop) rest places is = cc

-- the bytes at these places are those that a store places
pub places_put : (thread view : ℕ) (state : State) (size address value : ℕ) (places : List PagePlace)
    → bytes_from (page_place_at thread view state) address size ≡ Ok places
    → bytes_to_put_in places value ≡ bytes_to_put state thread view address size value
unfolding bytes_from bytes_to_put
places_put thread view state zero address value places is =
    let none : [] ≡ places = cc in ap (λ (list : List PagePlace). bytes_to_put_in list value) (sym none)
places_put thread view state (suc count) address value places is =
    let parts =
    split (page_place_at thread view state address)
    (bytes_from (page_place_at thread view state) ((address + 1) % 2 ^ 64) count) places is in
    let later = places_put thread view state count ((address + 1) % 2 ^ 64) (value / 256) parts.others parts.rest_is in
    ap (λ (list : List PagePlace). bytes_to_put_in list value) (sym parts.both)
    ∙ ap (λ (others : List ByteToPut). byte_to_put parts.lowest (value % 256) ∷ others) later
    ∙ sym (placed_first thread view state address (value % 256) parts.lowest _ parts.first_is)

-- ---- what a store answers and leaves

pub store_done : (thread view : ℕ) (state : State) (address size : ℕ) (places : List PagePlace)
    → bytes_from (page_place_at thread view state) address size ≡ Ok places
    → store_answer (byte_for (plain_byte thread view state) Write) address size ≡ Ok tt
store_done thread view state address size places is = rw (store_answered, is) refl

pub store_stopped : (thread view : ℕ) (state : State) (address size : ℕ) (stop : BusStop)
    → bytes_from (page_place_at thread view state) address size ≡ Err stop
    → store_answer (byte_for (plain_byte thread view state) Write) address size ≡ Err stop
store_stopped thread view state address size stop is = rw (store_answered, is) refl

pub places_stored : (thread view : ℕ) (state : State) (address size value : ℕ) (places : List PagePlace)
    → bytes_from (page_place_at thread view state) address size ≡ Ok places
    → put_all state (bytes_to_put_in places value) ≡ plain_stored thread view state address size value
unfolding plain_stored
places_stored thread view state address size value places is =
    ap (λ (list : List ByteToPut). put_all state list) (places_put thread view state size address value places is)
