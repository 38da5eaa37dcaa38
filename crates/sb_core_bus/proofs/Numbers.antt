-- Numbers whose bytes lie one after another in memory.
use Rattle.std.proofs.Common.{◌≡◌, ℕ, zero, suc, ◌+◌, ◌/◌, ◌%◌, ◌^◌, ◌<◌, true, List, [], ◌∷◌, Result, Ok, refl, ap, sym, ◌∙◌, arith}
use Rattle.std.specs.Prelude.{slice_index, slice_set}
use Rattle.std.specs.Int.{byte_at, bytes_low_first}
use Rattle.std.proofs.lemmas.List.Edits.{sets}
use Rattle.std.proofs.Math.Nat.{div-div-eq-div-mul, pow-suc}
use Rattle.sb_memory.specs.Physical.{Physical, frame_of, has_frame}
use Rattle.sb_memory.specs.Reading.{byte_written, with_bytes}
use Rattle.sb_memory.specs.declared.address.Access.{Access}
use Rattle.sb_memory.specs.declared.address.Access.TheVariants.{Write}
use Rattle.sb_memory.specs.declared.address.PhysAddr.{PhysAddr}
use Rattle.sb_bus.specs.declared.stop.BusStop.{BusStop}
use Rattle.sb_bus.specs.Access.{byte_for, bytes_from, loaded_from, store_answer}
use Rattle.sb_bus.proofs.Loads.{loaded_none, loaded_more, stored_where_loaded}
use Rattle.sb_pages.specs.PageWords.{number_at, put_number}
use Rattle.sb_walks.proofs.SamePage.{address}
use Rattle.sb_nested.specs.View.{View, place_of, view_byte}
use Rattle.sb_nested.specs.Store.{memory_stored, put_answer, put_value, store_place}
use Rattle.sb_nested.proofs.Reached.{stored_bytes}
use Rattle.sb_core_bus.specs.LiesAt.{LiesAt}
use Rattle.sb_core_bus.proofs.InPage.{byte_at_place}

-- ---- a number that is loaded

-- bytes one after another are loaded as the number that stands there
loaded_run : (byte : ℕ → Result ℕ BusStop) (bytes : List ℕ) (at place size : ℕ) → at < 2 ^ 64
    → ((index : ℕ) → index < size → byte ((at + index) % 2 ^ 64) ≡ Ok (slice_index bytes (place + index)))
    → loaded_from byte at size ≡ Ok (number_at bytes place size)
unfolding number_at
loaded_run byte bytes at place zero below stands = loaded_none byte at 0 refl
loaded_run byte bytes at place (suc size) below stands =
    let start : at ≡ (at + 0) % 2 ^ 64 = omega arith in
    let there : place + 0 ≡ place = omega arith in
    let lowest : byte at ≡ Ok (slice_index bytes place) =
    ap byte start ∙ stands 0 (omega arith) ∙ ap (λ (n : ℕ). Ok (slice_index bytes n)) there in
    let others = loaded_run byte bytes ((at + 1) % 2 ^ 64) (suc place) size (omega arith) (λ index few.
    let same : ((at + 1) % 2 ^ 64 + index) % 2 ^ 64 ≡ (at + suc index) % 2 ^ 64 = omega arith in
    let far : place + suc index ≡ suc place + index = omega arith in
    ap byte same ∙ stands (suc index) (omega arith) ∙ ap (λ (n : ℕ). Ok (slice_index bytes n)) far) in
    loaded_more byte at (suc size) size _ _ (omega arith) lowest others

pub number_loaded : (core : View) (access : Access) (at size place : ℕ) → at < 2 ^ 64 → LiesAt core access at size place
    → loaded_from (byte_for (view_byte core) access) at size ≡ Ok (number_at core.physical.bytes place size)
number_loaded core access at size place below lies =
    loaded_run (byte_for (view_byte core) access) core.physical.bytes at place size below
    (λ index few. byte_at_place core access at size place index lies few)

-- ---- a number that is stored

-- places one after another
abbrev run_of : ℕ → ℕ → List PhysAddr
run_of place zero = []
run_of place (suc count) = address place ∷ run_of (suc place) count

byte_is : (index value : ℕ) → value / 256 ^ index % 256 ≡ byte_at index value
byte_is zero value = let whole : value / 256 ^ 0 ≡ value = omega arith in ap (λ (n : ℕ). n % 256) whole
byte_is (suc index) value = refl

-- bytes that are put one by one, the lowest first, are put at once
put_run : (memory : Physical) (place count index value : ℕ)
    → ((k : ℕ) → k < count → has_frame memory (frame_of (place + k)) ≡ true)
    → put_value memory (run_of place count) (value / 256 ^ index)
    ≡ with_bytes memory (sets memory.bytes place (bytes_low_first index count value))
put_run memory place zero index value held = refl
put_run memory place (suc count) index value held =
    let start : place + 0 ≡ place = omega arith in
    let first : has_frame memory (frame_of (place + 0)) ≡ true = held 0 (omega arith) in
    let present : has_frame memory (frame_of place) ≡ true = rw start at first in
    let shift : value / 256 ^ index / 256 ≡ value / 256 ^ suc index =
    div-div-eq-div-mul value (256 ^ index) 256 ∙ ap (λ (p : ℕ). value / p) (sym (pow-suc 256 index)) in
    let written : byte_written memory place (value / 256 ^ index % 256)
    ≡ with_bytes memory (slice_set memory.bytes place (byte_at index value)) = rw (present, byte_is index value) refl in
    ap (λ (now : Physical). put_value now (run_of (suc place) count) (value / 256 ^ index / 256)) written
    ∙ ap (λ (n : ℕ). put_value (with_bytes memory (slice_set memory.bytes place (byte_at index value)))
    (run_of (suc place) count) n) shift
    ∙ put_run (with_bytes memory (slice_set memory.bytes place (byte_at index value))) (suc place) count (suc index) value
    (λ k few.
    let next : place + suc k ≡ suc place + k = omega arith in
    let behind : has_frame memory (frame_of (place + suc k)) ≡ true = held (suc k) (omega arith) in
    rw next at behind)

-- addresses that lead to places one after another
all_run : (place : ℕ → Result PhysAddr BusStop) (at to count : ℕ) → at < 2 ^ 64
    → ((k : ℕ) → k < count → place ((at + k) % 2 ^ 64) ≡ Ok (address (to + k)))
    → bytes_from place at count ≡ Ok (run_of to count)
unfolding bytes_from
all_run place at to zero below leads = refl
all_run place at to (suc count) below leads =
    let start : at ≡ (at + 0) % 2 ^ 64 = omega arith in
    let there : to + 0 ≡ to = omega arith in
    let first : place at ≡ Ok (address to) = ap place start ∙ leads 0 (omega arith) ∙ ap (λ (n : ℕ). Ok (address n)) there in
    let rest = all_run place ((at + 1) % 2 ^ 64) (suc to) count (omega arith) (λ k few.
    let same : ((at + 1) % 2 ^ 64 + k) % 2 ^ 64 ≡ (at + suc k) % 2 ^ 64 = omega arith in
    let far : to + suc k ≡ suc to + k = omega arith in
    ap place same ∙ leads (suc k) (omega arith) ∙ ap (λ (n : ℕ). Ok (address n)) far) in
    rw (first, rest) refl

store_led : (core : View) (at : ℕ) (place : PhysAddr) → place_of core Write at ≡ Ok place
    → has_frame core.physical (frame_of place.0) ≡ true → store_place core at ≡ Ok place
unfolding store_place view_byte
store_led core at place led there = rw (led, there) refl

pub number_stored : (core : View) (at size place value : ℕ) → at < 2 ^ 64 → LiesAt core Write at size place
    → memory_stored core at size value ≡ with_bytes core.physical (put_number core.physical.bytes place size value)
unfolding put_number
number_stored core at size place value below lies =
    let run = all_run (store_place core) at place size below (λ k few.
    store_led core ((at + k) % 2 ^ 64) (address (place + k)) (lies.leads k few) (lies.held k few)) in
    let whole : value ≡ value / 256 ^ 0 = omega arith in
    stored_bytes core at size value below
    ∙ ap (λ (places : Result (List PhysAddr) BusStop). put_answer core.physical places value) run
    ∙ ap (λ (n : ℕ). put_value core.physical (run_of place size) n) whole
    ∙ put_run core.physical place size 0 value lies.held

pub number_may_be_stored : (core : View) (at size place : ℕ) → at < 2 ^ 64 → LiesAt core Write at size place
    → store_answer (byte_for (view_byte core) Write) at size ≡ Ok tt
number_may_be_stored core at size place below lies =
    stored_where_loaded (byte_for (view_byte core) Write) at size _ (number_loaded core Write at size place below lies)
