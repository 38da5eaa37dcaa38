-- A whole word is stored as its bytes would be, one by one.
use Rattle.std.proofs.Common.{◌≡◌, ℕ, zero, suc, ◌+◌, ◌/◌, ◌%◌, ◌^◌, ◌<◌, true, false, Bool, List, [], ◌∷◌, Result, Ok, Err, refl, ap, arith, sym, ◌∙◌}
use Rattle.std.specs.Prelude.{slice_set}
use Rattle.std.specs.Int.{byte_at, bytes_low_first}
use Rattle.std.proofs.lemmas.List.Edits.{sets}
use Rattle.std.proofs.Math.Nat.{div-div-eq-div-mul, div-one, pow-suc}
use Rattle.sb_memory.specs.Physical.{Physical, frame_of, has_frame}
use Rattle.sb_memory.specs.Reading.{byte_written, with_bytes, word_written}
use Rattle.sb_memory.specs.Words.{put_word}
use Rattle.sb_memory.specs.declared.address.Access.TheVariants.{Write}
use Rattle.sb_memory.specs.declared.address.PhysAddr.{PhysAddr}
use Rattle.sb_walks.specs.declared.stop.NestedStop.{NestedStop}
use Rattle.sb_walks.proofs.SamePage.{address}
use Rattle.sb_bus.specs.declared.stop.BusStop.{BusStop}
use Rattle.sb_bus.specs.declared.stop.BusStop.TheVariants as bus
use Rattle.sb_bus.specs.Access.{bytes_from}
use Rattle.sb_nested.specs.Stop.{stop_at}
use Rattle.sb_nested.specs.View.{View, place_of, view_byte}
use Rattle.sb_nested.specs.Store.{memory_stored, put_answer, put_value, put_word_at, store_place}
use Rattle.sb_nested.proofs.Stores.{places_stop}
use Rattle.sb_nested.proofs.WholeWord.{byte_place, led_offset}

-- the lowest bytes of a value
abbrev bytes_of : ℕ → ℕ → List ℕ
bytes_of zero value = []
bytes_of (suc count) value = value % 256 ∷ bytes_of count (value / 256)

byte_at-power : (j value : ℕ) → byte_at j value ≡ value / 256 ^ j % 256
byte_at-power zero value = ap (λ (y : ℕ). y % 256) (sym (div-one value))
byte_at-power (suc j) value = refl

bytes_of-from : (count j value : ℕ) → bytes_of count (value / 256 ^ j) ≡ bytes_low_first j count value
bytes_of-from zero j value = refl
bytes_of-from (suc count) j value =
    let shift : value / 256 ^ j / 256 ≡ value / 256 ^ suc j =
    div-div-eq-div-mul value (256 ^ j) 256 ∙ sym (ap (λ (p : ℕ). value / p) (pow-suc 256 j)) in
    let rest = bytes_of-from count (suc j) value in
    rw (shift, rest, byte_at-power j value) refl

word_bytes : (word : ℕ) → bytes_of 8 word ≡ bytes_low_first 0 8 word
word_bytes word = ap (bytes_of 8) (sym (div-one word)) ∙ bytes_of-from 8 0 word

-- places one after another
abbrev run_of : ℕ → ℕ → List PhysAddr
run_of place zero = []
run_of place (suc count) = address place ∷ run_of (suc place) count

-- bytes put there, in a frame that is there
put_run : (memory : Physical) (place count value frame : ℕ) → has_frame memory frame ≡ true
    → ((k : ℕ) → k < count → frame_of (place + k) ≡ frame)
    → put_value memory (run_of place count) value ≡ with_bytes memory (sets memory.bytes place (bytes_of count value))
put_run memory place zero value frame h within = refl
put_run memory place (suc count) value frame h within =
    let start : place ≡ place + 0 = omega arith in
    let here : frame_of place ≡ frame = ap (λ (n : ℕ). n / 4096) start ∙ within 0 (omega arith) in
    let present : has_frame memory (frame_of place) ≡ true = rw here h in
    let written : byte_written memory place (value % 256) ≡ with_bytes memory (slice_set memory.bytes place (value % 256)) =
    rw present refl in
    ap (λ (n : Physical). put_value n (run_of (suc place) count) (value / 256)) written
    ∙ put_run (with_bytes memory (slice_set memory.bytes place (value % 256))) (suc place) count (value / 256) frame h
    (λ k few. let next : suc place + k ≡ place + suc k = omega arith in
    ap (λ (n : ℕ). n / 4096) next ∙ within (suc k) (omega arith))

-- bytes that lead to places one after another
all_run : (place : ℕ → Result PhysAddr BusStop) (at to count : ℕ) → at < 2 ^ 64
    → ((k : ℕ) → k < count → place ((at + k) % 2 ^ 64) ≡ Ok (address (to + k)))
    → bytes_from place at count ≡ Ok (run_of to count)
unfolding bytes_from
all_run place at to zero h f = refl
all_run place at to (suc count) h f =
    let start : at ≡ (at + 0) % 2 ^ 64 = omega arith in
    let there : to + 0 ≡ to = omega arith in
    let first : place at ≡ Ok (address to) = ap place start ∙ f 0 (omega arith) ∙ ap (λ (n : ℕ). Ok (address n)) there in
    let rest = all_run place ((at + 1) % 2 ^ 64) (suc to) count (omega arith) (λ k few.
    let same : ((at + 1) % 2 ^ 64 + k) % 2 ^ 64 ≡ (at + suc k) % 2 ^ 64 = omega arith in
    let far : to + suc k ≡ suc to + k = omega arith in
    ap place same ∙ f (suc k) (omega arith) ∙ ap (λ (n : ℕ). Ok (address n)) far) in
    rw (first, rest) refl

store_led : (core : View) (at : ℕ) (place : PhysAddr) → place_of core Write at ≡ Ok place
    → has_frame core.physical (frame_of place.0) ≡ true → store_place core at ≡ Ok place
unfolding store_place view_byte
store_led core at place e h = rw (e, h) refl

store_gone : (core : View) (at : ℕ) (place : PhysAddr) → place_of core Write at ≡ Ok place
    → has_frame core.physical (frame_of place.0) ≡ false
    → store_place core at ≡ Err (bus.Missing (record { 0 = frame_of place.0 }))
unfolding store_place view_byte
store_gone core at place e h = rw (e, h) refl

store_stop : (core : View) (at : ℕ) (stop : NestedStop) → place_of core Write at ≡ Err stop
    → store_place core at ≡ Err (stop_at at stop)
unfolding store_place view_byte
store_stop core at stop e = rw e refl

by_frame : (core : View) (at word : ℕ) (place : PhysAddr) (present : Bool) → at % 8 ≡ 0 → at < 2 ^ 64
    → place_of core Write at ≡ Ok place → has_frame core.physical (frame_of place.0) ≡ present
    → word_written core.physical place.0 word ≡ put_answer core.physical (bytes_from (store_place core) at 8) word
unfolding put_word
by_frame core at word place true aligned below e h =
    let offset = led_offset core at place e in
    let run = all_run (store_place core) at place.0 8 below (λ k few.
    let same : frame_of (place.0 + k) ≡ frame_of place.0 = omega arith in
    store_led core ((at + k) % 2 ^ 64) (address (place.0 + k)) (byte_place core at k place aligned below few e) (rw same h)) in
    let bytes = put_run core.physical place.0 8 word (frame_of place.0) h (λ k few. omega arith) in
    let left : word_written core.physical place.0 word
    ≡ with_bytes core.physical (sets core.physical.bytes place.0 (bytes_low_first 0 8 word)) = rw h refl in
    let right : put_answer core.physical (bytes_from (store_place core) at 8) word
    ≡ put_value core.physical (run_of place.0 8) word =
    ap (λ (places : Result (List PhysAddr) BusStop). put_answer core.physical places word) run in
    left ∙ ap (λ (bytes : List ℕ). with_bytes core.physical (sets core.physical.bytes place.0 bytes)) (sym (word_bytes word))
    ∙ sym bytes ∙ sym right
by_frame core at word place false aligned below e h =
    let none =
    places_stop (store_place core) at 8 (bus.Missing (record { 0 = frame_of place.0 })) (omega arith)
    (store_gone core at place e h) in
    rw (h, none) refl

by_answer : (core : View) (at word : ℕ) (r : Result PhysAddr NestedStop) → at % 8 ≡ 0 → at < 2 ^ 64 → place_of core Write at ≡ r
    → put_word_at core.physical r word ≡ put_answer core.physical (bytes_from (store_place core) at 8) word
by_answer core at word (Ok place) aligned below e =
    by_frame core at word place (has_frame core.physical (frame_of place.0)) aligned below e refl
by_answer core at word (Err stop) aligned below e =
    let none = places_stop (store_place core) at 8 (stop_at at stop) (omega arith) (store_stop core at stop e) in
    rw none refl

pub one_by_one : (core : View) (at word : ℕ) → at % 8 ≡ 0 → at < 2 ^ 64
    → memory_stored core at 8 word ≡ put_answer core.physical (bytes_from (store_place core) at 8) word
unfolding memory_stored
one_by_one core at word aligned below = rw aligned (by_answer core at word (place_of core Write at) aligned below refl)
