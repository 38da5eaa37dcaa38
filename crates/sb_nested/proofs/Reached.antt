-- A store changes the bytes to which its addresses lead, and no others.
use Rattle.std.proofs.Common.{◌≡◌, ◌≢◌, ℕ, zero, suc, ◌+◌, ◌/◌, ◌%◌, ◌^◌, ◌<◌, Bool, true, false, List, [], ◌∷◌, get_or, get_or-set_other, Result, Ok, Err, refl, sym, ap, ◌∙◌, subst, arith}
use Rattle.std.specs.Prelude.{if◌then◌else◌, slice_set}
use Rattle.std.specs.List.{Contains}
use Rattle.std.proofs.lemmas.Grind.{common_steps}
use Rattle.sb_memory.specs.Outcome.{and_then}
use Rattle.sb_memory.specs.Changes.{SameOutside}
use Rattle.sb_memory.specs.Physical.{Physical, frame_of, has_frame}
use Rattle.sb_memory.specs.Reading.{byte_written, with_bytes}
use Rattle.sb_memory.specs.declared.address.Access.TheVariants.{Write}
use Rattle.sb_memory.specs.declared.address.PhysAddr.{PhysAddr}
use Rattle.sb_memory.proofs.Changes.{same_outside_self, same_outside_then}
use Rattle.sb_memory.proofs.Frames.{same_outside_byte}
use Rattle.sb_bus.specs.declared.stop.BusStop.{BusStop}
use Rattle.sb_bus.specs.Access.{bytes_from}
use Rattle.sb_nested.specs.View.{View, place_answer, place_of, walk_place}
use Rattle.sb_nested.specs.Store.{is_whole, memory_stored, put_answer, put_value, put_word_at, store_place, where_there}
use Rattle.sb_nested.proofs.OneByOne.{one_by_one}
use Rattle.sb_nested.proofs.WholeWord.{place_led}

-- ---- a store of whatever size is done byte by byte

stored_by : (test : Bool) (core : View) (address size value : ℕ) → is_whole address size ≡ test → address < 2 ^ 64
    → (if test then put_word_at core.physical (place_of core Write address) value
    else put_answer core.physical (bytes_from (store_place core) address size) value)
    ≡ put_answer core.physical (bytes_from (store_place core) address size) value
unfolding memory_stored
stored_by true core address size value is below =
    let eight : size ≡ 8 = grind (arith, common_steps, is) in
    let aligned : address % 8 ≡ 0 = grind (arith, common_steps, is) in
    let whole : is_whole address 8 ≡ true = rw aligned refl in
    let one : memory_stored core address 8 value ≡ put_answer core.physical (bytes_from (store_place core) address 8) value =
    one_by_one core address value aligned below in
    let same : memory_stored core address 8 value ≡ put_word_at core.physical (place_of core Write address) value =
    rw whole refl in
    rw eight (sym same ∙ one)
stored_by false core address size value is below = refl

pub stored_bytes : (core : View) (address size value : ℕ) → address < 2 ^ 64
    → memory_stored core address size value ≡ put_answer core.physical (bytes_from (store_place core) address size) value
unfolding memory_stored
stored_bytes core address size value below = stored_by (is_whole address size) core address size value refl below

-- ---- what holds of each of its places

abbrev EachIs : (PhysAddr → Type 0) → List PhysAddr → Type 0
EachIs P [] = Unit {0}
EachIs P (place ∷ places) = P place × EachIs P places

abbrev AnswerIs : (PhysAddr → Type 0) → Result (List PhysAddr) BusStop → Type 0
AnswerIs P (Ok places) = EachIs P places
AnswerIs P (Err stop) = Unit {0}

more_is : (P : PhysAddr → Type 0) (first : Result PhysAddr BusStop) (rest : Result (List PhysAddr) BusStop)
    → ((place : PhysAddr) → first ≡ Ok place → P place) → AnswerIs P rest
    → AnswerIs P (and_then first (λ lowest. and_then rest (λ others. Ok (lowest ∷ others))))
more_is P (Ok place) (Ok places) here later = (here place refl, later)
more_is P (Ok place) (Err stop) here later = tt
more_is P (Err stop) rest here later = tt

places_are : (P : PhysAddr → Type 0) (place : ℕ → Result PhysAddr BusStop) (address size : ℕ) → address < 2 ^ 64
    → ((k : ℕ) (at : PhysAddr) → k < size → place ((address + k) % 2 ^ 64) ≡ Ok at → P at)
    → AnswerIs P (bytes_from place address size)
unfolding bytes_from
places_are P place address zero below holds = tt
places_are P place address (suc size) below holds =
    let start : address ≡ (address + 0) % 2 ^ 64 = omega arith in
    more_is P (place address) (bytes_from place ((address + 1) % 2 ^ 64) size)
    (λ at is. holds 0 at (omega arith) (ap place (sym start) ∙ is))
    (places_are P place ((address + 1) % 2 ^ 64) size (omega arith) (λ k at few is.
    let same : ((address + 1) % 2 ^ 64 + k) % 2 ^ 64 ≡ (address + suc k) % 2 ^ 64 = omega arith in
    holds (suc k) at (omega arith) (ap place (sym same) ∙ is)))

-- ---- only bytes of their frames change

abbrev IsIn : List ℕ → PhysAddr → Type 0
IsIn frames place = Contains frames (frame_of place.0)

put_within : (frames : List ℕ) (memory : Physical) (places : List PhysAddr) (value : ℕ) → EachIs (IsIn frames) places
    → SameOutside frames memory (put_value memory places value)
put_within frames memory [] value all = same_outside_self frames memory
put_within frames memory (place ∷ places) value all =
    let next = byte_written memory place.0 (value % 256) in
    same_outside_then frames memory next (put_value next places (value / 256))
    (same_outside_byte frames memory place.0 (value % 256) all.0) (put_within frames next places (value / 256) all.1)

answer_within : (frames : List ℕ) (memory : Physical) (answer : Result (List PhysAddr) BusStop) (value : ℕ)
    → AnswerIs (IsIn frames) answer → SameOutside frames memory (put_answer memory answer value)
answer_within frames memory (Ok places) value all = put_within frames memory places value all
answer_within frames memory (Err stop) value all = same_outside_self frames memory

-- ---- only bytes at the places change

abbrev IsApart : ℕ → PhysAddr → Type 0
IsApart place at = place ≢ at.0

byte_elsewhere : (present : Bool) (memory : Physical) (at byte place : ℕ) → place ≢ at
    → get_or (if present then with_bytes memory (slice_set memory.bytes at byte) else memory).bytes place 0
    ≡ get_or memory.bytes place 0
byte_elsewhere true memory at byte place differ = get_or-set_other memory.bytes at place byte 0 differ
byte_elsewhere false memory at byte place differ = refl

put_elsewhere : (place : ℕ) (memory : Physical) (places : List PhysAddr) (value : ℕ) → EachIs (IsApart place) places
    → get_or (put_value memory places value).bytes place 0 ≡ get_or memory.bytes place 0
put_elsewhere place memory [] value all = refl
put_elsewhere place memory (at ∷ places) value all =
    put_elsewhere place (byte_written memory at.0 (value % 256)) places (value / 256) all.1
    ∙ byte_elsewhere (has_frame memory (frame_of at.0)) memory at.0 (value % 256) place all.0

answer_elsewhere : (place : ℕ) (memory : Physical) (answer : Result (List PhysAddr) BusStop) (value : ℕ)
    → AnswerIs (IsApart place) answer → get_or (put_answer memory answer value).bytes place 0 ≡ get_or memory.bytes place 0
answer_elsewhere place memory (Ok places) value all = put_elsewhere place memory places value all
answer_elsewhere place memory (Err stop) value all = refl

-- ---- the places of a store are those to which its addresses lead

there_led : (byte : Result ℕ BusStop) (place : Result PhysAddr BusStop) (at : PhysAddr) → where_there byte place ≡ Ok at
    → place ≡ Ok at
there_led (Ok byte) place at e = e
there_led (Err stop) place at e = cc

store_led : (core : View) (address : ℕ) (at : PhysAddr) → store_place core address ≡ Ok at → place_of core Write address ≡ Ok at
unfolding store_place walk_place
store_led core address at e = place_led core address at (there_led _ (place_answer address (place_of core Write address)) at e)

pub stored_within : (core : View) (address size value : ℕ) (frames : List ℕ) → address < 2 ^ 64
    → ((k : ℕ) (at : PhysAddr) → k < size → place_of core Write ((address + k) % 2 ^ 64) ≡ Ok at
    → Contains frames (frame_of at.0))
    → SameOutside frames core.physical (memory_stored core address size value)
stored_within core address size value frames below within =
    subst (SameOutside frames core.physical) (sym (stored_bytes core address size value below))
    (answer_within frames core.physical (bytes_from (store_place core) address size) value
    (places_are (IsIn frames) (store_place core) address size below
    (λ k at few is. within k at few (store_led core ((address + k) % 2 ^ 64) at is))))

pub stored_elsewhere : (core : View) (address size value place : ℕ) → address < 2 ^ 64
    → ((k : ℕ) (at : PhysAddr) → k < size → place_of core Write ((address + k) % 2 ^ 64) ≡ Ok at → place ≢ at.0)
    → get_or (memory_stored core address size value).bytes place 0 ≡ get_or core.physical.bytes place 0
stored_elsewhere core address size value place below apart =
    ap (λ (memory : Physical). get_or memory.bytes place 0) (stored_bytes core address size value below)
    ∙ answer_elsewhere place core.physical (bytes_from (store_place core) address size) value
    (places_are (IsApart place) (store_place core) address size below
    (λ k at few is. apart k at few (store_led core ((address + k) % 2 ^ 64) at is)))
