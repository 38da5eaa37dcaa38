-- What a core sees, over two memories: bytes, loads and the places of stores.
use Rattle.std.proofs.Common.{◌≡◌, ap, sym, subst, ◌∙◌, ℕ, zero, suc, Bool, true, false, List, [], ◌∷◌, ◌++◌, refl}
use Rattle.std.specs.Prelude.{Result, Ok, Err, if◌then◌else◌, ◌^◌, ◌+◌, ◌%◌}
use Rattle.sb_memory.specs.Physical.{Physical, frame_count, has_frame, frame_of}
use Rattle.sb_memory.specs.Accounts.{PhysCall, ReadByte, ReadWord, WriteByte, WriteWord, place_of as place_called, word_calls}
use Rattle.sb_memory.specs.Reading.{byte_read, missing}
use Rattle.sb_memory.specs.declared.address.Access.{Access}
use Rattle.sb_memory.specs.declared.address.Access.TheVariants.{Write}
use Rattle.sb_memory.specs.declared.address.Missing.{Missing}
use Rattle.sb_memory.specs.declared.address.EptStop.{EptStop}
use Rattle.sb_memory.specs.declared.address.EptStop.TheVariants as ept
use Rattle.sb_memory.specs.declared.address.PhysAddr.{PhysAddr}
use Rattle.sb_memory.specs.Outcome.{and_then}
use Rattle.sb_walks.specs.declared.stop.TableStop.{TableStop}
use Rattle.sb_walks.specs.declared.stop.TableStop.TheVariants as table
use Rattle.sb_walks.specs.declared.stop.WalkStop.{WalkStop}
use Rattle.sb_walks.specs.declared.stop.WalkStop.TheVariants as guest
use Rattle.sb_walks.specs.declared.stop.NestedStop.{NestedStop}
use Rattle.sb_walks.specs.declared.stop.NestedStop.TheVariants as nested
use Rattle.sb_walks.specs.Reads.{where_ok}
use Rattle.sb_walks.specs.Nested.{memory_behind, translation_reads}
use Rattle.sb_bus.specs.declared.stop.BusStop.{BusStop}
use Rattle.sb_bus.specs.declared.stop.BusStop.TheVariants as bus
use Rattle.sb_bus.specs.Access.{bytes_from, loaded_from, number_of, byte_for}
use Rattle.sb_nested.specs.Stop.{stop_at, walk_stop, table_stop, ept_stop}
use Rattle.sb_nested.specs.View.{View, view, place_of, walk_calls, place_answer, byte_answer, byte_behind, view_byte, byte_calls, calls_from, walk_place}
use Rattle.sb_nested.specs.Store.{where_there, store_place, load_calls, look_calls}
use Rattle.sb_walks.specs.Gaps.{NoGap, ept_gap, table_gap, walk_gap, nested_gap}
use Rattle.sb_walks.proofs.Depends.{Each, each_left, each_right, each_joined, Same, first_no_gap, Holds, There, walk_same}

-- ---- stops

unfoldable pub bus_gap : BusStop → Bool
bus_gap (bus.Missing frame) = true
bus_gap (bus.Fault kind address) = false

-- a refusal of the EPT is a missing frame to the instruction where it is one to the walk
ept_told : (address : ℕ) (e : EptStop) → bus_gap (ept_stop address e) ≡ ept_gap e
unfolding bus_gap
ept_told address (ept.Missing frame) = refl
ept_told address _ = refl

-- so is one of a table
table_told : (address : ℕ) (e : TableStop) → bus_gap (table_stop address e) ≡ table_gap e
unfolding bus_gap
table_told address (table.Missing frame) = refl
table_told address (table.Ept e) = ept_told address e

-- so is one of the guest's walk
walk_told : (address : ℕ) (e : WalkStop) → bus_gap (walk_stop address e) ≡ walk_gap e
unfolding bus_gap
walk_told address guest.NonCanonical = refl
walk_told address (guest.Table e) = table_told address e
walk_told address _ = refl

-- and one of the nested walk
stop_told : (address : ℕ) (e : NestedStop) → bus_gap (stop_at address e) ≡ nested_gap e
stop_told address (nested.Walk e) = walk_told address e
stop_told address (nested.Page e) = ept_told address e

-- ---- bytes from an address upwards, over any two functions

-- what comes of an answer is a missing frame where the answer is
end_no_gap : {A B : Type 0} (to : A → B) (answer : Result A BusStop) → NoGap bus_gap (and_then answer (λ a. Ok (to a)))
    → NoGap bus_gap answer
end_no_gap to (Ok a) g = tt
end_no_gap to (Err e) g = g

-- a byte and those behind it
rest_same : {A : Type 0} (Held Here : PhysCall → Type 0) (answer : Result A BusStop) (next next' : Result (List A) BusStop)
    (reads reads' : List PhysCall)
    → (Each Held reads → NoGap bus_gap next → Same Here next next' reads reads')
    → Each Held (where_ok answer (λ _. reads))
    → NoGap bus_gap (and_then answer (λ lowest. and_then next (λ others. Ok (lowest ∷ others))))
    → Same Here (and_then answer (λ lowest. and_then next (λ others. Ok (lowest ∷ others))))
    (and_then answer (λ lowest. and_then next' (λ others. Ok (lowest ∷ others))))
    (where_ok answer (λ _. reads)) (where_ok answer (λ _. reads'))
rest_same Held Here (Ok lowest) next next' reads reads' same h g =
    let rest = same h (end_no_gap (λ others. lowest ∷ others) next g) in
    record { answer = ap (λ r. and_then r (λ others. Ok (lowest ∷ others))) rest.answer; reads = rest.reads; there = rest.there }
rest_same Held Here (Err e) next next' reads reads' same h g = record { answer = refl; reads = refl; there = tt }

-- where each byte is the same and read by the same calls, so are bytes one after another
pub from_same : {A : Type 0} (Held Here : PhysCall → Type 0) (calls calls' : ℕ → List PhysCall)
    (answer answer' : ℕ → Result A BusStop)
    → ((at : ℕ) → Each Held (calls at) → NoGap bus_gap (answer at) → Same Here (answer at) (answer' at) (calls at) (calls' at))
    → (at count : ℕ) → Each Held (calls_from calls answer at count) → NoGap bus_gap (bytes_from answer at count)
    → Same Here (bytes_from answer at count) (bytes_from answer' at count) (calls_from calls answer at count)
    (calls_from calls' answer' at count)
unfolding bytes_from calls_from
from_same Held Here calls calls' answer answer' same at zero h g = record { answer = refl; reads = refl; there = tt }
from_same {A} Held Here calls calls' answer answer' same at (suc count) h g =
    let here = same at (each_left Held (calls at) _ h) (first_no_gap bus_gap (answer at) _ g) in
    let rest = rest_same Held Here (answer at) (bytes_from answer ((at + 1) % 2 ^ 64) count)
    (bytes_from answer' ((at + 1) % 2 ^ 64) count)
    (calls_from calls answer ((at + 1) % 2 ^ 64) count) (calls_from calls' answer' ((at + 1) % 2 ^ 64) count)
    (from_same Held Here calls calls' answer answer' same ((at + 1) % 2 ^ 64) count) (each_right Held (calls at) _ h) g in
    record {
      answer = rw here.answer rest.answer;
      reads = rw (here.answer, here.reads) (ap (λ others. calls at ++ others) rest.reads);
      there = each_joined Here _ _ here.there rest.there;
    }

-- ---- over two memories

module _ (memory changed : Physical) (frames : frame_count changed ≡ frame_count memory) (eptp cr3 : ℕ) where
  -- what a core sees over the one memory
  abbrev pub old : View
  old = view memory eptp cr3

  -- and over the other
  abbrev pub new : View
  new = view changed eptp cr3

  -- what a call reads, if its frame is there, is the same
  abbrev pub HeldCall : PhysCall → Type 0
  HeldCall (ReadWord place) = Holds memory changed frames place
  HeldCall (ReadByte place) = (byte : ℕ) → byte_read memory place ≡ Ok byte → byte_read changed place ≡ Ok byte
  HeldCall (WriteByte place byte) = Unit {0}
  HeldCall (WriteWord place word) = Unit {0}

  -- the frame of a call is there
  abbrev pub ThereCall : PhysCall → Type 0
  ThereCall call = has_frame memory (frame_of (place_called call)) ≡ true

  -- the words of a walk are the same
  words_held : (places : List ℕ) → Each HeldCall (word_calls places) → Each (Holds memory changed frames) places
  words_held [] h = tt
  words_held (place ∷ places) h = (h.0, words_held places h.1)

  -- the frames of these words are there
  words_there : (places : List ℕ) → Each (There memory changed frames) places → Each ThereCall (word_calls places)
  words_there [] h = tt
  words_there (place ∷ places) h = (h.0, words_there places h.1)

  -- ---- the place of a byte

  -- an address leads to the same place, and the same words are read for it
  pub place_same : (access : Access) (at : ℕ) → Each HeldCall (walk_calls old access at)
      → NoGap nested_gap (place_of old access at)
      → Same ThereCall (place_of old access at) (place_of new access at) (walk_calls old access at) (walk_calls new access at)
  unfolding place_of walk_calls
  place_same access at h g =
      let same = walk_same memory changed frames eptp cr3 at access
      (words_held (translation_reads (memory_behind memory eptp) cr3 at access) h) g in
      record {
        answer = same.answer;
        reads = ap word_calls same.reads;
        there = words_there (translation_reads (memory_behind memory eptp) cr3 at access) same.there;
      }

  -- ---- a byte

  -- a byte that is no missing frame lies behind a walk that meets none
  behind_no_gap : (at : ℕ) (answer : Result PhysAddr NestedStop) → NoGap bus_gap (byte_behind memory at answer)
      → NoGap nested_gap answer
  behind_no_gap at (Ok place) g = tt
  behind_no_gap at (Err e) g = sym (stop_told at e) ∙ g

  -- a byte that is read, by whether its frame is there
  byte_there_by : (test : Bool) (byte frame value : ℕ) → (if test then Ok byte else Err (missing frame)) ≡ Ok value → test ≡ true
  byte_there_by true byte frame value e = refl
  byte_there_by false byte frame value e = cc

  -- a byte that is read stands in a frame that is there
  pub byte_is_there : (place value : ℕ) → byte_read memory place ≡ Ok value → has_frame memory (frame_of place) ≡ true
  byte_is_there place value e = byte_there_by (has_frame memory (frame_of place)) _ (frame_of place) value e

  -- a byte that is no missing frame is there, and is the same
  byte_by : (answer other : Result ℕ Missing) → ((byte : ℕ) → answer ≡ Ok byte → other ≡ Ok byte)
      → NoGap bus_gap (byte_answer answer)
      → (byte_answer other ≡ byte_answer answer) × ((byte : ℕ) × (answer ≡ Ok byte))
  unfolding bus_gap
  byte_by (Ok byte) other h g = (ap byte_answer (h byte refl), (byte, refl))
  byte_by (Err gone) other h g = cc

  -- the byte behind the walk
  tail_same : (at : ℕ) (answer : Result PhysAddr NestedStop) → Each HeldCall (where_ok answer (λ place. ReadByte place.0 ∷ []))
      → NoGap bus_gap (byte_behind memory at answer)
      → (byte_behind changed at answer ≡ byte_behind memory at answer)
      × Each ThereCall (where_ok answer (λ place. ReadByte place.0 ∷ []))
  tail_same at (Ok place) h g =
      let both = byte_by (byte_read memory place.0) (byte_read changed place.0) h.0 g in
      (both.0, (byte_is_there place.0 both.1.0 both.1.1, tt))
  tail_same at (Err e) h g = (refl, tt)

  -- a byte, and where it stands
  pub record SameByte (access : Access) (at : ℕ) : Type 0 where
    pub place : place_of new access at ≡ place_of old access at
    pub byte : Same ThereCall (view_byte old at access) (view_byte new at access) (byte_calls old access at)
        (byte_calls new access at)

  -- a byte is the same, and is read by the same calls, where these read the same
  pub byte_same : (access : Access) (at : ℕ) → Each HeldCall (byte_calls old access at) → NoGap bus_gap (view_byte old at access)
      → SameByte access at
  unfolding view_byte byte_calls
  byte_same access at h g =
      let first = place_same access at (each_left HeldCall (walk_calls old access at) _ h)
      (behind_no_gap at (place_of old access at) g) in
      let last = tail_same at (place_of old access at) (each_right HeldCall (walk_calls old access at) _ h) g in
      record {
        place = first.answer;
        byte = record {
          answer = rw first.answer last.0;
          reads = rw (first.answer, first.reads) refl;
          there = each_joined ThereCall _ _ first.there last.1;
        };
      }

  -- ---- loads

  -- so is a number that is loaded
  pub load_same : (access : Access) (at size : ℕ) → Each HeldCall (load_calls old access at size)
      → NoGap bus_gap (loaded_from (byte_for (view_byte old) access) at size)
      → Same ThereCall (loaded_from (byte_for (view_byte old) access) at size)
      (loaded_from (byte_for (view_byte new) access) at size) (load_calls old access at size) (load_calls new access at size)
  unfolding loaded_from load_calls
  load_same access at size h g =
      let same = from_same HeldCall ThereCall (byte_calls old access) (byte_calls new access) (byte_for (view_byte old) access)
      (byte_for (view_byte new) access)
      (λ next held gapless. (byte_same access next held gapless).byte) at size h
      (end_no_gap number_of (bytes_from (byte_for (view_byte old) access) at size) g) in
      record { answer = ap (λ r. and_then r (λ bytes. Ok (number_of bytes))) same.answer; reads = same.reads; there = same.there }

  -- ---- the places of a store

  -- a byte that is stored was read
  there_no_gap : (byte : Result ℕ BusStop) (place : Result PhysAddr BusStop) → NoGap bus_gap (where_there byte place)
      → NoGap bus_gap byte
  there_no_gap (Ok byte) place g = tt
  there_no_gap (Err e) place g = g

  -- where each byte is read
  pub store_place_same : (at : ℕ) → Each HeldCall (byte_calls old Write at) → NoGap bus_gap (store_place old at)
      → Same ThereCall (store_place old at) (store_place new at) (byte_calls old Write at) (byte_calls new Write at)
  unfolding store_place
  store_place_same at h g =
      let same = byte_same Write at h (there_no_gap (view_byte old at Write) _ g) in
      record { answer = rw (same.place, same.byte.answer) refl; reads = same.byte.reads; there = same.byte.there }

  -- a store is done: each of its bytes has a place
  first_led : (at : ℕ) (answer : Result PhysAddr NestedStop)
      → NoGap bus_gap (where_there (byte_behind memory at answer) (place_answer at answer)) → NoGap nested_gap answer
  first_led at (Ok place) g = tt
  first_led at (Err e) g = sym (stop_told at e) ∙ g

  -- where no byte is read
  changed_led : (at : ℕ) (place : PhysAddr) (answer other : Result ℕ Missing)
      → (((byte : ℕ) → answer ≡ Ok byte → (more : ℕ) × (other ≡ Ok more)))
      → NoGap bus_gap (where_there (byte_answer answer) (Ok place))
      → where_there (byte_answer other) (Ok place) ≡ where_there (byte_answer answer) (Ok place)
  unfolding bus_gap
  changed_led at place (Ok byte) other h g = let there = h byte refl in rw there.1 refl
  changed_led at place (Err gone) other h g = cc

  -- a byte is read where its frame is there
  read_by : (test : Bool) (byte frame : ℕ) → test ≡ true
      → (more : ℕ) × ((if test then Ok byte else Err (missing frame)) ≡ Ok more)
  read_by true byte frame e = (byte, refl)
  read_by false byte frame e = cc

  -- a byte that the one memory gives is there in the other
  changed_read : ((frame : ℕ) → has_frame memory frame ≡ true → has_frame changed frame ≡ true) → (place byte : ℕ)
      → byte_read memory place ≡ Ok byte → (more : ℕ) × (byte_read changed place ≡ Ok more)
  changed_read there place byte e =
      read_by (has_frame changed (frame_of place)) _ (frame_of place) (there (frame_of place) (byte_is_there place byte e))

  -- so a byte that is written has its place in both
  led_same : ((frame : ℕ) → has_frame memory frame ≡ true → has_frame changed frame ≡ true)
      → (at : ℕ) (answer : Result PhysAddr NestedStop)
      → NoGap bus_gap (where_there (byte_behind memory at answer) (place_answer at answer))
      → where_there (byte_behind changed at answer) (place_answer at answer)
      ≡ where_there (byte_behind memory at answer) (place_answer at answer)
  led_same there at (Ok place) g =
      changed_led at place (byte_read memory place.0) (byte_read changed place.0) (λ byte e. changed_read there place.0 byte e) g
  led_same there at (Err e) g = refl

  -- the places of a whole word are the same, though its bytes are not read
  pub whole_place_same : ((frame : ℕ) → has_frame memory frame ≡ true → has_frame changed frame ≡ true) → (at : ℕ)
      → Each HeldCall (walk_calls old Write at) → NoGap bus_gap (store_place old at)
      → Same ThereCall (store_place old at) (store_place new at) (walk_calls old Write at) (walk_calls new Write at)
  unfolding store_place view_byte
  whole_place_same there at h g =
      let same = place_same Write at h (first_led at (place_of old Write at) g) in
      record { answer = rw same.answer (led_same there at (place_of old Write at) g); reads = same.reads; there = same.there }

  -- its first byte leads to the same place
  pub first_place_same : (at : ℕ) → Each HeldCall (walk_calls old Write at) → NoGap bus_gap (store_place old at)
      → place_of new Write at ≡ place_of old Write at
  unfolding store_place view_byte
  first_place_same at h g = (place_same Write at h (first_led at (place_of old Write at) g)).answer

  -- a byte that is stored stands in a frame that is there
  stands_by : (place led : PhysAddr) (answer : Result ℕ Missing) → byte_read memory place.0 ≡ answer
      → where_there (byte_answer answer) (Ok place) ≡ Ok led
      → has_frame memory (frame_of led.0) ≡ true
  stands_by place led (Ok byte) e f =
      let same : place ≡ led = cc in
      subst (λ (p : PhysAddr). has_frame memory (frame_of p.0) ≡ true) same (byte_is_there place.0 byte e)
  stands_by place led (Err gone) e f = cc

  -- so it does behind the walk
  stands_behind : (at : ℕ) (answer : Result PhysAddr NestedStop) (led : PhysAddr)
      → where_there (byte_behind memory at answer) (place_answer at answer) ≡ Ok led
      → has_frame memory (frame_of led.0) ≡ true
  stands_behind at (Ok place) led e = stands_by place led (byte_read memory place.0) refl e
  stands_behind at (Err s) led e = cc

  -- the place of a byte that is stored is in a frame that is there
  pub place_stands : (at : ℕ) (led : PhysAddr) → store_place old at ≡ Ok led → has_frame memory (frame_of led.0) ≡ true
  unfolding store_place view_byte
  place_stands at led e = stands_behind at (place_of old Write at) led e

  -- these places are
  abbrev pub AllStand : List PhysAddr → Type 0
  AllStand places = Each (λ place. has_frame memory (frame_of place.0) ≡ true) places

  -- the places of a byte and of those behind it
  stand_by : (answer : Result PhysAddr BusStop) (others : Result (List PhysAddr) BusStop) (places : List PhysAddr)
      → ((place : PhysAddr) → answer ≡ Ok place → has_frame memory (frame_of place.0) ≡ true)
      → ((more : List PhysAddr) → others ≡ Ok more → AllStand more)
      → and_then answer (λ lowest. and_then others (λ more. Ok (lowest ∷ more))) ≡ Ok places → AllStand places
  stand_by (Ok place) (Ok more) places here rest e =
      let same : place ∷ more ≡ places = cc in
      subst AllStand same (here place refl, rest more refl)
  stand_by (Ok place) (Err s) places here rest e = cc
  stand_by (Err s) others places here rest e = cc

  -- the places of a store are in frames that are there
  pub places_stand : (at count : ℕ) (places : List PhysAddr) → bytes_from (store_place old) at count ≡ Ok places → AllStand places
  unfolding bytes_from
  places_stand at zero places e = let same : [] ≡ places = cc in subst AllStand same tt
  places_stand at (suc count) places e =
      stand_by (store_place old at) (bytes_from (store_place old) ((at + 1) % 2 ^ 64) count) places (place_stands at)
      (places_stand ((at + 1) % 2 ^ 64) count) e

  -- the first byte of a whole word
  led_ok : (place led : PhysAddr) (byte : Result ℕ BusStop) → where_there byte (Ok place) ≡ Ok led
      → Path (Result PhysAddr NestedStop) (Ok place) (Ok led)
  led_ok place led (Ok byte) e = let same : place ≡ led = cc in ap (λ (p : PhysAddr). Ok p) same
  led_ok place led (Err s) e = cc

  -- where a byte is stored, its address leads
  led_by : (at : ℕ) (answer : Result PhysAddr NestedStop) (led : PhysAddr)
      → where_there (byte_behind memory at answer) (place_answer at answer) ≡ Ok led → answer ≡ Ok led
  led_by at (Ok place) led e = led_ok place led (byte_answer (byte_read memory place.0)) e
  led_by at (Err s) led e = cc

  -- a byte is stored where its address leads
  pub place_led : (at : ℕ) (led : PhysAddr) → store_place old at ≡ Ok led → place_of old Write at ≡ Ok led
  unfolding store_place view_byte
  place_led at led e = led_by at (place_of old Write at) led e

-- ---- the calls of stores, by the places

module _ (memory : Physical) (eptp cr3 : ℕ) where
  -- what a core sees
  abbrev core : View
  core = view memory eptp cr3

  -- what is read behind a byte, by its place
  read_same : (byte : Result ℕ BusStop) (place : PhysAddr) (calls others : List PhysCall) → calls ≡ others
      → where_ok byte (λ _. calls) ≡ where_ok (where_there byte (Ok place)) (λ _. others)
  read_same (Ok byte) place calls others e = e
  read_same (Err s) place calls others e = refl

  -- the same where the walk led
  led_calls : (at : ℕ) (answer : Result PhysAddr NestedStop) (calls others : List PhysCall) → calls ≡ others
      → where_ok (byte_behind memory at answer) (λ _. calls)
      ≡ where_ok (where_there (byte_behind memory at answer) (place_answer at answer)) (λ _. others)
  led_calls at (Ok place) calls others e = read_same (byte_answer (byte_read memory place.0)) place calls others e
  led_calls at (Err s) calls others e = refl

  -- what is read behind one byte of a store
  one_led : (at : ℕ) (calls others : List PhysCall) → calls ≡ others
      → where_ok (view_byte core at Write) (λ _. calls) ≡ where_ok (store_place core at) (λ _. others)
  unfolding store_place view_byte
  one_led at calls others e = led_calls at (place_of core Write at) calls others e

  -- the calls that read the bytes of a store, by their places
  calls_led : (at count : ℕ)
      → calls_from (byte_calls core Write) (byte_for (view_byte core) Write) at count
      ≡ calls_from (byte_calls core Write) (store_place core) at count
  unfolding calls_from
  calls_led at zero = refl
  calls_led at (suc count) =
      ap (λ others. byte_calls core Write at ++ others) (one_led at _ _ (calls_led ((at + 1) % 2 ^ 64) count))

  -- the calls that read the bytes of a store, by their places
  pub load_calls_led : (at count : ℕ)
      → load_calls core Write at count ≡ calls_from (byte_calls core Write) (store_place core) at count
  unfolding load_calls
  load_calls_led at count = calls_led at count

  -- of a whole word: where no frame is missing

  -- what is looked up behind a byte that has a place
  whole_by : (byte : Result ℕ BusStop) (place : PhysAddr) (calls others : List PhysCall) (led : PhysAddr)
      → where_there byte (Ok place) ≡ Ok led → calls ≡ others
      → calls ≡ where_ok (where_there byte (Ok place)) (λ _. others)
  whole_by (Ok byte) place calls others led e f = f
  whole_by (Err s) place calls others led e f = cc

  -- the same where the walk led
  whole_led : (at : ℕ) (answer : Result PhysAddr NestedStop) (led : PhysAddr) (calls others : List PhysCall)
      → where_there (byte_behind memory at answer) (place_answer at answer) ≡ Ok led → calls ≡ others
      → where_ok (place_answer at answer) (λ _. calls)
      ≡ where_ok (where_there (byte_behind memory at answer) (place_answer at answer)) (λ _. others)
  whole_led at (Ok place) led calls others e f = whole_by (byte_answer (byte_read memory place.0)) place calls others led e f
  whole_led at (Err s) led calls others e f = refl

  -- what is looked up behind one byte of a whole word
  walk_led : (at : ℕ) (led : PhysAddr) (calls others : List PhysCall) → store_place core at ≡ Ok led → calls ≡ others
      → where_ok (walk_place core Write at) (λ _. calls) ≡ where_ok (store_place core at) (λ _. others)
  unfolding store_place view_byte walk_place
  walk_led at led calls others e f = whole_led at (place_of core Write at) led calls others e f

  -- places one after another: the first, and the others
  pub first_of_places : (answer : Result PhysAddr BusStop) (others : Result (List PhysAddr) BusStop) (places : List PhysAddr)
      → and_then answer (λ lowest. and_then others (λ more. Ok (lowest ∷ more))) ≡ Ok places
      → ((led : PhysAddr) × (answer ≡ Ok led)) × ((more : List PhysAddr) × (others ≡ Ok more))
  first_of_places (Ok led) (Ok more) places e = ((led, refl), (more, refl))
  first_of_places (Ok led) (Err s) places e = cc
  first_of_places (Err s) others places e = cc

  -- the calls that look up the bytes of a store, by their places
  walks_led : (at count : ℕ) (places : List PhysAddr) → bytes_from (store_place core) at count ≡ Ok places
      → calls_from (walk_calls core Write) (walk_place core Write) at count
      ≡ calls_from (walk_calls core Write) (store_place core) at count
  unfolding calls_from bytes_from
  walks_led at zero places e = refl
  walks_led at (suc count) places e =
      let both = first_of_places (store_place core at) (bytes_from (store_place core) ((at + 1) % 2 ^ 64) count) places e in
      ap (λ others. walk_calls core Write at ++ others)
      (walk_led at both.0.0 _ _ both.0.1 (walks_led ((at + 1) % 2 ^ 64) count both.1.0 both.1.1))

  -- the calls that look up the bytes of a store, by their places
  pub look_calls_led : (at count : ℕ) (places : List PhysAddr) → bytes_from (store_place core) at count ≡ Ok places
      → look_calls core at count ≡ calls_from (walk_calls core Write) (store_place core) at count
  unfolding look_calls
  look_calls_led at count places e = walks_led at count places e
