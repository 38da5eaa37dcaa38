-- A call of a core's bus over two memories that agree: the same answer, the same account, and they agree again.
use Rattle.std.proofs.Common.{◌≡◌, ap, sym, subst, ◌∙◌, ℕ, zero, suc, ◌+◌, ◌/◌, ◌%◌, ◌^◌, ◌==◌, ◌<◌, Bool, true, false, List, [], ◌∷◌, refl, arith}
use Rattle.std.specs.Prelude.{Result, Ok, Err, if◌then◌else◌}
use Rattle.std.proofs.lemmas.Bool.{and_parts, eqb-true}
use Rattle.sb_memory.specs.Physical.{Physical, has_frame, frame_of}
use Rattle.sb_memory.specs.Accounts.{PhysCall, ReadByte, ReadWord, WriteByte, WriteWord, word_calls, account_after_reads}
use Rattle.sb_memory.specs.Reading.{byte_written, word_written}
use Rattle.sb_memory.specs.declared.address.Access.{Access}
use Rattle.sb_memory.specs.declared.address.Access.TheVariants.{Read, Write, Fetch}
use Rattle.sb_memory.specs.declared.address.PhysAddr.{PhysAddr}
use Rattle.sb_memory.specs.Outcome.{done}
use Rattle.sb_walks.specs.declared.stop.NestedStop.{NestedStop}
use Rattle.sb_walks.specs.Reads.{where_ok}
use Rattle.sb_walks.specs.Nested.{memory_behind, translation_reads}
use Rattle.sb_bus.specs.declared.stop.BusStop.{BusStop}
use Rattle.sb_bus.specs.Access.{bytes_from, loaded_from, byte_for, byte_for_write}
use Rattle.sb_bus.specs.Interface.{BusCall, FetchByte, LoadBytes, LoadForWrite, StoreBytes}
use Rattle.sb_nested.specs.View.{View, view, place_of, walk_calls, view_byte, byte_calls, calls_from, walk_place}
use Rattle.sb_nested.specs.Store.{store_place, load_calls, look_calls, after_bytes_stored, after_word_stored, bytes_stored, word_stored, put_value, after_writes, after_answer, after_word, is_whole, memory_stored, store_rule, view_rule}
use Rattle.sb_nested.proofs.Writing.{loaded_for_write}
use Rattle.sb_nested.proofs.WholeWord.{led_offset}
use Rattle.sb_agree.specs.Noted.{Noted, word_of, read_noted, noted_rule}
use Rattle.sb_walks.specs.Gaps.{NoGap}
use Rattle.sb_walks.proofs.Depends.{Each, each_left, each_joined}
use Rattle.sb_agree.specs.Held.{Agrees, Covers, is_known}
use Rattle.sb_agree.proofs.Bytes.{bus_gap, HeldCall, ThereCall, byte_same, load_same, from_same, store_place_same, whole_place_same, first_place_same, places_stand, place_stands, place_led, load_calls_led, look_calls_led, first_of_places}
use Rattle.sb_agree.proofs.Noting.{IsRead, read_writes, read_known, write_reads, rule_more, rule_same, rule_there, after_writes_same, after_more, KnownCall, after_known, after_same}
use Rattle.sb_agree.proofs.Agreeing.{byte_kept, word_kept, byte_put, word_held, byte_held}

-- ---- the calls of walks and bytes read

-- words are read
words_read : (places : List ℕ) → Each IsRead (word_calls places)
words_read [] = tt
words_read (place ∷ places) = (tt, words_read places)

-- a walk only reads
pub walk_read : (core : View) (access : Access) (at : ℕ) → Each IsRead (walk_calls core access at)
unfolding walk_calls
walk_read core access at = words_read (translation_reads (memory_behind core.physical core.eptp) core.cr3 at access)

-- the byte behind it is read
one_read : (answer : Result PhysAddr NestedStop) → Each IsRead (where_ok answer (λ place. ReadByte place.0 ∷ []))
one_read (Ok place) = (tt, tt)
one_read (Err e) = tt

-- the calls for a byte only read
pub byte_read_only : (core : View) (access : Access) (at : ℕ) → Each IsRead (byte_calls core access at)
unfolding byte_calls
byte_read_only core access at = each_joined IsRead _ _ (walk_read core access at) (one_read (place_of core access at))

-- the calls behind an answer
where_read : {A : Type 0} (answer : Result A BusStop) (calls : List PhysCall) → Each IsRead calls
    → Each IsRead (where_ok answer (λ _. calls))
where_read (Ok a) calls are = are
where_read (Err e) calls are = tt

-- calls for bytes one after another only read, where those for each byte do
pub from_read : {A : Type 0} (calls : ℕ → List PhysCall) (answer : ℕ → Result A BusStop) → ((at : ℕ) → Each IsRead (calls at))
    → (at count : ℕ) → Each IsRead (calls_from calls answer at count)
unfolding calls_from
from_read calls answer are at zero = tt
from_read calls answer are at (suc count) =
    each_joined IsRead _ _ (are at) (where_read (answer at) _ (from_read calls answer are ((at + 1) % 2 ^ 64) count))

-- a load only reads
pub loads_read : (core : View) (access : Access) (at size : ℕ) → Each IsRead (load_calls core access at size)
unfolding load_calls
loads_read core access at size =
    from_read (byte_calls core access) (byte_for (view_byte core) access) (byte_read_only core access) at size

-- looking up bytes only reads
pub looks_read : (core : View) (at size : ℕ) → Each IsRead (look_calls core at size)
unfolding look_calls
looks_read core at size = from_read (walk_calls core Write) (walk_place core Write) (walk_read core Write) at size

-- an answer that is there
pub ok_no_gap : {A : Type 0} (answer : Result A BusStop) (value : A) → answer ≡ Ok value → NoGap bus_gap answer
ok_no_gap (Ok a) value e = tt
ok_no_gap (Err s) value e = cc

-- ---- calls that read, over memories that agree

module _ (all : List ℕ) (start : Physical) (eptp cr3 : ℕ) (memory changed : Physical) (account : Noted)
    (agree : Agrees all start account.writes memory changed) where
  -- what a core sees over the one memory
  abbrev old : View
  old = view memory eptp cr3

  -- and over the other
  abbrev new : View
  new = view changed eptp cr3

  -- what a call reads is the same in both
  abbrev Held : PhysCall → Type 0
  Held = HeldCall memory changed agree.frames eptp cr3

  -- the frame of a call is there
  abbrev Here : PhysCall → Type 0
  Here = ThereCall memory changed agree.frames eptp cr3

  -- a known word or byte that a call reads is the same in both
  call_held : (call : PhysCall) → KnownCall all memory account.writes call → Held call
  call_held (ReadByte place) is = byte_held all start account.writes memory changed agree place is
  call_held (ReadWord place) is = word_held all start account.writes memory changed agree place is
  call_held (WriteByte place byte) is = tt
  call_held (WriteWord place word) is = tt

  -- so is what calls read
  calls_held : (calls : List PhysCall) → Each (KnownCall all memory account.writes) calls → Each Held calls
  calls_held [] are = tt
  calls_held (call ∷ calls) are = (call_held call are.0, calls_held calls are.1)

  -- what calls read is the same in both, where the account after them is covered
  pub held_by : (calls : List PhysCall) → Each IsRead calls
      → Covers all (account_after_reads noted_rule memory calls account).reads → Each Held calls
  held_by calls are covers = calls_held calls (after_known all memory calls account are covers)

  -- the account after calls that read
  pub account_same : (calls others : List PhysCall) → others ≡ calls → Each Here calls
      → account_after_reads noted_rule changed others account ≡ account_after_reads noted_rule memory calls account
  account_same calls others e are =
      ap (λ c. account_after_reads noted_rule changed c account) e ∙ after_same all memory changed agree.there calls account are

  -- a byte that is fetched
  pub fetch_alike : (at : ℕ) → Covers all (view_rule noted_rule (FetchByte at) old account).reads
      → NoGap bus_gap (view_byte old at Fetch)
      → (view_byte new at Fetch ≡ view_byte old at Fetch)
      × (view_rule noted_rule (FetchByte at) new account ≡ view_rule noted_rule (FetchByte at) old account)
  unfolding view_rule
  fetch_alike at covers g =
      let same = byte_same memory changed agree.frames eptp cr3 Fetch at
      (held_by (byte_calls old Fetch at) (byte_read_only old Fetch at) covers) g in
      (same.byte.answer, account_same (byte_calls old Fetch at) (byte_calls new Fetch at) same.byte.reads same.byte.there)

  -- a number that is loaded, for any access
  load_any : (access : Access) (at size : ℕ)
      → Covers all (account_after_reads noted_rule memory (load_calls old access at size) account).reads
      → NoGap bus_gap (loaded_from (byte_for (view_byte old) access) at size)
      → (loaded_from (byte_for (view_byte new) access) at size ≡ loaded_from (byte_for (view_byte old) access) at size)
      × (account_after_reads noted_rule changed (load_calls new access at size) account
      ≡ account_after_reads noted_rule memory (load_calls old access at size) account)
  load_any access at size covers g =
      let same = load_same memory changed agree.frames eptp cr3 access at size
      (held_by (load_calls old access at size) (loads_read old access at size) covers) g in
      (same.answer, account_same (load_calls old access at size) (load_calls new access at size) same.reads same.there)

  -- a number that is loaded
  pub load_alike : (at size value : ℕ) → Covers all (view_rule noted_rule (LoadBytes at size) old account).reads
      → loaded_from (byte_for (view_byte old) Read) at size ≡ Ok value
      → (loaded_from (byte_for (view_byte new) Read) at size ≡ Ok value)
      × (view_rule noted_rule (LoadBytes at size) new account ≡ view_rule noted_rule (LoadBytes at size) old account)
      × ((view_rule noted_rule (LoadBytes at size) old account).writes ≡ account.writes)
  unfolding view_rule
  load_alike at size value covers e =
      let both = load_any Read at size covers (ok_no_gap _ value e) in
      (both.0 ∙ e, both.1, after_writes_same all memory (load_calls old Read at size) account (loads_read old Read at size))

  -- a number that is loaded to be written back
  pub load_for_write_alike : (at size value : ℕ) → Covers all (view_rule noted_rule (LoadForWrite at size) old account).reads
      → loaded_from (byte_for_write (view_byte old)) at size ≡ Ok value
      → (loaded_from (byte_for_write (view_byte new)) at size ≡ Ok value)
      × (view_rule noted_rule (LoadForWrite at size) new account ≡ view_rule noted_rule (LoadForWrite at size) old account)
      × ((view_rule noted_rule (LoadForWrite at size) old account).writes ≡ account.writes)
  unfolding view_rule
  load_for_write_alike at size value covers e =
      let here : loaded_from (byte_for (view_byte old) Write) at size ≡ Ok value = sym (loaded_for_write old at size) ∙ e in
      let both = load_any Write at size covers (ok_no_gap _ value here) in (
        loaded_for_write new at size ∙ both.0
            ∙ here,
        both.1,
        after_writes_same all memory (load_calls old Write at size) account (loads_read old Write at size),
      )

-- ---- bytes are put

-- writing bytes keeps what was noted as read
pub writes_more : (all : List ℕ) (memory : Physical) (places : List PhysAddr) (value : ℕ) (account : Noted)
    → Covers all (after_writes noted_rule memory places value account).reads → Covers all account.reads
writes_more all memory [] value account covers = covers
writes_more all memory (place ∷ places) value account covers =
    rule_more all memory (WriteByte place.0 (value % 256)) account
    (writes_more all (byte_written memory place.0 (value % 256)) places (value / 256)
    (noted_rule (WriteByte place.0 (value % 256)) memory account) covers)

-- these places are in frames that are there
abbrev AllHere : Physical → List PhysAddr → Type 0
AllHere memory places = Each (λ place. has_frame memory (frame_of place.0) ≡ true) places

-- the byte's word is known before it is written
byte_known : (all : List ℕ) (memory : Physical) (place byte : ℕ) (account : Noted) → has_frame memory (frame_of place) ≡ true
    → Covers all (noted_rule (WriteByte place byte) memory account).reads → is_known all account.writes (word_of place) ≡ true
byte_known all memory place byte account there covers =
    read_known all _ account
    (subst (λ (words : List ℕ). Covers all words)
    (ap (λ (a : Noted). a.reads) (rule_there memory (WriteByte place byte) account there) ∙ write_reads _ _) covers)

-- a byte that is written into both
byte_alike : (all : List ℕ) (start memory changed : Physical) (place byte : ℕ) (account : Noted)
    → has_frame memory (frame_of place) ≡ true → Agrees all start account.writes memory changed
    → Covers all (noted_rule (WriteByte place byte) memory account).reads
    → Agrees all start (noted_rule (WriteByte place byte) memory account).writes (byte_written memory place byte)
    (byte_written changed place byte)
byte_alike all start memory changed place byte account there agree covers =
    let same = read_writes (word_of place) account in
    let before : Agrees all start (read_noted (word_of place) account).writes memory changed =
    subst (λ (w : List ℕ). Agrees all start w memory changed) (sym same) agree in
    let is : is_known all (read_noted (word_of place) account).writes (word_of place) ≡ true =
    subst (λ (w : List ℕ). is_known all w (word_of place) ≡ true) (sym same)
    (byte_known all memory place byte account there covers) in
    subst (λ (a : Noted). Agrees all start a.writes (byte_written memory place byte) (byte_written changed place byte))
    (sym (rule_there memory (WriteByte place byte) account there))
    (byte_kept all start (read_noted (word_of place) account) memory changed before place there byte is)

-- the bytes of a value that are written into both, one after another
pub puts_alike : (all : List ℕ) (start memory changed : Physical) (places : List PhysAddr) (value : ℕ) (account : Noted)
    → AllHere memory places → Agrees all start account.writes memory changed
    → Covers all (after_writes noted_rule memory places value account).reads
    → (after_writes noted_rule changed places value account ≡ after_writes noted_rule memory places value account)
    × Agrees all start (after_writes noted_rule memory places value account).writes (put_value memory places value)
    (put_value changed places value)
puts_alike all start memory changed [] value account are agree covers = (refl, agree)
puts_alike all start memory changed (place ∷ places) value account are agree covers =
    let after = noted_rule (WriteByte place.0 (value % 256)) memory account in
    let covered = writes_more all (byte_written memory place.0 (value % 256)) places (value / 256) after covers in
    let still : AllHere (byte_written memory place.0 (value % 256)) places =
    subst (λ (m : Physical). AllHere m places) (sym (byte_put memory place.0 (value % 256) are.0)) are.1 in
    let rest = puts_alike all start (byte_written memory place.0 (value % 256)) (byte_written changed place.0 (value % 256))
    places (value / 256) after still
    (byte_alike all start memory changed place.0 (value % 256) account are.0 agree covered) covers in (
      ap (λ a. after_writes noted_rule (byte_written changed place.0 (value % 256)) places (value / 256) a)
          (rule_same memory changed (WriteByte place.0 (value % 256)) account are.0 (agree.there (frame_of place.0) are.0))
          ∙ rest.0,
      rest.1,
    )

-- ---- a store

-- a word that is written into both
word_alike : (all : List ℕ) (start memory changed : Physical) (place word : ℕ) (account : Noted)
    → has_frame memory (frame_of place) ≡ true → place % 8 ≡ 0 → Agrees all start account.writes memory changed
    → Agrees all start (noted_rule (WriteWord place word) memory account).writes (word_written memory place word)
    (word_written changed place word)
word_alike all start memory changed place word account there even agree =
    subst (λ (a : Noted). Agrees all start a.writes (word_written memory place word) (word_written changed place word))
    (sym (rule_there memory (WriteWord place word) account there))
    (word_kept all start account memory changed agree place there even word)

-- an answer that is done is there
pub done_ok : {A : Type 0} (answer : Result A BusStop) → done answer ≡ Ok tt → (value : A) × (answer ≡ Ok value)
done_ok (Ok value) e = (value, refl)
done_ok (Err s) e = cc

-- a whole word has 8 bytes and lies at a multiple of 8
whole_size : (at size : ℕ) → is_whole at size ≡ true → (size ≡ 8) × (at % 8 ≡ 0)
whole_size at size e =
    let both = and_parts (size == 8) (at % 8 == 0) e in (eqb-true size 8 both.0, eqb-true (at % 8) 0 both.1)

-- what a store leaves
pub record SameStore (all : List ℕ) (start : Physical) (one two : Noted) (memory changed : Physical) : Type 0 where
  pub account : two ≡ one
  pub agrees : Agrees all start one.writes memory changed

module _ (all : List ℕ) (start : Physical) (eptp cr3 : ℕ) (memory changed : Physical) (account : Noted)
    (agree : Agrees all start account.writes memory changed) (at size value : ℕ)
    (places : List PhysAddr) (led : bytes_from (store_place (view memory eptp cr3)) at size ≡ Ok places) where
  -- what a core sees over the one memory
  abbrev old_core : View
  old_core = view memory eptp cr3

  -- and over the other
  abbrev new_core : View
  new_core = view changed eptp cr3

  -- bytes, one by one
  apart_alike : Covers all (after_bytes_stored noted_rule old_core at size value account).reads
      → (bytes_from (store_place new_core) at size ≡ Ok places)
      × SameStore all start (after_bytes_stored noted_rule old_core at size value account)
      (after_bytes_stored noted_rule new_core at size value account) (bytes_stored old_core at size value)
      (bytes_stored new_core at size value)
  apart_alike covers =
      let looked = account_after_reads noted_rule memory (load_calls old_core Write at size) account in
      let covers' : Covers all (after_writes noted_rule memory places value looked).reads =
      subst (λ (r : Result (List PhysAddr) BusStop). Covers all (after_answer noted_rule memory r value looked).reads) led
      covers in
      let covered = writes_more all memory places value looked covers' in
      let held = held_by all start eptp cr3 memory changed account agree (load_calls old_core Write at size)
      (loads_read old_core Write at size) covered in
      let held' = subst (λ (calls : List PhysCall). Each (HeldCall memory changed agree.frames eptp cr3) calls)
      (load_calls_led memory eptp cr3 at size) held in
      let same = from_same (HeldCall memory changed agree.frames eptp cr3) (ThereCall memory changed agree.frames eptp cr3)
      (byte_calls old_core Write) (byte_calls new_core Write) (store_place old_core) (store_place new_core)
      (store_place_same memory changed agree.frames eptp cr3) at size held' (ok_no_gap _ places led) in
      let led' : bytes_from (store_place new_core) at size ≡ Ok places = same.answer ∙ led in
      let there' = subst (λ (calls : List PhysCall). Each (ThereCall memory changed agree.frames eptp cr3) calls)
      (sym (load_calls_led memory eptp cr3 at size)) same.there in
      let calls = load_calls_led changed eptp cr3 at size ∙ same.reads ∙ sym (load_calls_led memory eptp cr3 at size) in
      let accounts = account_same all start eptp cr3 memory changed account agree (load_calls old_core Write at size)
      (load_calls new_core Write at size) calls there' in
      let written = after_writes_same all memory (load_calls old_core Write at size) account
      (loads_read old_core Write at size) in
      let agree' : Agrees all start looked.writes memory changed =
      subst (λ (w : List ℕ). Agrees all start w memory changed) (sym written) agree in
      let puts = puts_alike all start memory changed places value looked
      (places_stand memory changed agree.frames eptp cr3 at size places led) agree' covers' in
      (led', (rw (led, led', accounts) (record { account = puts.0; agrees = puts.1 })))

  -- the first byte of a store has a place
  first_of : (count : ℕ) → 0 < count → bytes_from (store_place old_core) at count ≡ Ok places
      → (place : PhysAddr) × (store_place old_core at ≡ Ok place)
  unfolding bytes_from
  first_of zero some e = absurd (omega arith)
  first_of (suc count) some e =
      (first_of_places memory eptp cr3 (store_place old_core at) (bytes_from (store_place old_core) ((at + 1) % 2 ^ 64) count)
      places e).0

  -- what the first byte reads is held
  first_held : (Held : PhysCall → Type 0) (calls : ℕ → List PhysCall) (answer : ℕ → Result PhysAddr BusStop) (count : ℕ)
      → 0 < count → Each Held (calls_from calls answer at count) → Each Held (calls at)
  unfolding calls_from
  first_held Held calls answer zero some h = absurd (omega arith)
  first_held Held calls answer (suc count) some h = each_left Held (calls at) _ h

  -- a whole word
  whole_alike : size ≡ 8 → at % 8 ≡ 0 → Covers all (after_word_stored noted_rule old_core at value account).reads
      → (bytes_from (store_place new_core) at size ≡ Ok places)
      × SameStore all start (after_word_stored noted_rule old_core at value account)
      (after_word_stored noted_rule new_core at value account) (word_stored old_core at value) (word_stored new_core at value)
  whole_alike eight even covers =
      let led' : bytes_from (store_place old_core) at 8 ≡ Ok places =
      subst (λ (n : ℕ). bytes_from (store_place old_core) at n ≡ Ok places) eight led in
      let some : 0 < 8 = omega arith in
      let looked = account_after_reads noted_rule memory (look_calls old_core at 8) account in
      let first = first_of 8 some led' in
      let place = first.0 in
      let placed = place_led memory changed agree.frames eptp cr3 at place first.1 in
      let stands = place_stands memory changed agree.frames eptp cr3 at place first.1 in
      let offset = led_offset old_core at place placed in
      let aligned : place.0 % 8 ≡ 0 = omega arith in
      let covers' : Covers all (noted_rule (WriteWord place.0 value) memory looked).reads =
      subst (λ (r : Result PhysAddr NestedStop). Covers all (after_word noted_rule memory r value looked).reads) placed covers in
      let covered = rule_more all memory (WriteWord place.0 value) looked covers' in
      let held = held_by all start eptp cr3 memory changed account agree (look_calls old_core at 8) (looks_read old_core at 8)
      covered in
      let held' = subst (λ (calls : List PhysCall). Each (HeldCall memory changed agree.frames eptp cr3) calls)
      (look_calls_led memory eptp cr3 at 8 places led') held in
      let same = from_same (HeldCall memory changed agree.frames eptp cr3) (ThereCall memory changed agree.frames eptp cr3)
      (walk_calls old_core Write) (walk_calls new_core Write) (store_place old_core) (store_place new_core)
      (whole_place_same memory changed agree.frames eptp cr3 agree.there) at 8 held' (ok_no_gap _ places led') in
      let other : bytes_from (store_place new_core) at 8 ≡ Ok places = same.answer ∙ led' in
      let placed' : place_of new_core Write at ≡ Ok place =
      first_place_same memory changed agree.frames eptp cr3 at
      (first_held (HeldCall memory changed agree.frames eptp cr3) (walk_calls old_core Write) (store_place old_core) 8 some
      held') (ok_no_gap _ place first.1) ∙ placed in
      let there' = subst (λ (calls : List PhysCall). Each (ThereCall memory changed agree.frames eptp cr3) calls)
      (sym (look_calls_led memory eptp cr3 at 8 places led')) same.there in
      let calls = look_calls_led changed eptp cr3 at 8 places other ∙ same.reads
      ∙ sym (look_calls_led memory eptp cr3 at 8 places led') in
      let accounts = account_same all start eptp cr3 memory changed account agree (look_calls old_core at 8)
      (look_calls new_core at 8) calls there' in
      let written = after_writes_same all memory (look_calls old_core at 8) account (looks_read old_core at 8) in
      let agree' : Agrees all start looked.writes memory changed =
      subst (λ (w : List ℕ). Agrees all start w memory changed) (sym written) agree in (
        subst (λ (n : ℕ). bytes_from (store_place new_core) at n ≡ Ok places) (sym eight) other,
        (rw (placed, placed', accounts) (record {
          account = rule_same memory changed (WriteWord place.0 value) looked stands (agree.there (frame_of place.0) stands);
          agrees = word_alike all start memory changed place.0 value looked stands aligned agree';
        })),
      )

  -- a store, by whether it is of a whole word
  store_by : (test : Bool) → is_whole at size ≡ test
      → Covers all (if test then after_word_stored noted_rule old_core at value account
      else after_bytes_stored noted_rule old_core at size value account).reads
      → (bytes_from (store_place new_core) at size ≡ Ok places)
      × SameStore all start (if test then after_word_stored noted_rule old_core at value account
      else after_bytes_stored noted_rule old_core at size value account)
      (if test then after_word_stored noted_rule new_core at value account
      else after_bytes_stored noted_rule new_core at size value account)
      (if test then word_stored old_core at value else bytes_stored old_core at size value)
      (if test then word_stored new_core at value else bytes_stored new_core at size value)
  store_by true is covers = let both = whole_size at size is in whole_alike both.0 both.1 covers
  store_by false is covers = apart_alike covers

  -- a store has the same places in both, notes the same, and the memories after it agree
  pub store_alike : Covers all (store_rule noted_rule old_core at size value account).reads
      → (bytes_from (store_place new_core) at size ≡ Ok places)
      × SameStore all start (store_rule noted_rule old_core at size value account)
      (store_rule noted_rule new_core at size value account)
      (memory_stored old_core at size value) (memory_stored new_core at size value)
  unfolding store_rule memory_stored
  store_alike covers = store_by (is_whole at size) refl covers

-- ---- accounts only grow

-- bytes that are stored keep what was noted as read
answer_more : (all : List ℕ) (memory : Physical) (places : Result (List PhysAddr) BusStop) (value : ℕ) (account : Noted)
    → Covers all (after_answer noted_rule memory places value account).reads → Covers all account.reads
answer_more all memory (Ok places) value account covers = writes_more all memory places value account covers
answer_more all memory (Err s) value account covers = covers

-- so does a word
word_more : (all : List ℕ) (memory : Physical) (place : Result PhysAddr NestedStop) (value : ℕ) (account : Noted)
    → Covers all (after_word noted_rule memory place value account).reads → Covers all account.reads
word_more all memory (Ok place) value account covers = rule_more all memory (WriteWord place.0 value) account covers
word_more all memory (Err s) value account covers = covers

-- and so does a store, by whether it is of a whole word
store_more : (test : Bool) (all : List ℕ) (core : View) (at size value : ℕ) (account : Noted)
    → Covers all (if test then after_word_stored noted_rule core at value account
    else after_bytes_stored noted_rule core at size value account).reads
    → Covers all account.reads
store_more true all core at size value account covers =
    after_more all core.physical (look_calls core at 8) account
    (word_more all core.physical (place_of core Write at) value _ covers)
store_more false all core at size value account covers =
    after_more all core.physical (load_calls core Write at size) account
    (answer_more all core.physical (bytes_from (store_place core) at size) value _ covers)

-- a call of the bus keeps what was noted as read
pub call_more : (all : List ℕ) (call : BusCall) (core : View) (account : Noted)
    → Covers all (view_rule noted_rule call core account).reads → Covers all account.reads
unfolding view_rule store_rule
call_more all (FetchByte at) core account covers = after_more all core.physical (byte_calls core Fetch at) account covers
call_more all (LoadBytes at size) core account covers = after_more all core.physical (load_calls core Read at size) account covers
call_more all (LoadForWrite at size) core account covers =
    after_more all core.physical (load_calls core Write at size) account covers
call_more all (StoreBytes at size value) core account covers = store_more (is_whole at size) all core at size value account covers
