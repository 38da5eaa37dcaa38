-- A whole word: its bytes are looked up, and all lead into one frame.
use Rattle.std.proofs.Common.{◌≡◌, ℕ, zero, suc, ◌+◌, ◌%◌, ◌^◌, ◌<◌, Bool, true, false, cond, List, [], ◌∷◌, Result, Ok, Err, refl, ap, arith, sym, ◌∙◌}
use Rattle.std.specs.Prelude.{slice_index}
use Rattle.sb_memory.specs.Outcome.{and_then, done}
use Rattle.sb_memory.specs.Physical.{Physical, frame_of, has_frame}
use Rattle.sb_memory.specs.Accounts.{PhysCall, account_after_reads}
use Rattle.sb_memory.specs.Reading.{missing, write_answer, word_written}
use Rattle.sb_memory.specs.declared.address.Missing.{Missing}
use Rattle.sb_memory.specs.declared.address.Access.TheVariants.{Write}
use Rattle.sb_memory.specs.declared.address.PhysAddr.{PhysAddr}
use Rattle.sb_walks.specs.declared.stop.NestedStop.{NestedStop}
use Rattle.sb_walks.specs.Nested.{memory_behind}
use Rattle.sb_walks.proofs.SamePage.{address}
use Rattle.sb_bus.specs.declared.stop.BusStop.{BusStop}
use Rattle.sb_bus.specs.declared.stop.BusStop.TheVariants as bus
use Rattle.sb_bus.specs.Access.{bytes_from, byte_for, store_answer}
use Rattle.sb_nested.specs.Stop.{stop_at}
use Rattle.sb_nested.specs.View.{View, byte_behind, place_answer, place_of, view_byte, walk_calls, walk_place, word_answer}
use Rattle.sb_nested.specs.Store.{after_word, look_calls, put_word_at}
use Rattle.sb_nested.proofs.Loads.{calls_none, account_stop, account_more}
use Rattle.sb_walks.proofs.Page.{passed, place_offset, translated-page}

-- one byte after another
done_more : {A : Type 0} (r : Result (List A) BusStop) (lowest : A) → done (and_then r (λ others. Ok (lowest ∷ others))) ≡ done r
done_more (Ok others) lowest = refl
done_more (Err stop) lowest = refl

pub look_none : {A : Type 0} (place : ℕ → Result A BusStop) (at size : ℕ) → size ≡ 0 → done (bytes_from place at size) ≡ Ok tt
unfolding bytes_from
look_none place at size e = rw e refl

pub look_stop : {A : Type 0} (place : ℕ → Result A BusStop) (at size : ℕ) (stop : BusStop) → 0 < size → place at ≡ Err stop
    → done (bytes_from place at size) ≡ Err stop
unfolding bytes_from
look_stop place at zero stop h e = absurd (omega arith)
look_stop place at (suc n) stop h e = rw e refl

pub look_more : {A : Type 0} (place : ℕ → Result A BusStop) (at size n : ℕ) (lowest : A) → size ≡ n + 1 → place at ≡ Ok lowest
    → done (bytes_from place at size) ≡ done (bytes_from place ((at + 1) % 2 ^ 64) n)
unfolding bytes_from
look_more place at zero n lowest s e = absurd (omega arith)
look_more place at (suc k) n lowest s e = let same : k ≡ n = omega arith in
    rw (e, same) (done_more (bytes_from place ((at + 1) % 2 ^ 64) n) lowest)

pub look_calls_none : (core : View) (at size : ℕ) → size ≡ 0 → look_calls core at size ≡ []
unfolding look_calls
look_calls_none core at size e = calls_none _ _ at size e

pub look_account_stop : {Account : Type 0} (rule : PhysCall → Physical → Account
    → Account) (core : View) (at size : ℕ) (stop : BusStop) (account : Account)
    → 0 < size → walk_place core Write at ≡ Err stop
    → account_after_reads rule core.physical (look_calls core at size) account
    ≡ account_after_reads rule core.physical (walk_calls core Write at) account
unfolding look_calls
look_account_stop rule core at size stop account h e = account_stop rule core.physical _ _ at size stop account h e

pub look_account_more : {Account : Type 0} (rule : PhysCall → Physical → Account
    → Account) (core : View) (at size n : ℕ) (place : PhysAddr) (account : Account)
    → size ≡ n + 1 → walk_place core Write at ≡ Ok place
    → account_after_reads rule core.physical (look_calls core at size) account
    ≡ account_after_reads rule core.physical (look_calls core ((at + 1) % 2 ^ 64) n)
    (account_after_reads rule core.physical (walk_calls core Write at) account)
unfolding look_calls
look_account_more rule core at size n place account s e = account_more rule core.physical _ _ at size n place account s e

-- the first byte leads nowhere
stopped_byte : (memory : Physical) (at : ℕ) (r : Result PhysAddr NestedStop) (stop : BusStop) → place_answer at r ≡ Err stop
    → byte_behind memory at r ≡ Err stop
stopped_byte memory at (Ok place) stop e = cc
stopped_byte memory at (Err other) stop e = let same : stop_at at other ≡ stop = cc in ap (λ (s : BusStop). Err s) same

pub stop_answered : (core : View) (at : ℕ) (stop : BusStop) → walk_place core Write at ≡ Err stop
    → store_answer (byte_for (view_byte core) Write) at 8 ≡ Err stop
unfolding walk_place store_answer view_byte
stop_answered core at stop e =
    look_stop (byte_for (view_byte core) Write) at 8 stop (omega arith)
    (stopped_byte core.physical at (place_of core Write at) stop e)

nowhere : (memory : Physical) (at word : ℕ) (r : Result PhysAddr NestedStop) (stop : BusStop) → place_answer at r ≡ Err stop
    → put_word_at memory r word ≡ memory
nowhere memory at word (Ok place) stop e = cc
nowhere memory at word (Err other) stop e = refl

pub stop_unwritten : (core : View) (at word : ℕ) (stop : BusStop) → walk_place core Write at ≡ Err stop
    → put_word_at core.physical (place_of core Write at) word ≡ core.physical
unfolding walk_place
stop_unwritten core at word stop e = nowhere core.physical at word (place_of core Write at) stop e

uncounted : {Account : Type 0} (rule : PhysCall → Physical → Account
    → Account) (memory : Physical) (at word : ℕ) (account : Account) (r : Result PhysAddr NestedStop) (stop : BusStop)
    → place_answer at r ≡ Err stop → after_word rule memory r word account ≡ account
uncounted rule memory at word account (Ok place) stop e = cc
uncounted rule memory at word account (Err other) stop e = refl

pub stop_uncounted : {Account : Type 0} (rule : PhysCall → Physical → Account
    → Account) (core : View) (at word : ℕ) (account : Account) (stop : BusStop)
    → walk_place core Write at ≡ Err stop → after_word rule core.physical (place_of core Write at) word account ≡ account
unfolding walk_place
stop_uncounted rule core at word account stop e = uncounted rule core.physical at word account (place_of core Write at) stop e

-- the first byte leads to a place
led : (at : ℕ) (r : Result PhysAddr NestedStop) (place : PhysAddr) → place_answer at r ≡ Ok place → r ≡ Ok place
led at (Ok other) place e = cc
led at (Err stop) place e = cc

pub place_led : (core : View) (at : ℕ) (place : PhysAddr) → walk_place core Write at ≡ Ok place
    → place_of core Write at ≡ Ok place
unfolding walk_place
place_led core at place e = led at (place_of core Write at) place e

pub byte_place : (core : View) (at k : ℕ) (place : PhysAddr) → at % 8 ≡ 0 → at < 2 ^ 64 → k < 8
    → place_of core Write at ≡ Ok place → place_of core Write ((at + k) % 2 ^ 64) ≡ Ok (address (place.0 + k))
unfolding place_of
byte_place core at k place aligned below few e =
    let same : (at + k) % 2 ^ 64 ≡ at + k = omega arith in
    rw same (translated-page (memory_behind core.physical core.eptp) core.cr3 at k Write place (omega arith) e)

-- each byte is there
all_there : {A : Type 0} (byte : ℕ → Result A BusStop) (at n : ℕ) → at < 2 ^ 64
    → ((k : ℕ) → k < n → (a : A) × (byte ((at + k) % 2 ^ 64) ≡ Ok a)) → done (bytes_from byte at n) ≡ Ok tt
unfolding bytes_from
all_there byte at zero h f = refl
all_there byte at (suc n) h f =
    let start : at ≡ (at + 0) % 2 ^ 64 = omega arith in
    let one = f 0 (omega arith) in
    let first : byte at ≡ Ok one.0 = ap byte start ∙ one.1 in
    rw first (done_more (bytes_from byte ((at + 1) % 2 ^ 64) n) one.0
    ∙ all_there byte ((at + 1) % 2 ^ 64) n (omega arith) (λ k few.
    let same : ((at + 1) % 2 ^ 64 + k) % 2 ^ 64 ≡ (at + suc k) % 2 ^ 64 = omega arith in
    let next = f (suc k) (omega arith) in
    (next.0, ap byte same ∙ next.1)))

walk_led : (core : View) (at : ℕ) (place : PhysAddr) → place_of core Write at ≡ Ok place → walk_place core Write at ≡ Ok place
unfolding walk_place
walk_led core at place e = rw e refl

-- where the first byte leads somewhere, so do the other seven
pub rest_leads : (core : View) (at : ℕ) (place : PhysAddr) → at % 8 ≡ 0 → at < 2 ^ 64 → walk_place core Write at ≡ Ok place
    → done (bytes_from (walk_place core Write) ((at + 1) % 2 ^ 64) 7) ≡ Ok tt
rest_leads core at place aligned below e =
    all_there (walk_place core Write) ((at + 1) % 2 ^ 64) 7 (omega arith) (λ k few.
    let same : ((at + 1) % 2 ^ 64 + k) % 2 ^ 64 ≡ (at + suc k) % 2 ^ 64 = omega arith in
    let there =
    walk_led core ((at + suc k) % 2 ^ 64) (address (place.0 + suc k))
    (byte_place core at (suc k) place aligned below (omega arith) (place_led core at place e)) in
    (address (place.0 + suc k), ap (walk_place core Write) same ∙ there))

byte_there : (core : View) (at : ℕ) (place : PhysAddr) → place_of core Write at ≡ Ok place
    → has_frame core.physical (frame_of place.0) ≡ true
    → view_byte core at Write ≡ Ok (slice_index core.physical.bytes place.0)
unfolding view_byte
byte_there core at place e h = rw (e, h) refl

byte_gone : (core : View) (at : ℕ) (place : PhysAddr) → place_of core Write at ≡ Ok place
    → has_frame core.physical (frame_of place.0) ≡ false
    → view_byte core at Write ≡ Err (bus.Missing (record { 0 = frame_of place.0 }))
unfolding view_byte
byte_gone core at place e h = rw (e, h) refl

pub led_offset : (core : View) (at : ℕ) (place : PhysAddr) → place_of core Write at ≡ Ok place → place.0 % 4096 ≡ at % 4096
unfolding place_of
led_offset core at place e = place_offset (memory_behind core.physical core.eptp) core.cr3 at Write place e

-- the word is written
whole_written : (core : View) (at : ℕ) (place : PhysAddr) → at % 8 ≡ 0 → at < 2 ^ 64 → walk_place core Write at ≡ Ok place
    → write_answer core.physical place.0 ≡ Ok tt → store_answer (byte_for (view_byte core) Write) at 8 ≡ Ok tt
unfolding store_answer
whole_written core at place aligned below e w =
    let leads = place_led core at place e in
    let offset = led_offset core at place leads in
    let present = (passed (has_frame core.physical (frame_of place.0)) _ _ _ w).0 in
    all_there (byte_for (view_byte core) Write) at 8 below (λ k few.
    let same : frame_of (place.0 + k) ≡ frame_of place.0 = omega arith in (
      slice_index core.physical.bytes (place.0 + k),
      byte_there core ((at + k) % 2 ^ 64) (address (place.0 + k)) (byte_place core at k place aligned below few leads)
          (rw same present),
    ))

-- its frame is missing
absent : (b : Bool) (x gap : Missing) → Path (Result (Unit {0}) Missing) (cond b (Ok tt) (Err x)) (Err gap)
    → (b ≡ false) × (x ≡ gap)
absent true x gap e = cc
absent false x gap e = (refl, cc)

whole_refused : (core : View) (at : ℕ) (place : PhysAddr) (gap : Missing) → walk_place core Write at ≡ Ok place
    → write_answer core.physical place.0 ≡ Err gap
    → store_answer (byte_for (view_byte core) Write) at 8 ≡ Err (bus.Missing gap.frame)
unfolding store_answer
whole_refused core at place gap e w =
    let gone = absent (has_frame core.physical (frame_of place.0)) (missing (frame_of place.0)) gap w in
    let same = ap (λ (x : Missing). x.frame) gone.1 in
    look_stop (byte_for (view_byte core) Write) at 8 (bus.Missing gap.frame) (omega arith)
    (byte_gone core at place (place_led core at place e) gone.0 ∙ ap (λ frame. Err (bus.Missing frame)) same)

-- the memory answers as each of the bytes would
answered : (answer : Result (Unit {0}) Missing) (each : Result (Unit {0}) BusStop) → (answer ≡ Ok tt → each ≡ Ok tt)
    → ((gap : Missing) → answer ≡ Err gap → each ≡ Err (bus.Missing gap.frame)) → word_answer answer ≡ each
answered (Ok done) each there gone = sym (there refl)
answered (Err gap) each there gone = sym (gone gap refl)

pub whole_answered : (core : View) (at : ℕ) (place : PhysAddr) → at % 8 ≡ 0 → at < 2 ^ 64 → walk_place core Write at ≡ Ok place
    → word_answer (write_answer core.physical place.0) ≡ store_answer (byte_for (view_byte core) Write) at 8
whole_answered core at place aligned below e =
    answered (write_answer core.physical place.0) _ (whole_written core at place aligned below e)
    (λ gap. whole_refused core at place gap e)

-- a refused word is not written
refused : (answer : Result (Unit {0}) Missing) (stop : BusStop) → word_answer answer ≡ Err stop
    → (gap : Missing) × (answer ≡ Err gap)
refused (Ok done) stop e = cc
refused (Err gap) stop e = (gap, refl)

pub word_unwritten : (memory : Physical) (place word : ℕ) (stop : BusStop) → word_answer (write_answer memory place) ≡ Err stop
    → word_written memory place word ≡ memory
word_unwritten memory place word stop e =
    let found = refused (write_answer memory place) stop e in
    rw ((absent (has_frame memory (frame_of place)) (missing (frame_of place)) found.0 found.1).0) refl
