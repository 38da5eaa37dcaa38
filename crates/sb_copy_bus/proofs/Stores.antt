-- What a store notes where the walk of its first byte was made.
use Rattle.std.proofs.Common.{◌≡◌, ℕ, zero, suc, ◌+◌, ◌*◌, ◌%◌, ◌^◌, ◌<◌, ◌≤◌, List, Result, Ok, Err, refl, sym, ap, ◌∙◌, arith}
use Rattle.sb_memory.specs.Physical.{frame_count}
use Rattle.sb_memory.specs.Accounts.{PhysCall, WriteWord, account_after_reads}
use Rattle.sb_memory.specs.Reading.{word_written, write_answer}
use Rattle.sb_memory.specs.declared.address.Access.TheVariants.{Write}
use Rattle.sb_memory.specs.declared.address.PhysAddr.{PhysAddr}
use Rattle.sb_walks.proofs.SamePage.{address}
use Rattle.sb_bus.specs.declared.stop.BusStop.{BusStop}
use Rattle.sb_bus.specs.Access.{byte_for, store_answer}
use Rattle.sb_nested.specs.View.{View, place_of, view_byte, walk_calls, walk_place, word_answer}
use Rattle.sb_nested.specs.Store.{account_after_look, account_after_walk, memory_stored, store_rule}
use Rattle.sb_nested.proofs.WholeWord.{look_account_more, look_account_stop, look_calls_none, whole_answered}
use Rattle.sb_agree.specs.Noted.{Noted, noted_rule}
use Rattle.sb_agree.proofs.Calls.{walk_read}
use Rattle.sb_copy_bus.specs.declared.walk.MadeWalk.{MadeWalk}
use Rattle.sb_copy_bus.specs.MadeWalk.{IsMade, LiesBehind}
use Rattle.sb_copy_bus.proofs.Again.{behind_again, behind_leads, made_again, made_now}

-- ---- a whole word

walk_led : (core : View) (at : ℕ) (place : PhysAddr) → place_of core Write at ≡ Ok place → walk_place core Write at ≡ Ok place
unfolding walk_place
walk_led core at place e = rw e refl

-- an address so far behind that of a walk in its page
lies_behind : (walk : MadeWalk) (k : ℕ) → walk.access ≡ Write → walk.at.0 < 2 ^ 64 → walk.at.0 % 4096 + k < 4096
    → LiesBehind walk Write ((walk.at.0 + k) % 2 ^ 64) (walk.place.0 + k)
lies_behind walk k kind below within = record {
  access_same = kind;
  behind = omega arith;
  page_same = omega arith;
  place_is = omega arith;
}

-- bytes of one page that are looked up after the walk of one before them note no more
looks_again : (core : View) (account : Noted) (walk : MadeWalk) (k count : ℕ) → IsMade core account walk → walk.access ≡ Write
    → walk.at.0 < 2 ^ 64 → walk.at.0 % 4096 + k + count ≤ 4096
    → account_after_look noted_rule core ((walk.at.0 + k) % 2 ^ 64) count account ≡ account
looks_again core account walk k zero made kind below within =
    ap (λ (calls : List PhysCall). account_after_reads noted_rule core.physical calls account)
    (look_calls_none core ((walk.at.0 + k) % 2 ^ 64) 0 refl)
looks_again core account walk k (suc count) made kind below within =
    let here = (walk.at.0 + k) % 2 ^ 64 in
    let lies = lies_behind walk k kind below (omega arith) in
    let led = walk_led core here (address (walk.place.0 + k))
    (behind_leads core account walk Write here (address (walk.place.0 + k)) made lies) in
    let next : (here + 1) % 2 ^ 64 ≡ (walk.at.0 + suc k) % 2 ^ 64 = omega arith in
    look_account_more noted_rule core here (suc count) count (address (walk.place.0 + k)) account (omega arith) led
    ∙ ap (λ (now : Noted). account_after_look noted_rule core ((here + 1) % 2 ^ 64) count now)
    (sym (behind_again core account walk Write here (walk.place.0 + k) made lies))
    ∙ ap (λ (n : ℕ). account_after_look noted_rule core n count account) next
    ∙ looks_again core account walk (suc k) count made kind below (omega arith)

-- the looks of a whole word note what the walk of its first byte does
word_looks : (core : View) (at : ℕ) (place : PhysAddr) (account : Noted) → at % 8 ≡ 0 → at < 2 ^ 64
    → place_of core Write at ≡ Ok place → place.0 < 4096 * frame_count core.physical
    → account_after_look noted_rule core at 8 account ≡ account_after_walk noted_rule core Write at account
word_looks core at place account aligned below led inside =
    let walk : MadeWalk = record { at = record { 0 = at }; access = Write; place = place } in
    let after = account_after_walk noted_rule core Write at account in
    look_account_more noted_rule core at 8 7 place account (omega arith) (walk_led core at place led)
    ∙ looks_again core after walk 1 7 (made_now core account walk led inside) refl below (omega arith)

-- so that is all that is noted before it is written
pub word_noted : (core : View) (at word : ℕ) (place : PhysAddr) (account : Noted) → at % 8 ≡ 0 → at < 2 ^ 64
    → place_of core Write at ≡ Ok place → place.0 < 4096 * frame_count core.physical
    → noted_rule (WriteWord place.0 word) core.physical (account_after_walk noted_rule core Write at account)
    ≡ store_rule noted_rule core at 8 word account
unfolding store_rule
word_noted core at word place account aligned below led inside =
    rw (aligned, led, word_looks core at place account aligned below led inside) refl

-- a word stands at a multiple of 8 where its address does
pub word_aligned : (at place : ℕ) → at % 8 ≡ 0 → place % 4096 ≡ at % 4096 → place % 8 ≡ 0
word_aligned at place aligned offset = omega (arith, aligned, offset)

-- it is written where its first byte lies
pub word_put : (core : View) (at word : ℕ) (place : PhysAddr) → at % 8 ≡ 0 → place_of core Write at ≡ Ok place
    → memory_stored core at 8 word ≡ word_written core.physical place.0 word
unfolding memory_stored
word_put core at word place aligned led = rw (aligned, led) refl

-- and the memory answers as each of its bytes would
pub word_told : (core : View) (at : ℕ) (place : PhysAddr) → at % 8 ≡ 0 → at < 2 ^ 64 → place_of core Write at ≡ Ok place
    → word_answer (write_answer core.physical place.0) ≡ store_answer (byte_for (view_byte core) Write) at 8
word_told core at place aligned below led = whole_answered core at place aligned below (walk_led core at place led)

-- ---- a walk that is refused

looked_by : (core : View) (at size : ℕ) (account : Noted) (answer : Result PhysAddr BusStop) → walk_place core Write at ≡ answer
    → account_after_look noted_rule core at (suc size) (account_after_walk noted_rule core Write at account)
    ≡ account_after_look noted_rule core at (suc size) account
looked_by core at size account (Ok place) is =
    look_account_more noted_rule core at (suc size) size place (account_after_walk noted_rule core Write at account) (omega arith)
    is
    ∙ ap (account_after_look noted_rule core ((at + 1) % 2 ^ 64) size)
    (made_again core.physical (walk_calls core Write at) account (walk_read core Write at))
    ∙ sym (look_account_more noted_rule core at (suc size) size place account (omega arith) is)
looked_by core at size account (Err stop) is =
    look_account_stop noted_rule core at (suc size) stop (account_after_walk noted_rule core Write at account) (omega arith) is
    ∙ made_again core.physical (walk_calls core Write at) account (walk_read core Write at)
    ∙ sym (look_account_stop noted_rule core at (suc size) stop account (omega arith) is)

-- a word that is stored after the walk of its first byte was made notes no more than that
pub word_again : (core : View) (at word : ℕ) (account : Noted) → at % 8 ≡ 0
    → store_rule noted_rule core at 8 word (account_after_walk noted_rule core Write at account)
    ≡ store_rule noted_rule core at 8 word account
unfolding store_rule
word_again core at word account aligned =
    rw (aligned, looked_by core at 7 account (walk_place core Write at) refl) refl
