-- The places of a store.
use Rattle.std.proofs.Common.{◌≡◌, ℕ, zero, suc, ◌+◌, ◌%◌, ◌^◌, ◌<◌, Bool, true, false, cond, List, [], ◌∷◌, length, Result, Ok, Err, refl, ap, arith}
use Rattle.sb_bus.specs.declared.stop.BusStop.{BusStop}
use Rattle.sb_bus.specs.Access.{bytes_from}
use Rattle.sb_memory.specs.Physical.{Physical, has_frame, frame_of}
use Rattle.sb_memory.specs.Reading.{byte_written, word_written}
use Rattle.sb_memory.specs.declared.address.PhysAddr.{PhysAddr}
use Rattle.sb_nested.specs.Store.{AllHeld}

present-where : (b : Bool) (memory n : Physical) → n.present ≡ memory.present → (cond b n memory).present ≡ memory.present
present-where true memory n e = e
present-where false memory n e = refl

held_by : (memory n : Physical) (places : List PhysAddr) → n.present ≡ memory.present → AllHeld memory places → AllHeld n places
held_by memory n [] e h = tt
held_by memory n (place ∷ places) e h = ((rw e h.0.0, rw e h.0.1), held_by memory n places e h.1)

pub held_after : (memory : Physical) (at byte : ℕ) (places : List PhysAddr) → AllHeld memory places
    → AllHeld (byte_written memory at byte) places
held_after memory at byte places h =
    held_by memory (byte_written memory at byte) places (present-where (has_frame memory (frame_of at)) memory _ refl) h

pub frames_after : (memory : Physical) (at byte : ℕ) → length (byte_written memory at byte).present ≡ length memory.present
frames_after memory at byte = ap length (present-where (has_frame memory (frame_of at)) memory _ refl)

pub frames_after_word : (memory : Physical) (at word : ℕ) → length (word_written memory at word).present ≡ length memory.present
frames_after_word memory at word = ap length (present-where (has_frame memory (frame_of at)) memory _ refl)

-- no place
pub places_none : {B : Type 0} (place : ℕ → Result B BusStop) (at : ℕ) (xs : List B) → length xs ≡ 0
    → bytes_from place at (length xs) ≡ Ok xs
unfolding bytes_from
places_none place at [] e = refl
places_none place at (x ∷ xs) e = absurd (omega arith)

-- the lowest byte stops
pub places_stop : {B : Type 0} (place : ℕ → Result B BusStop) (at size : ℕ) (stop : BusStop) → 0 < size → place at ≡ Err stop
    → bytes_from place at size ≡ Err stop
unfolding bytes_from
places_stop place at zero stop h e = absurd (omega arith)
places_stop place at (suc n) stop h e = rw e refl

-- a later one stops
pub places_stop_later : {B : Type 0} (place : ℕ → Result B BusStop) (at size n : ℕ) (b : B) (stop : BusStop) → size ≡ n + 1
    → place at ≡ Ok b → bytes_from place ((at + 1) % 2 ^ 64) n ≡ Err stop → bytes_from place at size ≡ Err stop
unfolding bytes_from
places_stop_later place at zero n b stop s e f = absurd (omega arith)
places_stop_later place at (suc k) n b stop s e f = let same : k ≡ n = omega arith in rw (e, same, f) refl

-- all are there
pub places_more : {B : Type 0} (place : ℕ → Result B BusStop) (at size n : ℕ) (b : B) (bs : List B) → size ≡ n + 1
    → place at ≡ Ok b → bytes_from place ((at + 1) % 2 ^ 64) n ≡ Ok bs → bytes_from place at size ≡ Ok (b ∷ bs)
unfolding bytes_from
places_more place at zero n b bs s e f = absurd (omega arith)
places_more place at (suc k) n b bs s e f = let same : k ≡ n = omega arith in rw (e, same, f) refl
