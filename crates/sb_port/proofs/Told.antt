-- Bytes that were read or written in several calls.
use Rattle.std.proofs.Common.{◌≡◌, ℕ, ◌+◌, ◌-◌, ◌≤◌, ◌++◌, List, Option, Some, None, length, take, drop, refl, ap, sym, ◌∙◌, subst, arith, append_assoc, length-drop, length-append, length-take}
use Rattle.std.proofs.Math.Seq.{take-add, take-length, drop-append_seam}
use Rattle.std.proofs.lemmas.List.{take_at, take-append-drop, drop-drop}
use Rattle.std.proofs.KnownBytes.{Consumes-trans}
use Rattle.std.specs.Io.KnownBytes.{Appends, Consumes}
use Rattle.sb_port.specs.Port.{Appended, TookFirst}

-- `&bytes[at..]`, as a call sees it
pub from_there : (at : ℕ) (bytes : List ℕ) → take (length bytes - at) (drop at bytes) ≡ drop at bytes
from_there at bytes = rw (← length-drop at bytes) (take-length (drop at bytes))

-- a call appended so many more of the bytes
pub appended_more : (told before now : Option (List ℕ)) (bytes : List ℕ) (at count : ℕ) → Appended told before (take at bytes)
    → Appends before now (take count (take (length bytes - at) (drop at bytes)))
    → Appended told now (take (at + count) bytes)
appended_more None before now bytes at count appended put = tt
appended_more (Some old) before None bytes at count appended put = absurd (rw appended at put)
appended_more (Some old) before (Some now) bytes at count appended put =
    let part : take count (take (length bytes - at) (drop at bytes)) ≡ take count (drop at bytes) =
    ap (take count) (from_there at bytes) in
    let more : now ≡ (old ++ take at bytes) ++ take count (drop at bytes) =
    (rw appended at put) ∙ ap (λ x. (old ++ take at bytes) ++ x) part in
    rw (more, append_assoc, take-add at count bytes) refl

-- what was consumed are the first bytes
pub took_first : (told now : Option (List ℕ)) (bytes : List ℕ) (claim : ℕ → Type 0) → Consumes told now bytes
    → claim (length bytes) → TookFirst told now claim
took_first None now bytes claim consumed is = tt
took_first (Some old) None bytes claim consumed is = absurd consumed
took_first (Some old) (Some rest) bytes claim consumed is =
    let within : length bytes ≤ length old = rw consumed (omega (arith, length-append bytes rest)) in
    let left : rest ≡ drop (length bytes) old = rw consumed (sym (drop-append_seam bytes rest)) in
    (length bytes, (within, ap Some left, is))

-- what a call took, after the bytes before
pub took_more : (told before now : Option (List ℕ)) (bytes chunk : List ℕ) (n : ℕ) (claim : ℕ → Type 0)
    → Consumes told before bytes → Consumes before now (take n chunk)
    → n ≤ length chunk → claim (length bytes + n) → TookFirst told now claim
took_more told before now bytes chunk n claim first more within is =
    let count : length (bytes ++ take n chunk) ≡ length bytes + n =
    omega (arith, length-append bytes (take n chunk), length-take n chunk) in
    took_first told now (bytes ++ take n chunk) claim (Consumes-trans told before now bytes (take n chunk) first more)
    (subst claim (sym count) is)

-- what was copied from a place on, and what is left behind it
pub copied_prefix : (bytes copied tail : List ℕ) (at n : ℕ) → length copied ≡ n → copied ≡ take n (drop at bytes)
    → drop at bytes ≡ take n (copied ++ tail) ++ drop (at + n) bytes
copied_prefix bytes copied tail at n len is =
    let prefix : take n (copied ++ tail) ≡ take n (drop at bytes) = take_at copied tail n len ∙ is in
    rw (prefix, ← drop-drop n at bytes) (sym (take-append-drop n (drop at bytes)))
