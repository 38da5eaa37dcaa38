-- Numbers by their bytes.
use Rattle.std.proofs.Common.{◌≡◌, ◌∙◌, ℕ, zero, suc, ◌+◌, ◌*◌, ◌≤◌, List, ◌∷◌, length, take, drop, refl, ap, arith}
use Rattle.std.specs.Prelude.{slice_index}
use Rattle.std.specs.Int.{byte_at, bytes_low_first}
use Rattle.std.proofs.lemmas.List.{get_or-drop}
use Rattle.byteorder.specs.Endian.{little_from}
use Rattle.byteorder.specs.Numbers.{length-bytes_low_first}

behind_by : (size place index : ℕ) (bytes : List ℕ)
    → little_from index size (drop place bytes) ≡ little_from (place + index) size bytes
behind_by zero place index bytes = refl
behind_by (suc size) place index bytes =
    let next : place + suc index ≡ suc (place + index) = omega arith in
    let rest : little_from (suc index) size (drop place bytes) ≡ little_from (suc (place + index)) size bytes =
    behind_by size place (suc index) bytes ∙ ap (λ (n : ℕ). little_from n size bytes) next in
    ap (λ (byte : ℕ). byte + 256 * little_from (suc index) size (drop place bytes)) (get_or-drop place bytes index 0)
    ∙ ap (λ (n : ℕ). slice_index bytes (place + index) + 256 * n) rest

-- the number that begins the bytes from a place on is the one at the place
pub number_behind : (place size : ℕ) (bytes : List ℕ) → little_from 0 size (drop place bytes) ≡ little_from place size bytes
number_behind place size bytes =
    let here : place + 0 ≡ place = omega arith in
    behind_by size place 0 bytes ∙ ap (λ (n : ℕ). little_from n size bytes) here

low_by : (size count index number : ℕ) → size ≤ count
    → take size (bytes_low_first index count number) ≡ bytes_low_first index size number
low_by zero count index number few = refl
low_by (suc size) zero index number few = absurd (omega arith)
low_by (suc size) (suc count) index number few =
    ap (λ (others : List ℕ). byte_at index number ∷ others) (low_by size count (suc index) number (omega arith))

-- the first of the bytes of a number are its lowest
pub low_taken : (size number : ℕ) → size ≤ 8 → take size (bytes_low_first 0 8 number) ≡ bytes_low_first 0 size number
low_taken size number few = low_by size 8 0 number few

pub length_low : (size number : ℕ) → size ≤ 8 → length (take size (bytes_low_first 0 8 number)) ≡ size
length_low size number few = ap length (low_taken size number few) ∙ length-bytes_low_first 0 size number
