-- Numbers that are put into the bytes of a page, and read back.
use Rattle.std.proofs.Common.{◌≡◌, ◌∙◌, sym, ap, ℕ, zero, suc, ◌+◌, ◌*◌, ◌%◌, ◌^◌, ◌<◌, ◌≤◌, ◌⊎◌, inl, inr, List, [], ◌∷◌, length, get_or, set, refl, arith}
use Rattle.std.specs.Int.{byte_at, bytes_low_first}
use Rattle.std.proofs.lemmas.List.{append-nil}
use Rattle.std.proofs.lemmas.List.Edits.{sets}
use Rattle.std.proofs.Math.Seq.{length-sets}
use Rattle.std.proofs.Math.Nat.{div-one}
use Rattle.byteorder.specs.Endian.{little_from, little_bytes}
use Rattle.byteorder.specs.Numbers.{little_from-bytes, little_from-lt, length-bytes_low_first}
use Rattle.sb_memory.proofs.Words.{get_or-sets_other, get_or-sets_same}
use Rattle.sb_pages.specs.PageWords.{number_at, put_number}
use Rattle.sb_trace.specs.Changes.{AreBytes}
use Rattle.sb_trace.proofs.PoolWords.{byte_below}

-- numbers of the same bytes
number_same : (left right : List ℕ) (i j count : ℕ) → ((k : ℕ) → k < count → get_or left (i + k) 0 ≡ get_or right (j + k) 0)
    → little_from i count left ≡ little_from j count right
number_same left right i j zero same = refl
number_same left right i j (suc count) same =
    let left_here : i + 0 ≡ i = omega arith in
    let right_here : j + 0 ≡ j = omega arith in
    let byte : get_or left i 0 ≡ get_or right j 0 =
    ap (λ n. get_or left n 0) (sym left_here) ∙ (same 0 (omega arith) ∙ ap (λ n. get_or right n 0) right_here) in
    let rest = number_same left right (suc i) (suc j) count (λ k below.
    let first : suc i + k ≡ i + suc k = omega arith in
    let second : suc j + k ≡ j + suc k = omega arith in
    ap (λ n. get_or left n 0) first ∙ (same (suc k) (omega arith) ∙ ap (λ n. get_or right n 0) (sym second))) in
    rw (byte, rest) refl

-- a number that was put is read back, as far as it fits
pub number_read_back : (bytes : List ℕ) (place size value : ℕ) → place + size ≤ length bytes
    → number_at (put_number bytes place size value) place size ≡ value % 256 ^ size
unfolding number_at put_number
number_read_back bytes place size value fits =
    let long : length (little_bytes size value) ≡ size = length-bytes_low_first 0 size value in
    number_same (sets bytes place (little_bytes size value)) (little_bytes size value) place 0 size
    (λ k below.
    let first : 0 + k ≡ k = omega arith in
    get_or-sets_same (little_bytes size value) bytes place k (omega arith) (omega arith)
    ∙ ap (λ n. get_or (little_bytes size value) n 0) (sym first))
    ∙ ap (λ list. little_from 0 size list) (sym (append-nil (little_bytes size value)))
    ∙ (little_from-bytes size 0 value [] ∙ ap (λ n. n % 256 ^ size) (div-one value))

place_apart : (place size other count k : ℕ) → (other + count ≤ place) ⊎ (place + size ≤ other) → k < count
    → (other + k < place) ⊎ (place + size ≤ other + k)
place_apart place size other count k (inl below) within = inl (omega arith)
place_apart place size other count k (inr above) within = inr (omega arith)

-- a number elsewhere stays
pub number_beside : (bytes : List ℕ) (place size value other count : ℕ) → (other + count ≤ place) ⊎ (place + size ≤ other)
    → number_at (put_number bytes place size value) other count ≡ number_at bytes other count
unfolding number_at put_number
number_beside bytes place size value other count apart =
    let long : length (little_bytes size value) ≡ size = length-bytes_low_first 0 size value in
    number_same (sets bytes place (little_bytes size value)) bytes other other count
    (λ k below. get_or-sets_other (little_bytes size value) bytes place (other + k)
    (rw long (place_apart place size other count k apart below)))

-- a number of eight bytes by its halves
pub halves : (bytes : List ℕ) → number_at bytes 16 8 ≡ number_at bytes 16 4 + 2 ^ 32 * number_at bytes 20 4
unfolding number_at
halves bytes = omega arith

-- a number of so many bytes is below its power
pub number_below : (bytes : List ℕ) (place size : ℕ) → AreBytes bytes → number_at bytes place size < 256 ^ size
unfolding number_at
number_below bytes place size all = little_from-lt place size bytes (λ k. byte_below bytes k all)

pub length_put : (bytes : List ℕ) (place size value : ℕ) → length (put_number bytes place size value) ≡ length bytes
unfolding put_number
length_put bytes place size value = length-sets bytes place (little_bytes size value)

-- ---- bytes stay bytes

pub set_bytes : (bytes : List ℕ) (place byte : ℕ) → byte < 256 → AreBytes bytes → AreBytes (set bytes place byte)
set_bytes [] place byte below all = tt
set_bytes (first ∷ bytes) zero byte below all = (below, all.1)
set_bytes (first ∷ bytes) (suc place) byte below all = (all.0, set_bytes bytes place byte below all.1)

sets_bytes : (new bytes : List ℕ) (place : ℕ) → AreBytes new → AreBytes bytes → AreBytes (sets bytes place new)
sets_bytes [] bytes place one all = all
sets_bytes (byte ∷ new) bytes place one all =
    sets_bytes new (set bytes place byte) (suc place) one.1 (set_bytes bytes place byte one.0 all)

byte_small : (place value : ℕ) → byte_at place value < 256
byte_small zero value = omega arith
byte_small (suc place) value = omega arith

low_bytes : (from count value : ℕ) → AreBytes (bytes_low_first from count value)
low_bytes from zero value = tt
low_bytes from (suc count) value = (byte_small from value, low_bytes (suc from) count value)

pub put_bytes : (bytes : List ℕ) (place size value : ℕ) → AreBytes bytes → AreBytes (put_number bytes place size value)
unfolding put_number
put_bytes bytes place size value all = sets_bytes (little_bytes size value) bytes place (low_bytes 0 size value) all
