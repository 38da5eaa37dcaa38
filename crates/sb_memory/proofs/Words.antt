-- What stands where after bytes are put into a list.
use Rattle.std.proofs.Common.{◌≡◌, ◌≢◌, ℕ, zero, suc, ◌+◌, ◌-◌, ◌*◌, ◌/◌, ◌%◌, ◌^◌, ◌<◌, ◌≤◌, ◌⊎◌, inl, inr, List, [], ◌∷◌, length, get_or, set, length-set, refl, sym, ap, ◌∙◌, arith, get_or-set_other, get_or-set_same}
use Rattle.std.proofs.lemmas.Bool.{cases_lt}
use Rattle.std.proofs.lemmas.List.{append-nil, length-replicate}
use Rattle.std.proofs.lemmas.List.Edits.{sets}
use Rattle.std.proofs.Math.Seq.{length-sets}
use Rattle.byteorder.specs.Endian.{little_from, little_bytes}
use Rattle.byteorder.specs.Numbers.{little_number-reads_back, length-bytes_low_first}
use Rattle.sb_memory.specs.Words.{word_at, put_word, put_bytes, zeros, clear_frame}

-- a place beside those that are set
pub get_or-sets_other : (new bytes : List ℕ) (at place : ℕ) → (place < at) ⊎ (at + length new ≤ place)
    → get_or (sets bytes at new) place 0 ≡ get_or bytes place 0
get_or-sets_other [] bytes at place apart = refl
get_or-sets_other (byte ∷ new) bytes at place (inl below) =
    let other : place ≢ at = omega arith in
    get_or-sets_other new (set bytes at byte) (suc at) place (inl (omega arith)) ∙ (rw get_or-set_other refl)
get_or-sets_other (byte ∷ new) bytes at place (inr above) =
    let other : place ≢ at = omega arith in
    get_or-sets_other new (set bytes at byte) (suc at) place (inr (omega arith)) ∙ (rw get_or-set_other refl)

-- a place among those that are set
pub get_or-sets_same : (new bytes : List ℕ) (at k : ℕ) → k < length new → at + length new ≤ length bytes
    → get_or (sets bytes at new) (at + k) 0 ≡ get_or new k 0
get_or-sets_same [] bytes at k within fits = absurd (omega arith)
get_or-sets_same (byte ∷ new) bytes at zero within fits =
    let here : at + 0 ≡ at = omega arith in
    let inside : at < length bytes = omega arith in
    rw here (get_or-sets_other new (set bytes at byte) (suc at) at (inl (omega arith)) ∙ (rw get_or-set_same refl))
get_or-sets_same (byte ∷ new) bytes at (suc k) within fits =
    let there : at + suc k ≡ suc at + k = omega arith in
    let same = length-set bytes at byte in
    rw there (get_or-sets_same new (set bytes at byte) (suc at) k (omega arith) (omega arith))

-- numbers of the same bytes
little_from_same : (left right : List ℕ) (i j count : ℕ) → ((k : ℕ) → k < count → get_or left (i + k) 0 ≡ get_or right (j + k) 0)
    → little_from i count left ≡ little_from j count right
little_from_same left right i j zero same = refl
little_from_same left right i j (suc count) same =
    let here : get_or left (i + 0) 0 ≡ get_or right (j + 0) 0 = same 0 (omega arith) in
    let rest = little_from_same left right (suc i) (suc j) count (λ k below.
    let there : get_or left (i + suc k) 0 ≡ get_or right (j + suc k) 0 = same (suc k) (omega arith) in
    let first : suc i + k ≡ i + suc k = omega arith in
    let second : suc j + k ≡ j + suc k = omega arith in
    rw (first, second) there) in
    let left_here : i + 0 ≡ i = omega arith in
    let right_here : j + 0 ≡ j = omega arith in
    let byte : get_or left i 0 ≡ get_or right j 0 = ap (λ n. get_or left n 0) (sym left_here) ∙ here
    ∙ ap (λ n. get_or right n 0) right_here in
    rw (byte, rest) refl

-- ---- a word

pub length_put_word : (bytes : List ℕ) (at word : ℕ) → length (put_word bytes at word) ≡ length bytes
unfolding put_word
length_put_word bytes at word = length-sets bytes at (little_bytes 8 word)

-- a byte outside of the word stays
pub byte_beside_word : (bytes : List ℕ) (at word place : ℕ) → (place < at) ⊎ (at + 8 ≤ place)
    → get_or (put_word bytes at word) place 0 ≡ get_or bytes place 0
unfolding put_word
byte_beside_word bytes at word place apart =
    let size : length (little_bytes 8 word) ≡ 8 = length-bytes_low_first 0 8 word in
    get_or-sets_other (little_bytes 8 word) bytes at place (rw size apart)

-- a byte of a word that was put
pub byte_in_word : (bytes : List ℕ) (at word k : ℕ) → k < 8 → at + 8 ≤ length bytes
    → get_or (put_word bytes at word) (at + k) 0 ≡ get_or (little_bytes 8 word) k 0
unfolding put_word
byte_in_word bytes at word k among fits =
    let size : length (little_bytes 8 word) ≡ 8 = length-bytes_low_first 0 8 word in
    get_or-sets_same (little_bytes 8 word) bytes at k (omega arith) (omega arith)

-- a word that was put has the same bytes wherever it was put
pub byte_in_word-same : (bytes others : List ℕ) (at at' word k : ℕ) → k < 8 → at + 8 ≤ length bytes → at' + 8 ≤ length others
    → get_or (put_word bytes at word) (at + k) 0 ≡ get_or (put_word others at' word) (at' + k) 0
byte_in_word-same bytes others at at' word k among fits fits' =
    byte_in_word bytes at word k among fits ∙ sym (byte_in_word others at' word k among fits')

-- where a frame holds a page, it holds it with a word that is put into both
pub word_held : (bytes page : List ℕ) (base at word offset : ℕ) → at + 8 ≤ 4096 → base + 4096 ≤ length bytes → length page ≡ 4096
    → get_or bytes (base + offset) 0 ≡ get_or page offset 0
    → get_or (put_word bytes (base + at) word) (base + offset) 0 ≡ get_or (put_word page at word) offset 0
word_held bytes page base at word offset few fits size same = elim (cases_lt offset at) [
  | inl before ↦
      byte_beside_word bytes (base + at) word (base + offset) (inl (omega arith))
      ∙ (same ∙ sym (byte_beside_word page at word offset (inl before)))
  | inr after ↦ elim (cases_lt offset (at + 8)) [
    | inl among ↦
        let in_bytes : base + at + (offset - at) ≡ base + offset = omega arith in
        let in_page : at + (offset - at) ≡ offset = omega arith in
        let small : offset - at < 8 = omega arith in
        let byte = byte_in_word-same bytes page (base + at) at word (offset - at) small (omega arith) (omega arith) in
        ap (λ (place : ℕ). get_or (put_word bytes (base + at) word) place 0) (sym in_bytes)
        ∙ byte ∙ ap (λ (place : ℕ). get_or (put_word page at word) place 0) in_page
    | inr behind ↦
        byte_beside_word bytes (base + at) word (base + offset) (inr (omega arith))
        ∙ (same ∙ sym (byte_beside_word page at word offset (inr behind)))
  ]
]

-- a word that was put is read back
pub word_read_back : (bytes : List ℕ) (at word : ℕ) → at + 8 ≤ length bytes → word < 2 ^ 64
    → word_at (put_word bytes at word) at ≡ word
unfolding word_at put_word
word_read_back bytes at word fits small =
    let size : length (little_bytes 8 word) ≡ 8 = length-bytes_low_first 0 8 word in
    let whole = append-nil (little_bytes 8 word) in
    let read = little_number-reads_back 8 word [] (omega arith) in
    little_from_same (sets bytes at (little_bytes 8 word)) (little_bytes 8 word) at 0 8
    (λ k below.
    let first : 0 + k ≡ k = omega arith in
    rw first (get_or-sets_same (little_bytes 8 word) bytes at k (omega arith) (omega arith)))
    ∙ ap (λ xs. little_from 0 8 xs) (sym whole) ∙ read

-- a byte of a word that lies apart
byte_apart : (at other k : ℕ) → (other + 8 ≤ at) ⊎ (at + 8 ≤ other) → k < 8 → (other + k < at) ⊎ (at + 8 ≤ other + k)
byte_apart at other k (inl below) within = inl (omega arith)
byte_apart at other k (inr above) within = inr (omega arith)

-- a word elsewhere stays
pub word_beside_word : (bytes : List ℕ) (at word other : ℕ) → (other + 8 ≤ at) ⊎ (at + 8 ≤ other)
    → word_at (put_word bytes at word) other ≡ word_at bytes other
unfolding word_at
word_beside_word bytes at word other apart =
    little_from_same (put_word bytes at word) bytes other other 8
    (λ k below. byte_beside_word bytes at word (other + k) (byte_apart at other k apart below))

-- two multiples of 8
eights_apart : (at other : ℕ) → at % 8 ≡ 0 → other % 8 ≡ 0 → other ≢ at → (other + 8 ≤ at) ⊎ (at + 8 ≤ other)
eights_apart at other first second different = elim (cases_lt other at) [
  | inl below ↦ inl (omega arith)
  | inr above ↦ inr (omega arith)
]

-- a word at another multiple of 8 stays
pub word_elsewhere : (bytes : List ℕ) (at word other : ℕ) → at % 8 ≡ 0 → other % 8 ≡ 0 → other ≢ at
    → word_at (put_word bytes at word) other ≡ word_at bytes other
word_elsewhere bytes at word other first second different =
    word_beside_word bytes at word other (eights_apart at other first second different)

-- a word of the same bytes
pub word_of_same_bytes : (left right : List ℕ) (place : ℕ)
    → ((k : ℕ) → k < 8 → get_or left (place + k) 0 ≡ get_or right (place + k) 0) → word_at left place ≡ word_at right place
unfolding word_at
word_of_same_bytes left right place same = little_from_same left right place place 8 same

-- ---- a frame of zeros

pub length_clear_frame : (bytes : List ℕ) (frame : ℕ) → length (clear_frame bytes frame) ≡ length bytes
unfolding clear_frame put_bytes
length_clear_frame bytes frame = length-sets bytes (4096 * frame) (zeros 4096)

pub length_zeros : (count : ℕ) → length (zeros count) ≡ count
unfolding zeros
length_zeros count = length-replicate count 0

pub zero_in_zeros : (count k : ℕ) → get_or (zeros count) k 0 ≡ 0
unfolding zeros
zero_in_zeros zero k = refl
zero_in_zeros (suc count) zero = refl
zero_in_zeros (suc count) (suc k) = zero_in_zeros count k

-- a place of another frame
frame_apart : (place frame : ℕ) → place / 4096 ≢ frame → (place < 4096 * frame) ⊎ (4096 * frame + 4096 ≤ place)
frame_apart place frame different = elim (cases_lt place (4096 * frame)) [
  | inl below ↦ inl below
  | inr above ↦ inr (omega arith)
]

-- a byte of another frame stays
pub byte_beside_frame : (bytes : List ℕ) (frame place : ℕ) → place / 4096 ≢ frame
    → get_or (clear_frame bytes frame) place 0 ≡ get_or bytes place 0
unfolding clear_frame put_bytes
byte_beside_frame bytes frame place different =
    get_or-sets_other (zeros 4096) bytes (4096 * frame) place (rw (length_zeros 4096) (frame_apart place frame different))

-- a byte of the frame is zero
pub byte_of_cleared : (bytes : List ℕ) (frame place : ℕ) → 4096 * frame + 4096 ≤ length bytes → place / 4096 ≡ frame
    → get_or (clear_frame bytes frame) place 0 ≡ 0
unfolding clear_frame put_bytes
byte_of_cleared bytes frame place fits same =
    let size = length_zeros 4096 in
    let there : place ≡ 4096 * frame + place % 4096 = omega arith in
    rw there (get_or-sets_same (zeros 4096) bytes (4096 * frame) (place % 4096) (omega arith) (omega arith)
    ∙ zero_in_zeros 4096 (place % 4096))

-- a word of another frame stays
pub word_beside_frame : (bytes : List ℕ) (frame place : ℕ) → place % 8 ≡ 0 → place / 4096 ≢ frame
    → word_at (clear_frame bytes frame) place ≡ word_at bytes place
unfolding word_at
word_beside_frame bytes frame place aligned different =
    little_from_same (clear_frame bytes frame) bytes place place 8
    (λ k below. byte_beside_frame bytes frame (place + k)
    (let e : (place + k) / 4096 ≡ place / 4096 = omega arith in rw e different))

-- bytes of zero make the word 0
zero_word : (bytes : List ℕ) (i count : ℕ) → ((k : ℕ) → k < count → get_or bytes (i + k) 0 ≡ 0) → little_from i count bytes ≡ 0
zero_word bytes i zero none = refl
zero_word bytes i (suc count) none =
    let first : get_or bytes (i + 0) 0 ≡ 0 = none 0 (omega arith) in
    let start : i ≡ i + 0 = omega arith in
    let byte : get_or bytes i 0 ≡ 0 = ap (λ n. get_or bytes n 0) start ∙ first in
    let rest = zero_word bytes (suc i) count (λ k below.
    let there : get_or bytes (i + suc k) 0 ≡ 0 = none (suc k) (omega arith) in
    let same : suc i + k ≡ i + suc k = omega arith in
    rw same there) in
    rw (byte, rest) refl

-- a word of the frame is zero
pub word_of_cleared : (bytes : List ℕ) (frame place : ℕ) → 4096 * frame + 4096 ≤ length bytes → place % 8 ≡ 0
    → place / 4096 ≡ frame → word_at (clear_frame bytes frame) place ≡ 0
unfolding word_at
word_of_cleared bytes frame place fits aligned same =
    zero_word (clear_frame bytes frame) place 8 (λ k below. byte_of_cleared bytes frame (place + k) fits (omega arith))
