-- Numbers and their bytes: two byte lists of one length that read as the same number are equal.
use Rattle.std.proofs.Common.{◌≡◌, ℕ, zero, suc, ◌+◌, ◌*◌, ◌^◌, ◌<◌, List, [], ◌∷◌, length, slice_index, refl, sym, ap, ◌∙◌, arith}
use Rattle.std.specs.Int.{byte_at, bytes_low_first}
use Rattle.std.proofs.Math.Nat.{mod-lt}
use Rattle.std.proofs.lemmas.List.{append-nil}
use Rattle.byteorder.specs.Endian.{little_from, little_bytes, little_number}
use Rattle.byteorder.specs.Numbers.{little_from-cons, little_from-lt, little_number-reads_back, length-bytes_low_first}
use Rattle.sb_bundle.specs.Limits.{AllBelow}
use Rattle.sb_bundle.specs.Spelling.{number_bytes}

same_parts : (a b x y : ℕ) → a < 256 → b < 256 → a + 256 * x ≡ b + 256 * y → (a ≡ b) × (x ≡ y)
same_parts a b x y lt_a lt_b e = (omega arith, omega arith)

same_bytes : (size : ℕ) (xs ys : List ℕ) → length xs ≡ size → length ys ≡ size → AllBelow 256 xs → AllBelow 256 ys
    → little_from 0 size xs ≡ little_from 0 size ys → xs ≡ ys
same_bytes zero [] [] len_x len_y fits_x fits_y e = refl
same_bytes zero [] (y ∷ ys) len_x len_y fits_x fits_y e = absurd (omega (arith, len_y))
same_bytes zero (x ∷ xs) ys len_x len_y fits_x fits_y e = absurd (omega (arith, len_x))
same_bytes (suc size) [] ys len_x len_y fits_x fits_y e = absurd (omega (arith, len_x))
same_bytes (suc size) (x ∷ xs) [] len_x len_y fits_x fits_y e = absurd (omega (arith, len_y))
same_bytes (suc size) (x ∷ xs) (y ∷ ys) len_x len_y fits_x fits_y e =
    let left = little_from-cons 0 size x xs in
    let right = little_from-cons 0 size y ys in
    let parts =
    same_parts x y (little_from 0 size xs) (little_from 0 size ys) fits_x.0 fits_y.0 (ap (λ (n : ℕ). x + 256 * n) (sym left)
    ∙ e ∙ ap (λ (n : ℕ). y + 256 * n) right) in
    let rest : xs ≡ ys = same_bytes size xs ys (omega (arith, len_x)) (omega (arith, len_y)) fits_x.1 fits_y.1 parts.1 in
    rw (parts.0, rest) refl

byte-fits : (place n : ℕ) → byte_at place n < 256
byte-fits zero n = mod-lt n (omega arith)
byte-fits (suc place) n = mod-lt _ (omega arith)

bytes-fit : (place size n : ℕ) → AllBelow 256 (bytes_low_first place size n)
bytes-fit place zero n = tt
bytes-fit place (suc size) n = (byte-fits place n, bytes-fit (suc place) size n)

pub AllBelow-from : (bound : ℕ) (xs : List ℕ) → ((k : ℕ) → slice_index xs k < bound) → AllBelow bound xs
AllBelow-from bound [] fits = tt
AllBelow-from bound (x ∷ xs) fits = (fits 0, AllBelow-from bound xs (λ k. fits (suc k)))

AllBelow-at : (bound : ℕ) → 0 < bound → (xs : List ℕ) → AllBelow bound xs → (k : ℕ) → slice_index xs k < bound
AllBelow-at bound some [] fits k = some
AllBelow-at bound some (x ∷ xs) fits zero = fits.0
AllBelow-at bound some (x ∷ xs) fits (suc k) = AllBelow-at bound some xs fits.1 k

pub number_bytes-fit : (size n : ℕ) → AllBelow 256 (number_bytes size n)
unfolding number_bytes
number_bytes-fit size n = bytes-fit 0 size n

pub length-number_bytes : (size n : ℕ) → length (number_bytes size n) ≡ size
unfolding number_bytes
length-number_bytes size n = length-bytes_low_first 0 size n

-- a number that is read is below the bound of its size
pub number-fits : (size : ℕ) (bytes : List ℕ) → AllBelow 256 bytes → little_number size bytes < 256 ^ size
number-fits size bytes fits = little_from-lt 0 size bytes (AllBelow-at 256 (omega arith) bytes fits)

-- what was written is read
pub number-again : (size n : ℕ) → n < 256 ^ size → little_number size (number_bytes size n) ≡ n
unfolding number_bytes
number-again size n lt = ap (λ (bytes : List ℕ). little_number size bytes) (sym (append-nil (little_bytes size n)))
    ∙ little_number-reads_back size n [] lt

-- what was read is written
pub bytes-again : (size : ℕ) (bytes : List ℕ) → length bytes ≡ size → AllBelow 256 bytes
    → number_bytes size (little_number size bytes) ≡ bytes
unfolding number_bytes
bytes-again size bytes len fits =
    same_bytes size (little_bytes size (little_number size bytes)) bytes
    (length-bytes_low_first 0 size (little_number size bytes)) len (bytes-fit 0 size (little_number size bytes)) fits
    (number-again size (little_number size bytes) (number-fits size bytes fits))
