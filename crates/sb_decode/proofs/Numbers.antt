-- Signed numbers of one, four and eight bytes are read exactly.
use Rattle.std.proofs.Common.{◌≡◌, inl, inr, ℕ, zero, suc, lit<, ◌-◌, ◌<◌, ◌≤◌, Bool, true, false, cond, ltb, List, [], ◌∷◌, ◌++◌, ℤ, length, take, drop, replicate, Ok, Err, refl, sym, ap, subst, ◌∙◌, arith, FitsSigned, Fits}
use Rattle.std.specs.Int.{Width, w8, w32, w64, byte_len, from_le_bytes, to_le_bytes, cast_signed, cast_unsigned}
use Rattle.std.proofs.Math.Facts.{sfits_to_z, of_z-to_z, to_z-of_z, Fits-of_z}
use Rattle.std.proofs.lemmas.Bool.{cases_lt, ltb-false, ltb-true, le-ltb}
use Rattle.std.proofs.lemmas.List.{take_at, drop_at, take-append-drop, length-append, length-take, get_or-take, get_or_past, length-replicate}
use Rattle.std.proofs.lemmas.Nat.{le_bytes_4, le_bytes_8, from_le_bytes-to_le_bytes_4, from_le_bytes-to_le_bytes_8}
use Rattle.sb_insn.specs.Spelling.{number}
use Rattle.sb_decode.specs.declared.fault.DecodeFault.{DecodeFault}
use Rattle.sb_decode.specs.declared.fault.DecodeFault.TheVariants.{Short, Undecoded}
use Rattle.sb_decode.specs.FieldReaders.{number_at}
use Rattle.sb_decode.proofs.Reader.{IsBytes, Reads}

IsBytes-take : (n : ℕ) (bytes : List ℕ) → IsBytes bytes → IsBytes (take n bytes)
IsBytes-take n bytes h i =
    elim (cases_lt i n) [
      | inl lt ↦ rw (get_or-take n bytes i 0 lt) (h i)
      | inr le ↦ rw (get_or_past (take n bytes) i 0 (omega (arith, length-take n bytes))) (omega arith)
    ]

IsBytes-append : (xs ys : List ℕ) → IsBytes xs → IsBytes ys → IsBytes (xs ++ ys)
IsBytes-append [] ys a b k = b k
IsBytes-append (x ∷ xs) ys a b zero = a 0
IsBytes-append (x ∷ xs) ys a b (suc k) = IsBytes-append xs ys (λ j. a (suc j)) b k

IsBytes-zeros : (n : ℕ) → IsBytes (replicate n 0)
IsBytes-zeros zero k = lit< tt
IsBytes-zeros (suc n) zero = lit< tt
IsBytes-zeros (suc n) (suc k) = IsBytes-zeros n k

-- a test that did not fail, or failed
pub guard_ok : {A : Type 0} (b : Bool) (d : DecodeFault) (x y : A) → cond b (Err d) (Ok x) ≡ Ok y → (b ≡ false) × (x ≡ y)
guard_ok true d x y e = absurd cc
guard_ok false d x y e = (refl, cc)

pub guard_err : {A : Type 0} (b : Bool) (c d : DecodeFault) (x : A) → cond b (Err c) (Ok x) ≡ Err d → (b ≡ true) × (c ≡ d)
guard_err true c d x e = (refl, cc)
guard_err false c d x e = absurd cc

pub record IsWide (width : Width) : Type 0 where
  pub len : (n : ℕ) → length (to_le_bytes width n) ≡ byte_len width
  pub back : (bytes : List ℕ) → length bytes ≡ byte_len width → IsBytes bytes
      → to_le_bytes width (from_le_bytes width bytes) ≡ bytes
  pub again : (n : ℕ) → Fits width n → from_le_bytes width (to_le_bytes width n) ≡ n
  pub below : (bytes : List ℕ) → IsBytes bytes → Fits width (from_le_bytes width bytes)

back_1 : (bytes : List ℕ) → length bytes ≡ 1 → IsBytes bytes → to_le_bytes w8 (from_le_bytes w8 bytes) ≡ bytes
back_1 [] len fits = absurd (omega arith)
back_1 (b ∷ []) len fits = let lt : b < 256 = fits 0 in grind arith
back_1 (b ∷ c ∷ bs) len fits = absurd (omega arith)

pub wide8 : IsWide w8
wide8 = record {
  len = λ n. refl;
  back = back_1;
  again = λ n lt. omega arith;
  below = λ bytes fits. omega (arith, fits 0);
}

pub wide32 : IsWide w32
wide32 = record {
  len = λ n. refl;
  back = λ bytes len fits. le_bytes_4 bytes _ len fits refl;
  again = λ n lt. from_le_bytes-to_le_bytes_4 n (omega (arith, lt));
  below = λ bytes fits. omega (arith, fits 0, fits 1, fits 2, fits 3);
}

pub wide64 : IsWide w64
wide64 = record {
  len = λ n. refl;
  back = λ bytes len fits. le_bytes_8 bytes _ len fits refl;
  again = λ n lt. from_le_bytes-to_le_bytes_8 n (omega (arith, lt));
  below = λ bytes fits. omega (arith, fits 0, fits 1, fits 2, fits 3, fits 4, fits 5, fits 6, fits 7);
}

-- the number that bytes spell
spelled : (width : Width) → IsWide width → (bytes : List ℕ) → length bytes ≡ byte_len width → IsBytes bytes
    → FitsSigned width (cast_signed width (from_le_bytes width bytes))
    × (number width (cast_signed width (from_le_bytes width bytes)) ≡ bytes)
spelled width wide bytes len fits =
    let below : Fits width (from_le_bytes width bytes) = wide.below bytes fits in (
      sfits_to_z {w = width} {n = from_le_bytes width bytes} below,
      ap (λ (n : ℕ). to_le_bytes width n) (of_z-to_z {w = width} {n = from_le_bytes width bytes} below)
          ∙ wide.back bytes len fits,
    )

number_takes : (width : Width) → IsWide width → (bytes : List ℕ) (value : ℤ) (rest : List ℕ) → IsBytes bytes
    → number_at width bytes ≡ Ok (value, rest) → FitsSigned width value × (bytes ≡ number width value ++ rest)
unfolding number_at
number_takes width wide bytes value rest fits e =
    let g = guard_ok (ltb (length bytes) (byte_len width)) Short
    (cast_signed width (from_le_bytes width (take (byte_len width) bytes)), drop (byte_len width) bytes) (value, rest) e in
    let long : byte_len width ≤ length bytes = ltb-false _ _ g.0 in
    let s = spelled width wide (take (byte_len width) bytes) (omega (arith, length-take (byte_len width) bytes))
    (IsBytes-take (byte_len width) bytes fits) in
    let parts : bytes ≡ number width (cast_signed width (from_le_bytes width (take (byte_len width) bytes))) ++ drop
    (byte_len width) bytes =
    sym (take-append-drop (byte_len width) bytes) ∙ ap (λ (t : List ℕ). t ++ drop (byte_len width) bytes) (sym s.1) in
    subst (λ (z : ℤ × List ℕ). FitsSigned width z.0 × (bytes ≡ number width z.0 ++ z.1)) g.1 (s.0, parts)

number_again : (width : Width) → IsWide width → (value : ℤ) (rest : List ℕ) → FitsSigned width value
    → number_at width (number width value ++ rest) ≡ Ok (value, rest)
unfolding number_at
number_again width wide value rest fits =
    let n = cast_unsigned width value in
    let len = wide.len n in
    let long : ltb (length (to_le_bytes width n ++ rest)) (byte_len width) ≡ false =
    le-ltb _ _ (omega (arith, length-append (to_le_bytes width n) rest)) in
    let back : cast_signed width (cast_unsigned width value) ≡ value = to_z-of_z {w = width} {z = value} fits in
    rw (
      long,
      take_at (to_le_bytes width n) rest (byte_len width) len,
      drop_at (to_le_bytes width n) rest (byte_len width) len,
      wide.again n (Fits-of_z {w = width} {z = value} fits),
      back,
    ) refl

number_final : (width : Width) (bytes more : List ℕ) → IsBytes bytes → number_at width bytes ≡ Err Undecoded
    → number_at width (bytes ++ more) ≡ Err Undecoded
unfolding number_at
number_final width bytes more fits e =
    let g = guard_err (ltb (length bytes) (byte_len width)) Short Undecoded
    (cast_signed width (from_le_bytes width (take (byte_len width) bytes)), drop (byte_len width) bytes) e in
    let wrong : Short ≡ Undecoded = g.1 in
    absurd cc

number_opens : (width : Width) → IsWide width → (bytes : List ℕ) → IsBytes bytes → number_at width bytes ≡ Err Short
    → (more : List ℕ) × (value : ℤ) × FitsSigned width value × (bytes ++ more ≡ number width value)
unfolding number_at
number_opens width wide bytes fits e =
    let g = guard_err (ltb (length bytes) (byte_len width)) Short Short
    (cast_signed width (from_le_bytes width (take (byte_len width) bytes)), drop (byte_len width) bytes) e in
    let short : length bytes < byte_len width = ltb-true _ _ g.0 in
    let zeros : List ℕ = replicate (byte_len width - length bytes) 0 in
    let len : length (bytes ++ zeros) ≡ byte_len width =
    omega (arith, length-append bytes zeros, length-replicate {A = ℕ} (byte_len width - length bytes) 0) in
    let s = spelled width wide (bytes ++ zeros) len
    (IsBytes-append bytes zeros fits (IsBytes-zeros (byte_len width - length bytes))) in
    (zeros, cast_signed width (from_le_bytes width (bytes ++ zeros)), s.0, sym s.1)

pub number_reads : (width : Width) → IsWide width
    → Reads ℤ (λ value. FitsSigned width value) (λ value. number width value) (number_at width)
number_reads width wide =
    record {
      takes = number_takes width wide;
      again = number_again width wide;
      final = number_final width;
      opens = number_opens width wide;
    }
