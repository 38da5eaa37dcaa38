-- A reader of a field is exact in four ways, and two exact readers, one behind the other, make one.
use Rattle.std.proofs.Common.{◌≡◌, ◌⊎◌, inl, inr, ℕ, suc, ◌<◌, Bool, true, false, cond, List, [], ◌∷◌, ◌++◌, get_or, Result, Ok, Err, refl, sym, ap, subst, ◌∙◌, append_assoc}
use Rattle.sb_decode.specs.declared.fault.DecodeFault.{DecodeFault}
use Rattle.sb_decode.specs.declared.fault.DecodeFault.TheVariants.{Short, Undecoded}
use Rattle.sb_decode.specs.Reading.{◌>>=◌, Read, field_pair}

-- each is below 256
abbrev pub IsBytes : List ℕ → Type 0
IsBytes bytes = (k : ℕ) → get_or bytes k 0 < 256

pub IsBytes-rest : (lead rest : List ℕ) → IsBytes (lead ++ rest) → IsBytes rest
IsBytes-rest [] rest h = h
IsBytes-rest (x ∷ lead) rest h = IsBytes-rest lead rest (λ k. h (suc k))

-- the fields that are good, how each is spelled, and what reads them
pub record Reads (Field : Type 0) (Good : Field → Type 0) (spell : Field → List ℕ) (read : List ℕ → Read Field) : Type 0 where
  -- what is read is spelled so
  pub takes : (bytes : List ℕ) (field : Field) (rest : List ℕ) → IsBytes bytes → read bytes ≡ Ok (field, rest)
      → Good field × (bytes ≡ spell field ++ rest)
  -- what is spelled so is read, whatever follows
  pub again : (field : Field) (rest : List ℕ) → Good field → read (spell field ++ rest) ≡ Ok (field, rest)
  -- what is refused stays so, however it goes on
  pub final : (bytes more : List ℕ) → IsBytes bytes → read bytes ≡ Err Undecoded → read (bytes ++ more) ≡ Err Undecoded
  -- what is too short can be completed
  pub opens : (bytes : List ℕ) → IsBytes bytes → read bytes ≡ Err Short
      → (more : List ℕ) × (field : Field) × Good field × (bytes ++ more ≡ spell field)

-- what holds of both answers of a test holds of its answer
pub by_test : {A : Type 0} (P : A → Type 0) (b : Bool) (x y : A) → (b ≡ true → P x) → (b ≡ false → P y) → P (cond b x y)
by_test P true x y if_true if_false = if_true refl
by_test P false x y if_true if_false = if_false refl

-- where two steps succeeded, both did
pub bind_ok : {A B : Type 0} (q : Result A DecodeFault) (f : A → Result B DecodeFault) (y : B) → (q >>= f) ≡ Ok y
    → (x : A) × (q ≡ Ok x) × (f x ≡ Ok y)
bind_ok (Ok x) f y e = (x, refl, e)
bind_ok (Err d) f y e = absurd cc

abbrev failed : {A : Type 0} → DecodeFault → Result A DecodeFault
failed e = Err e

-- where two steps failed, the first did, or the second after it
pub bind_err : {A B : Type 0} (q : Result A DecodeFault) (f : A → Result B DecodeFault) (d : DecodeFault) → (q >>= f) ≡ Err d
    → (q ≡ Err d) ⊎ ((x : A) × (q ≡ Ok x) × (f x ≡ Err d))
bind_err (Ok x) f d e = inr (x, refl, e)
bind_err {A = A} (Err c) f d e = let same : c ≡ d = cc in inl (ap (λ (z : DecodeFault). failed {A = A} z) same)

abbrev done : {A : Type 0} → A → Result A DecodeFault
done x = Ok x

pub ok_is : {A : Type 0} (x y : A) → done x ≡ done y → x ≡ y
ok_is x y e = cc

-- ---- the four ways for a field and one that it decides

then_takes : (First Second : Type 0) (GoodFirst : First → Type 0) (GoodSecond : First → Second → Type 0) (spell_first : First
    → List ℕ) (spell_second : Second → List ℕ) (read : List ℕ → Read First) (next : First → List ℕ → Read Second)
    → Reads First GoodFirst spell_first read → ((a : First) → GoodFirst a → Reads Second (GoodSecond a) spell_second (next a))
    → (bytes : List ℕ) (p : First × Second) (rest : List ℕ) → IsBytes bytes → field_pair read next bytes ≡ Ok (p, rest)
    → (GoodFirst p.0 × GoodSecond p.0 p.1) × (bytes ≡ (spell_first p.0 ++ spell_second p.1) ++ rest)
then_takes First Second GoodFirst GoodSecond spell_first spell_second read next first_reads next_reads bytes p rest fits e =
    let a = bind_ok (read bytes) (λ x. next x.0 x.1 >>= λ y. Ok ((x.0, y.0), y.1)) (p, rest) e in
    let b = bind_ok (next a.0.0 a.0.1) (λ y. Ok ((a.0.0, y.0), y.1)) (p, rest) a.2 in
    let first = first_reads.takes bytes a.0.0 a.0.1 fits a.1 in
    let fits_rest : IsBytes a.0.1 = IsBytes-rest (spell_first a.0.0) a.0.1 (subst (λ (t : List ℕ). IsBytes t) first.1 fits) in
    let second = (next_reads a.0.0 first.0).takes a.0.1 b.0.0 b.0.1 fits_rest b.1 in
    let parts : bytes ≡ (spell_first a.0.0 ++ spell_second b.0.0) ++ b.0.1 =
    first.1 ∙ ap (λ (t : List ℕ). spell_first a.0.0 ++ t) second.1
    ∙ sym (append_assoc (spell_first a.0.0) (spell_second b.0.0) b.0.1) in
    let made : (First × Second) × List ℕ = ((a.0.0, b.0.0), b.0.1) in
    subst (λ (z : (First × Second) × List ℕ). (GoodFirst z.0.0 × GoodSecond z.0.0 z.0.1)
    × (bytes ≡ (spell_first z.0.0 ++ spell_second z.0.1) ++ z.1)) (ok_is made (p, rest) b.2) ((first.0, second.0), parts)

then_again : (First Second : Type 0) (GoodFirst : First → Type 0) (GoodSecond : First → Second → Type 0) (spell_first : First
    → List ℕ) (spell_second : Second → List ℕ) (read : List ℕ → Read First) (next : First → List ℕ → Read Second)
    → Reads First GoodFirst spell_first read → ((a : First) → GoodFirst a → Reads Second (GoodSecond a) spell_second (next a))
    → (p : First × Second) (rest : List ℕ) → GoodFirst p.0 × GoodSecond p.0 p.1
    → field_pair read next ((spell_first p.0 ++ spell_second p.1) ++ rest) ≡ Ok (p, rest)
then_again First Second GoodFirst GoodSecond spell_first spell_second read next first_reads next_reads p rest good =
    let first = first_reads.again p.0 (spell_second p.1 ++ rest) good.0 in
    let second = (next_reads p.0 good.0).again p.1 rest good.1 in
    ap (λ (t : List ℕ). field_pair read next t) (append_assoc (spell_first p.0) (spell_second p.1) rest) ∙ rw (first, second) refl

then_final : (First Second : Type 0) (GoodFirst : First → Type 0) (GoodSecond : First → Second → Type 0) (spell_first : First
    → List ℕ) (spell_second : Second → List ℕ) (read : List ℕ → Read First) (next : First → List ℕ → Read Second)
    → Reads First GoodFirst spell_first read → ((a : First) → GoodFirst a → Reads Second (GoodSecond a) spell_second (next a))
    → (bytes more : List ℕ) → IsBytes bytes → field_pair read next bytes ≡ Err Undecoded
    → field_pair read next (bytes ++ more) ≡ Err Undecoded
then_final First Second GoodFirst GoodSecond spell_first spell_second read next first_reads next_reads bytes more fits e =
    elim (bind_err (read bytes) (λ x. next x.0 x.1 >>= λ y. Ok ((x.0, y.0), y.1)) Undecoded e) [
      | inl e1 ↦ let still = first_reads.final bytes more fits e1 in rw still refl
      | inr a ↦
          let first = first_reads.takes bytes a.0.0 a.0.1 fits a.1 in
          let fits_rest : IsBytes a.0.1 =
          IsBytes-rest (spell_first a.0.0) a.0.1 (subst (λ (t : List ℕ). IsBytes t) first.1 fits) in
          let longer : bytes ++ more ≡ spell_first a.0.0 ++ (a.0.1 ++ more) =
          ap (λ (t : List ℕ). t ++ more) first.1 ∙ append_assoc (spell_first a.0.0) a.0.1 more in
          let again = first_reads.again a.0.0 (a.0.1 ++ more) first.0 in
          ap (λ (t : List ℕ). field_pair read next t) longer
          ∙ elim (bind_err (next a.0.0 a.0.1) (λ y. Ok ((a.0.0, y.0), y.1)) Undecoded a.2) [
            | inl e1 ↦ let still = (next_reads a.0.0 first.0).final a.0.1 more fits_rest e1 in rw (again, still) refl
            | inr b ↦ absurd (cc (b.2))
          ]
    ]

then_opens : (First Second : Type 0) (GoodFirst : First → Type 0) (GoodSecond : First → Second → Type 0) (spell_first : First
    → List ℕ) (spell_second : Second → List ℕ) (read : List ℕ → Read First) (next : First → List ℕ → Read Second)
    → Reads First GoodFirst spell_first read → ((a : First) → GoodFirst a → Reads Second (GoodSecond a) spell_second (next a))
    → ((a : First) → GoodFirst a → (b : Second) × GoodSecond a b)
    → (bytes : List ℕ) → IsBytes bytes → field_pair read next bytes ≡ Err Short
    → (more : List ℕ) × (p : First × Second) × (GoodFirst p.0 × GoodSecond p.0 p.1)
    × (bytes ++ more ≡ spell_first p.0 ++ spell_second p.1)
then_opens First Second GoodFirst GoodSecond spell_first spell_second read next first_reads next_reads some bytes fits e =
    elim (bind_err (read bytes) (λ x. next x.0 x.1 >>= λ y. Ok ((x.0, y.0), y.1)) Short e) [
      | inl e1 ↦
          let first = first_reads.opens bytes fits e1 in
          let second = some first.1 first.2 in (
            first.0 ++ spell_second second.0,
            (first.1, second.0),
            (first.2, second.1),
            sym (append_assoc bytes first.0 (spell_second second.0)) ∙ ap (λ (t : List ℕ). t ++ spell_second second.0) first.3,
          )
      | inr a ↦
          let first = first_reads.takes bytes a.0.0 a.0.1 fits a.1 in
          let fits_rest : IsBytes a.0.1 =
          IsBytes-rest (spell_first a.0.0) a.0.1 (subst (λ (t : List ℕ). IsBytes t) first.1 fits) in
          elim (bind_err (next a.0.0 a.0.1) (λ y. Ok ((a.0.0, y.0), y.1)) Short a.2) [
            | inl e1 ↦
                let second = (next_reads a.0.0 first.0).opens a.0.1 fits_rest e1 in (
                  second.0,
                  (a.0.0, second.1),
                  (first.0, second.2),
                  ap (λ (t : List ℕ). t ++ second.0) first.1
                      ∙ append_assoc (spell_first a.0.0) a.0.1 second.0 ∙ ap (λ (t : List ℕ). spell_first a.0.0 ++ t) second.3,
                )
            | inr b ↦ absurd (cc (b.2))
          ]
    ]

-- a field, and then one that it decides, which always has some good value
pub both : (First Second : Type 0) (GoodFirst : First → Type 0) (GoodSecond : First → Second → Type 0) (spell_first : First
    → List ℕ) (spell_second : Second → List ℕ) (read : List ℕ → Read First) (next : First → List ℕ → Read Second)
    → Reads First GoodFirst spell_first read → ((a : First) → GoodFirst a → Reads Second (GoodSecond a) spell_second (next a))
    → ((a : First) → GoodFirst a → (b : Second) × GoodSecond a b)
    → Reads (First × Second) (λ p. GoodFirst p.0 × GoodSecond p.0 p.1) (λ p. spell_first p.0 ++ spell_second p.1)
    (field_pair read next)
both First Second GoodFirst GoodSecond spell_first spell_second read next first_reads next_reads some = record {
  takes = then_takes First Second GoodFirst GoodSecond spell_first spell_second read next first_reads next_reads;
  again = then_again First Second GoodFirst GoodSecond spell_first spell_second read next first_reads next_reads;
  final = then_final First Second GoodFirst GoodSecond spell_first spell_second read next first_reads next_reads;
  opens = then_opens First Second GoodFirst GoodSecond spell_first spell_second read next first_reads next_reads some;
}

-- no good field begins another
pub one : (Field : Type 0) (Good : Field → Type 0) (spell : Field → List ℕ) (read : List ℕ → Read Field)
    → Reads Field Good spell read
    → (left right : Field) (x y : List ℕ) → Good left → Good right → spell left ++ x ≡ spell right ++ y → (left ≡ right) × (x ≡ y)
one Field Good spell read reads left right x y good_a good_b e =
    let first : Field × List ℕ = (left, x) in
    let second : Field × List ℕ = (right, y) in
    let same : first ≡ second =
    ok_is first second (sym (reads.again left x good_a) ∙ ap (λ (t : List ℕ). read t) e ∙ reads.again right y good_b) in
    (ap (λ (p : Field × List ℕ). p.0) same, ap (λ (p : Field × List ℕ). p.1) same)
