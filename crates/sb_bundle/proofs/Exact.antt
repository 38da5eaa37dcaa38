-- What it is to read a field exactly, and that fields one behind the other are read exactly.
use Rattle.std.proofs.Common.{◌≡◌, ℕ, zero, suc, ◌^◌, ◌<◌, ◌≤◌, Bool, true, false, cond, ltb, List, [], ◌∷◌, ◌++◌, length, take, drop, Result, Ok, Err, refl, sym, ap, subst, ◌∙◌, append_assoc, arith}
use Rattle.std.specs.List.{AllByRecursion, flat_map}
use Rattle.std.proofs.lemmas.Bool.{ltb-false, le-ltb}
use Rattle.std.proofs.lemmas.List.{nil_from_length, take_at, drop_at, take-append-drop, length-append, length-take-le}
use Rattle.byteorder.specs.Endian.{little_number}
use Rattle.sb_bundle.specs.declared.refusal.BundleRefusal.{BundleRefusal}
use Rattle.sb_bundle.specs.declared.refusal.BundleRefusal.TheVariants.{Short}
use Rattle.sb_bundle.specs.Limits.{AllBelow}
use Rattle.sb_bundle.specs.Spelling.{number_bytes}
use Rattle.sb_memory.specs.Outcome.{and_then}
use Rattle.sb_bundle.specs.Fields.{◌>>=◌, Input, Field, offset, give, bytes_field, number, judged_field, many}
use Rattle.sb_bundle.proofs.Numbers.{length-number_bytes, number_bytes-fit, number-fits, number-again, bytes-again}

abbrev pub input : ℕ → List ℕ → Input
input total rest = record { total = total; rest = rest }

-- a value, the bytes that begin with its spelling, and those behind it
abbrev pub Relation : Type 0 → Type 1
Relation A = A → List ℕ → List ℕ → Type 0

-- the field reads exactly the values and bytes of the relation
pub record Reads {A : Type 0} (R : A → List ℕ → List ℕ → Type 0) (field : Field A) : Type 0 where
  pub takes : (from : Input) (value : A) (left : Input) → AllBelow 256 from.rest → field from ≡ Ok (value, left)
      → R value from.rest left.rest × AllBelow 256 left.rest
  pub again : (total : ℕ) (value : A) (bytes rest : List ℕ) → R value bytes rest
      → field (input total bytes) ≡ Ok (value, input total rest)

-- the value is good, and its spelling stands in front
abbrev pub Spelled : {A : Type 0} → (A → Type 0) → (A → List ℕ) → A → List ℕ → List ℕ → Type 0
Spelled Good spell value bytes rest = Good value × (bytes ≡ spell value ++ rest)

-- one field behind the other
abbrev pub Then : {A B : Type 0} → (A → List ℕ → List ℕ → Type 0) → (A → B → List ℕ → List ℕ → Type 0) → B → List ℕ → List ℕ
    → Type 0
Then {A = A} R S value bytes rest = (first : A) × (middle : List ℕ) × R first bytes middle × S first value middle rest

pub bind_ok : {A B : Type 0} (read : Result A BundleRefusal) (next : A → Result B BundleRefusal) (value : B)
    → and_then read next ≡ Ok value → (x : A) × (read ≡ Ok x) × (next x ≡ Ok value)
bind_ok (Ok x) next value e = (x, refl, e)
bind_ok (Err refusal) next value e = absurd cc

abbrev pub done : {A : Type 0} → A → Result A BundleRefusal
done x = Ok x

pub ok_is : {A : Type 0} (x y : A) → done x ≡ done y → x ≡ y
ok_is x y e = cc

-- what is read behind a field may lean on what the field gave
pub bind_good : {A B : Type 0} {R : A → List ℕ → List ℕ → Type 0} {S : A → B → List ℕ → List ℕ
    → Type 0} {field : Field A} {next : A → Field B}
    → Reads R field → ((first : A) (bytes middle : List ℕ) → R first bytes middle → Reads (S first) (next first))
    → Reads (Then R S) (field >>= next)
bind_good {R = R} {S = S} {field = field} {next = next} first second = record {
  takes = λ from value left fits e.
      let a = bind_ok (field from) (λ read. next read.0 read.1) (value, left) e in
      let one = first.takes from a.0.0 a.0.1 fits a.1 in
      let two = (second a.0.0 from.rest a.0.1.rest one.0).takes a.0.1 value left one.1 a.2 in
      ((a.0.0, a.0.1.rest, one.0, two.0), two.1);
  again = λ total value bytes rest good.
      let one = first.again total good.0 bytes good.1 good.2 in
      let two = (second good.0 bytes good.1 good.2).again total value good.1 rest good.3 in
      rw (one, two) refl;
}

pub bind : {A B : Type 0} {R : A → List ℕ → List ℕ → Type 0} {S : A → B → List ℕ → List ℕ → Type 0} {field : Field A} {next : A
    → Field B}
    → Reads R field → ((first : A) → Reads (S first) (next first)) → Reads (Then R S) (field >>= next)
bind first second = bind_good first (λ value bytes middle good. second value)

pub gives : {A : Type 0} (made : A) → Reads (λ value bytes rest. (value ≡ made) × (bytes ≡ rest)) (give made)
gives made = record {
  takes = λ from value left fits e.
      let same = ok_is (made, from) (value, left) e in (
        (sym (ap (λ (p : _ × Input). p.0) same), ap (λ (p : _ × Input). p.1.rest) same),
        subst (λ (p : _ × Input). AllBelow 256 p.1.rest) same fits,
      );
  again = λ total value bytes rest good. rw (good.0, good.1) refl;
}

-- the same field, said in other words
pub restated : {A : Type 0} {R S : A → List ℕ → List ℕ → Type 0} {field : Field A}
    → Reads R field → ((value : A) (bytes rest : List ℕ) → R value bytes rest → S value bytes rest)
    → ((value : A) (bytes rest : List ℕ) → S value bytes rest → R value bytes rest) → Reads S field
restated reads there back = record {
  takes = λ from value left fits e. let one = reads.takes from value left fits e in
      (there value from.rest left.rest one.0, one.1);
  again = λ total value bytes rest good. reads.again total value bytes rest (back value bytes rest good);
}

-- ---- bytes and numbers

guard_ok : {A : Type 0} (b : Bool) (refusal : BundleRefusal) (x y : A) → cond b (Err refusal) (Ok x) ≡ Ok y
    → (b ≡ false) × (x ≡ y)
guard_ok true refusal x y e = absurd cc
guard_ok false refusal x y e = (refl, cc)

AllBelow-parts : (bound : ℕ) (prefix rest : List ℕ) → AllBelow bound (prefix ++ rest)
    → AllBelow bound prefix × AllBelow bound rest
AllBelow-parts bound [] rest fits = (tt, fits)
AllBelow-parts bound (x ∷ prefix) rest fits = let parts = AllBelow-parts bound prefix rest fits.1 in ((fits.0, parts.0), parts.1)

-- bytes, so many, spell themselves
abbrev pub AreBytes : ℕ → List ℕ → Type 0
AreBytes size bytes = (length bytes ≡ size) × AllBelow 256 bytes

abbrev pub itself : List ℕ → List ℕ
itself bytes = bytes

pub bytes_reads : (size : ℕ) → Reads (Spelled (AreBytes size) itself) (bytes_field size)
unfolding bytes_field
bytes_reads size = record {
  takes = λ from value left fits e.
      let read : List ℕ × Input = (take size from.rest, record { total = from.total; rest = drop size from.rest }) in
      let want : List ℕ × Input = (value, left) in
      let guard = guard_ok (ltb (length from.rest) size) (Short (offset from)) read want e in
      let long : size ≤ length from.rest = ltb-false _ _ guard.0 in
      let parts : from.rest ≡ take size from.rest ++ drop size from.rest = sym (take-append-drop size from.rest) in
      let both = AllBelow-parts 256 (take size from.rest) (drop size from.rest) (subst (AllBelow 256) parts fits) in
      subst (λ (p : List ℕ × Input). Spelled (AreBytes size) itself p.0 from.rest p.1.rest
      × AllBelow 256 p.1.rest) guard.1 (((length-take-le size from.rest long, both.0), parts), both.1);
  again = λ total value bytes rest good.
      let long : ltb (length (value ++ rest)) size ≡ false = le-ltb _ _ (omega (arith, length-append value rest, good.0.0)) in
      rw (good.1, long, take_at value rest size good.0.0, drop_at value rest size good.0.0) refl;
}

pub number_reads : (size : ℕ) → Reads (Spelled (λ n. n < 256 ^ size) (number_bytes size)) (number size)
unfolding number
number_reads size =
    restated (bind (bytes_reads size) (λ bytes. gives (little_number size bytes)))
    (λ n bytes rest good.
    let prefix = good.2 in (
      rw good.3.0 (number-fits size good.0 prefix.0.1),
      prefix.1
          ∙ rw (good.3.0, ← good.3.1) (ap (λ (xs : List ℕ). xs ++ good.1) (sym (bytes-again size good.0 prefix.0.0 prefix.0.1))),
    ))
    (λ n bytes rest good. (
      number_bytes size n,
      rest,
      ((length-number_bytes size n, number_bytes-fit size n), good.1),
      (sym (number-again size n good.0), refl),
    ))

-- ---- a field that is judged

pub test_ok : {A : Type 0} (b : Bool) (refusal : BundleRefusal) (x y : A) → cond b (Ok x) (Err refusal) ≡ Ok y
    → (b ≡ true) × (x ≡ y)
test_ok true refusal x y e = (refl, cc)
test_ok false refusal x y e = absurd cc

pub judged_reads : {A : Type 0} {R : A → List ℕ → List ℕ → Type 0} {field : Field A} (refusal : ℕ → BundleRefusal) (is_good : A
    → Bool)
    → Reads R field → Reads (λ value bytes rest. R value bytes rest × (is_good value ≡ true)) (judged_field refusal is_good field)
judged_reads {A = A} {R = R} {field = field} refusal is_good reads = record {
  takes = λ from value left fits e.
      let a = bind_ok (field from) (λ read. cond (is_good read.0) (Ok read) (Err (refusal (offset from)))) (value, left) e in
      let want : A × Input = (value, left) in
      let test = test_ok (is_good a.0.0) (refusal (offset from)) a.0 want a.2 in
      let one = reads.takes from a.0.0 a.0.1 fits a.1 in
      subst (λ (p : A × Input). (R p.0 from.rest p.1.rest × (is_good p.0 ≡ true))
      × AllBelow 256 p.1.rest) test.1 ((one.0, test.0), one.1);
  again = λ total value bytes rest good.
      let one = reads.again total value bytes rest good.0 in
      rw (one, good.1) refl;
}

-- ---- many fields of one kind

abbrev pub AreAll : {A : Type 0} → (A → Type 0) → ℕ → List A → Type 0
AreAll Good count values = (length values ≡ count) × AllByRecursion Good values

first_of_many : {A : Type 0} (Good : A → Type 0) (spell : A → List ℕ) (count : ℕ) (values : List A) (bytes rest : List ℕ)
    → Spelled (AreAll Good (suc count)) (flat_map spell) values bytes rest
    → Then (Spelled Good spell)
    (λ first. Then (Spelled (AreAll Good count) (flat_map spell)) (λ others values bytes rest. (values ≡ first ∷ others)
    × (bytes ≡ rest))) values bytes rest
first_of_many Good spell count [] bytes rest good = absurd (omega (arith, good.0.0))
first_of_many Good spell count (value ∷ values) bytes rest good =
    let fewer : length values ≡ count = omega (arith, good.0.0) in (
      value,
      flat_map spell values ++ rest,
      (good.0.1.0, good.1 ∙ append_assoc (spell value) (flat_map spell values) rest),
      (values, rest, ((fewer, good.0.1.1), refl), (refl, refl)),
    )

pub many_reads : {A : Type 0} (Good : A → Type 0) (spell : A → List ℕ) (field : Field A) → Reads (Spelled Good spell) field
    → (count : ℕ) → Reads (Spelled (AreAll Good count) (flat_map spell)) (many count field)
unfolding many
many_reads Good spell field reads zero =
    restated (gives [])
    (λ values bytes rest good. rw good.0 ((refl, tt), good.1))
    (λ values bytes rest good. let none = nil_from_length values good.0.0 in (none, good.1 ∙ rw none refl))
many_reads Good spell field reads (suc count) =
    restated (bind reads (λ first. bind (many_reads Good spell field reads count) (λ others. gives (first ∷ others))))
    (λ values bytes rest good.
    let others = good.3 in
    let tail = others.3 in
    let behind : good.1 ≡ flat_map spell others.0 ++ rest =
    others.2.1 ∙ ap (λ (xs : List ℕ). flat_map spell others.0 ++ xs) tail.1 in
    rw tail.0 (
      (ap suc others.2.0.0, (good.2.0, others.2.0.1)),
      good.2.1 ∙ ap (λ (xs : List ℕ). spell good.0 ++ xs) behind
          ∙ sym (append_assoc (spell good.0) (flat_map spell others.0) rest),
    ))
    (first_of_many Good spell count)
