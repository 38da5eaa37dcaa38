-- A number of a command line is written in decimal digits, without sign or leading zero.
use Rattle.std.proofs.Common.{◌≡◌, ℕ, zero, suc, ◌<◌, ◌^◌, Bool, true, not, ◌==◌, List, [], ◌∷◌, length, drop, cond, get_or, Err, rules, refl, ap, sym, ◌∙◌, subst, arith}
use Rattle.std.specs.Fmt.{decimal}
use Rattle.std.specs.Str.Parse.{AllDigits, IsNumeral, digits_value, without_leading_plus, ParsesUnsigned}
use Rattle.std.proofs.lemmas.Str.Parse.{IsNumeralModel}
use Rattle.std.proofs.lemmas.Bool.{and_parts, not-true}
use Rattle.std.proofs.lemmas.Fmt.{parse-decimal, decimal_digit, first_decimal, digits_decimal, decimal-digits_value}
use Rattle.sb_words.specs.Words.{is_plain}

own : IsNumeralModel (AllDigits 10) (digits_value 10)
own = record { to = λ ds all. all; from = λ ds all. all; same = λ ds all. refl }

-- ---- what is plain is read as it stands

no_plus : (bs : List ℕ) → is_plain bs ≡ true → without_leading_plus bs ≡ bs
no_plus [] plain = refl
no_plus (digit ∷ []) plain = ap (λ (plus : Bool). drop (cond plus 1 0) (digit ∷ [])) (not-true (digit == 43) plain)
no_plus (digit ∷ next ∷ digits) plain =
    ap (λ (plus : Bool). drop (cond plus 1 0) (digit ∷ next ∷ digits)) (not-true (digit == 43) (and_parts _ _ plain).0)

no_zero : (bs : List ℕ) → is_plain bs ≡ true → 0 < length bs → get_or bs 0 0 ≡ 48 → length bs ≡ 1
no_zero [] plain some leading = absurd (omega arith)
no_zero (digit ∷ []) plain some leading = refl
no_zero (digit ∷ next ∷ digits) plain some leading =
    absurd (search (rules, not-true (digit == 48) (and_parts (not (digit == 43)) (not (digit == 48)) plain).1, leading))

-- a plain text that is a number is what the number's digits are
pub plain_number : (bs : List ℕ) (number : ℕ)
    → (IsNumeral 10 (without_leading_plus bs) × (digits_value 10 (without_leading_plus bs) < 2 ^ 64))
    × (number ≡ digits_value 10 (without_leading_plus bs))
    → is_plain bs ≡ true → bs ≡ decimal number
plain_number bs number parses plain =
    let same : without_leading_plus bs ≡ bs = no_plus bs plain in
    let (numeral, small) = parses.0 in
    let some : 0 < length bs = subst (λ (ds : List ℕ). 0 < length ds) same numeral.0 in
    let digits : AllDigits 10 bs = subst (λ (ds : List ℕ). AllDigits 10 ds) same numeral.1 in
    let fits : digits_value 10 bs < 2 ^ 64 = subst (λ (ds : List ℕ). digits_value 10 ds < 2 ^ 64) same small in
    let is : number ≡ digits_value 10 bs = parses.1 ∙ ap (λ (ds : List ℕ). digits_value 10 ds) same in
    sym (decimal-digits_value own bs digits some (no_zero bs plain some) fits) ∙ ap decimal (sym is)

-- ---- the digits of a number are plain

plain_digits : (ds : List ℕ) → AllDigits 10 ds → (get_or ds 0 0 ≡ 48 → length ds ≡ 1) → is_plain ds ≡ true
plain_digits [] all alone = refl
plain_digits (digit ∷ []) all alone = search rules
plain_digits (digit ∷ next ∷ digits) all alone = search rules

pub number_plain : (bs : List ℕ) (number : ℕ) → number < 2 ^ 64 → bs ≡ decimal number → is_plain bs ≡ true
number_plain bs zero small is = rw (is, decimal_digit 0 (omega arith)) refl
number_plain bs (suc before) small is =
    let high = first_decimal (suc before) (omega arith) small in
    subst (λ (ds : List ℕ). is_plain ds ≡ true) (sym is)
    (plain_digits (decimal (suc before)) (digits_decimal own (suc before) small)
    (λ leading. absurd (omega (arith, high, leading))))

-- and are read
pub number_read : (E : Type 0) (bs : List ℕ) (number : ℕ) (error : E) → number < 2 ^ 64 → bs ≡ decimal number
    → ¬ ParsesUnsigned {E = E} 64 10 bs (Err error)
number_read E bs number error small is parses =
    absurd (search (rules, parse-decimal 64 number bs (Err error) small small is parses))
