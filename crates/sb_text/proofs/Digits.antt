-- Hexadecimal digits that are written from the last to the first.
use Rattle.std.proofs.Common.{◌≡◌, ℕ, zero, suc, ◌+◌, ◌-◌, ◌/◌, ◌%◌, ◌<◌, ◌≤◌, ◌==◌, Bool, true, false, cond, List, [], ◌∷◌, length, drop, set, refl, arith, rules}
use Rattle.std.proofs.lemmas.List.{drop-set}
use Rattle.std.proofs.lemmas.Str.Ascii.{IsAscii-nil, IsAscii-cons}
use Rattle.std.specs.Fmt.{digits, digits_onto, digit_glyph}
use Rattle.std.specs.Str.{IsAscii}

-- before the first one
pub none_written : (value : ℕ) → digits_onto 64 16 false value [] ≡ digits 16 false value
unfolding digits
none_written value = refl

-- the first digit is the last one that is written
pub front_written : (start rest : ℕ) (later : List ℕ) → 0 < start → rest / 16 ≡ 0
    → digits_onto start 16 false rest later ≡ digit_glyph false (rest % 16) ∷ later
front_written zero rest later some done = absurd (omega arith)
front_written (suc start) rest later some done = search (rules, done)

-- else the others follow
pub digit_written : (start rest : ℕ) (later : List ℕ) → 0 < start → ¬ (rest / 16 ≡ 0)
    → digits_onto start 16 false rest later ≡ digits_onto (start - 1) 16 false (rest / 16) (digit_glyph false (rest % 16) ∷ later)
digit_written zero rest later some more = absurd (omega arith)
digit_written (suc start) rest later some more = search (rules, more)

-- a byte is set in front of those from a place on
pub set_in_front : (buffer : List ℕ) (start digit : ℕ) → 0 < start → start ≤ length buffer
    → drop (start - 1) (set buffer (start - 1) digit) ≡ digit ∷ drop start buffer
set_in_front buffer zero digit some within = absurd (omega arith)
set_in_front buffer (suc start) digit some within =
    let here : suc start - 1 ≡ start = omega arith in
    let next : start + 1 ≡ suc start = omega arith in
    rw here (rw next at (drop-set buffer start digit (omega arith)))

-- ---- digits are ASCII

small_glyph : (digit : ℕ) → digit < 16 → digit_glyph false digit < 128
small_glyph digit small = grind arith

ascii_onto : (count value : ℕ) (later : List ℕ) → IsAscii later → IsAscii (digits_onto count 16 false value later)
ascii_onto zero value later ascii = ascii
ascii_onto (suc count) value later ascii =
    let front = IsAscii-cons (digit_glyph false (value % 16)) later (small_glyph (value % 16) (omega arith)) ascii in
    by (value / 16 == 0) _ _ front (ascii_onto count (value / 16) (digit_glyph false (value % 16) ∷ later) front)
  where
    by : (last : Bool) (here more : List ℕ) → IsAscii here → IsAscii more → IsAscii (cond last here more)
    by true here more one others = one
    by false here more one others = others

pub hex_ascii : (value : ℕ) → IsAscii (digits 16 false value)
unfolding digits
hex_ascii value = ascii_onto 64 value [] IsAscii-nil
