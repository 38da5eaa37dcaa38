-- A report without the lines that tell of landings (docs/FORMATS.md).
use Rattle.std.specs.Prelude.{ℕ, Bool, not, ◌||◌, ◌&&◌, ◌==◌, if◌then◌else◌, nat_le, List, [], ◌∷◌, codes, filter}
use Rattle.std.specs.List.{concat, onto_first, starts_with}

-- the lines of a text, each up to and with its line feed
abbrev pub lines_in : List ℕ → List (List ℕ)
lines_in [] = []
lines_in (code ∷ text) = if code == 10 then (code ∷ []) ∷ lines_in text else onto_first code (lines_in text)

-- what stands behind the digits with which a line begins
abbrev pub behind_digits : List ℕ → List ℕ
behind_digits [] = []
behind_digits (code ∷ line) = if nat_le 48 code && nat_le code 57 then behind_digits line else code ∷ line

-- the line begins with `flight`, or behind the core's number with `landing`
abbrev pub tells_of_landing : List ℕ → Bool
tells_of_landing line =
    starts_with (λ a b. a == b) line (codes "flight ") || starts_with (λ a b. a == b) (behind_digits line) (codes " landing ")

-- the text without such lines
abbrev pub without_landing_lines : List ℕ → List ℕ
without_landing_lines text = concat (filter (λ line. not (tells_of_landing line)) (lines_in text))
