-- The words of a command line.
use Rattle.std.specs.Prelude.{ℕ, List, [], ◌∷◌, String, Bool, true, not, ◌&&◌, ◌==◌, string_bytes, map}

-- the bytes of each word
abbrev pub word_texts : {A : Type 0} → List (String A) → List (List ℕ)
word_texts words = map (λ word. string_bytes word) words

-- neither a plus sign nor a leading zero stands in front
abbrev pub is_plain : List ℕ → Bool
is_plain [] = true
is_plain (digit ∷ []) = not (digit == 43)
is_plain (digit ∷ next ∷ digits) = not (digit == 43) && not (digit == 48)
