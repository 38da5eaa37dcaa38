-- Lists of numbers.
use Rattle.std.specs.Prelude.{ℕ, ◌==◌, Bool, List}
use Rattle.std.specs.List.{list_any}

-- whether a number is one of these
abbrev pub is_listed : List ℕ → ℕ → Bool
is_listed numbers number = list_any (λ one. one == number) numbers
