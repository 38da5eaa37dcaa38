-- What is listed is what a list of numbers contains.
use Rattle.std.proofs.Common.{◌≡◌, ℕ, true, List, get_or, ◌∙◌}
use Rattle.std.specs.Prelude.{◌==◌}
use Rattle.std.specs.List.{Contains}
use Rattle.std.proofs.lemmas.Bool.{eqb-true, eq-eqb}
use Rattle.std.proofs.lemmas.List.{get_or_default}
use Rattle.std.proofs.lemmas.List.Folds.{Any-from_list_any, list_any_at}
use Rattle.sb_list.specs.Lists.{is_listed}

-- a number that is listed is one that the list contains
pub listed_contained : (numbers : List ℕ) (number : ℕ) → is_listed numbers number ≡ true → Contains numbers number
listed_contained numbers number is =
    let any = Any-from_list_any (λ one. one == number) numbers is in
    (any.0, any.2, get_or_default numbers any.0 number any.1 any.2 ∙ any.3 ∙ eqb-true any.1 number any.4)

-- and the other way round
pub contained_listed : (numbers : List ℕ) (number : ℕ) → Contains numbers number → is_listed numbers number ≡ true
contained_listed numbers number held =
    list_any_at (λ one. one == number) numbers held.0 number held.1 (eq-eqb (get_or numbers held.0 number) number held.2)
