-- A test that answers whether a list contains an address.
use Rattle.std.proofs.Common.{◌≡◌, ℕ, List, Bool, sym, ◌∙◌, ⊎_elim}
use Rattle.std.specs.Prelude.{IsTrue, ◌↔◌}
use Rattle.std.specs.List.{Contains}
use Rattle.std.proofs.lemmas.Bool.{cases_Bool, false_from_ne_true, false≢true}
use Rattle.sb_list.specs.Lists.{is_listed}
use Rattle.sb_list.proofs.Membership.{listed_contained, contained_listed}

-- it is whether the address is listed
pub same_as_listed : (test : Bool) (addresses : List ℕ) (at : ℕ) → (IsTrue test ↔ Contains addresses at)
    → test ≡ is_listed addresses at
same_as_listed test addresses at tells =
    ⊎_elim
    (λ yes. yes ∙ sym (contained_listed addresses at (tells.0 yes)))
    (λ no. no ∙ sym (false_from_ne_true (is_listed addresses at) (λ listed.
    false≢true (sym no ∙ tells.1 (listed_contained addresses at listed)))))
    (cases_Bool test)

-- and whether the list contains it, where it is whether it is listed
pub listed_tells : (test : Bool) (addresses : List ℕ) (at : ℕ) → test ≡ is_listed addresses at
    → IsTrue test ↔ Contains addresses at
listed_tells test addresses at is =
    (λ yes. listed_contained addresses at (sym is ∙ yes), λ held. is ∙ contained_listed addresses at held)
