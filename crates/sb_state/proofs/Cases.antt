-- Tests and options by their cases.
use Rattle.std.proofs.Common.{◌≡◌, Bool, true, false, refl, sym}
use Rattle.std.specs.Prelude.{Option, Some, None, is_some, if◌then◌else◌}

-- what is said of both ends of a test is said of its end
pub claim_if : {A : Type 0} (Claim : A → Type 0) (test : Bool) (one other : A) → (test ≡ true → Claim one)
    → (test ≡ false → Claim other)
    → Claim (if test then one else other)
claim_if Claim true one other first second = first refl
claim_if Claim false one other first second = second refl

pub clash : (test : Bool) → test ≡ true → test ≡ false → ⊥
clash test one other = cc

pub none_some : {A : Type 0} (found : Option A) (value : A) → found ≡ None → found ≡ Some value → ⊥
none_some found value none some = cc

-- an option that has no value is none
pub none_found : {A : Type 0} (found : Option A) → ((value : A) → found ≡ Some value → ⊥) → found ≡ None
none_found None never = refl
none_found (Some value) never = absurd (never value refl)

-- two values of one option are one
pub same_found : {A : Type 0} (one other : A) (found : Option A) → found ≡ Some one → found ≡ Some other → one ≡ other
same_found one other found first second = cc

pub same_some : {A : Type 0} (one other : A) → Some one ≡ Some other → one ≡ other
same_some one other same = cc

-- an option that has a value is that value
pub some_there : {A : Type 0} (found : Option A) → is_some found ≡ true → (value : A) × (found ≡ Some value)
some_there None there = absurd cc
some_there (Some value) there = (value, refl)

-- two tests of which each follows from the other are one
pub same_tests : (test other : Bool) → (test ≡ true → other ≡ true) → (other ≡ true → test ≡ true) → test ≡ other
same_tests true other there back = sym (there refl)
same_tests false true there back = back refl
same_tests false false there back = refl

-- what a test gives that fails
pub none_if : {A : Type 0} (test : Bool) (value : A) → test ≡ false → (if test then Some value else None) ≡ None
none_if true value fails = absurd cc
none_if false value fails = refl
