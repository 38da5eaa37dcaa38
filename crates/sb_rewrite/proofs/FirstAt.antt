-- The first of some places of which something holds.
use Rattle.std.proofs.Common.{◌≡◌, ℕ, List, [], ◌∷◌, ◌++◌, sym, ◌∙◌, ap, subst}
use Rattle.sb_rewrite.specs.Placing.{Placement}
use Rattle.sb_rewrite.specs.Rewriting.{NoneOf, IsFirstAt}

-- it holds of none of a list, nor of one more
pub none_more : (Holds : Placement → Type 0) (places : List Placement) (place : Placement) → NoneOf Holds places → ¬ Holds place
    → NoneOf Holds (places ++ place ∷ [])
none_more Holds [] place none not_here = (not_here, tt)
none_more Holds (first ∷ places) place none not_here = (none.0, none_more Holds places place none.1 not_here)

-- it holds of none of a list, so not of one among them
pub none_among : (Holds : Placement → Type 0) (before : List Placement) (place : Placement) (behind : List Placement)
    → NoneOf Holds (before ++ place ∷ behind) → ¬ Holds place
none_among Holds [] place behind none = none.0
none_among Holds (first ∷ before) place behind none = none_among Holds before place behind none.1

pub not_first : (Holds : Placement → Type 0) (places : List Placement) (at : ℕ) → NoneOf Holds places → IsFirstAt Holds places at
    → ⊥
not_first Holds places at none first =
    none_among Holds first.before first.first first.behind
    (subst (λ (list : List Placement). NoneOf Holds list) first.parts none) first.holds

-- behind those of which it does not hold, the first of which it holds is one
same_first : (Holds : Placement → Type 0) (before before' : List Placement) (place place' : Placement)
    (behind behind' : List Placement)
    → NoneOf Holds before → NoneOf Holds before'
    → Holds place → Holds place' → before ++ place ∷ behind ≡ before' ++ place' ∷ behind' → place ≡ place'
same_first Holds [] [] place place' behind behind' none none' holds holds' same = cc same
same_first Holds [] (first ∷ before') place place' behind behind' none none' holds holds' same =
    let is : place ≡ first = cc same in
    absurd (none'.0 (subst Holds is holds))
same_first Holds (first ∷ before) [] place place' behind behind' none none' holds holds' same =
    let is : place' ≡ first = cc same in
    absurd (none.0 (subst Holds is holds'))
same_first Holds (first ∷ before) (first' ∷ before') place place' behind behind' none none' holds holds' same =
    let tails : before ++ place ∷ behind ≡ before' ++ place' ∷ behind' = cc same in
    same_first Holds before before' place place' behind behind' none.1 none'.1 holds holds' tails

pub one_first : (Holds : Placement → Type 0) (places : List Placement) (at at' : ℕ) → IsFirstAt Holds places at
    → IsFirstAt Holds places at' → at ≡ at'
one_first Holds places at at' one other =
    let same : one.first ≡ other.first =
    same_first Holds one.before other.before one.first other.first one.behind other.behind one.none other.none one.holds
    other.holds (sym one.parts ∙ other.parts) in
    one.here ∙ ap (λ (place : Placement). place.at) same ∙ sym other.here
