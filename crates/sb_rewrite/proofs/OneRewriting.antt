-- A text is rewritten in one way.
use Rattle.std.proofs.Common.{◌≡◌, ◌≢◌, ℕ, ◌⊎◌, List, [], ◌++◌, Result, Ok, Err, refl, ap, sym, ◌∙◌, subst, inl, inr}
use Rattle.std.proofs.lemmas.List.{append-nil}
use Rattle.sb_insn.specs.declared.insn.Insn.{Insn}
use Rattle.sb_rewrite.specs.declared.refusal.RewriteRefusal.{RewriteRefusal}
use Rattle.sb_rewrite.specs.declared.refusal.RewriteRefusal.TheVariants.{Undecoded, BadTarget, Unmovable, AreaFull, Memory}
use Rattle.sb_rewrite.specs.Listing.{text_address, spelled_bytes, starts_from, IsUndecodedAt}
use Rattle.sb_rewrite.specs.Placing.{Placement, places}
use Rattle.sb_rewrite.specs.RewrittenText.{RewrittenText, rewritten_text, starts_of}
use Rattle.sb_rewrite.specs.Rewriting.{HasBadTarget, IsUnmovable, EndsBehindArea, NoneOf, IsFirstAt, ArePlaces, Rewrites, OneRewriting}
use Rattle.sb_rewrite.proofs.OneListing.{same_insns, nothing_begins, one_place, listed_apart}
use Rattle.sb_rewrite.proofs.FirstAt.{not_first, one_first}

pub one_places : (text : List ℕ) (first second : List Placement) → ArePlaces text first → ArePlaces text second → first ≡ second
one_places text first second one other =
    let fronts : spelled_bytes one.insns ++ [] ≡ spelled_bytes other.insns ++ [] =
    append-nil (spelled_bytes one.insns) ∙ sym one.whole ∙ other.whole ∙ sym (append-nil (spelled_bytes other.insns)) in
    let same : one.insns ≡ other.insns =
    same_insns one.insns other.insns [] [] one.valid other.valid nothing_begins nothing_begins fronts in
    one.places_are ∙ ap (λ (insns : List Insn). places text insns) same ∙ sym other.places_are

-- ---- one answer behind another

-- a claim of which one answer is true at most
abbrev IsOne : (Result RewrittenText RewriteRefusal → Type 0) → Type 0
IsOne Answers = (first second : Result RewrittenText RewriteRefusal) → Answers first → Answers second → first ≡ second

-- a refusal at the first place of which something holds, and where there is none another answer
abbrev Unless : (Placement → Type 0) → List Placement → (ℕ → RewriteRefusal) → (Result RewrittenText RewriteRefusal → Type 0)
    → Result RewrittenText RewriteRefusal → Type 0
Unless Holds of_text refusal Next answer =
    ((at : ℕ) × IsFirstAt Holds of_text at × (answer ≡ Err (refusal at))) ⊎ (NoneOf Holds of_text × Next answer)

one_unless : (Holds : Placement → Type 0) (of_text : List Placement) (refusal : ℕ → RewriteRefusal) (Next : Result RewrittenText RewriteRefusal
    → Type 0)
    → IsOne Next → IsOne (Unless Holds of_text refusal Next)
one_unless Holds of_text refusal Next one_next first second (inl (at, here, is)) (inl (at', here', is')) =
    is ∙ ap (λ (place : ℕ). Err (refusal place)) (one_first Holds of_text at at' here here') ∙ sym is'
one_unless Holds of_text refusal Next one_next first second (inl (at, here, is)) (inr (none, next)) =
    absurd (not_first Holds of_text at none here)
one_unless Holds of_text refusal Next one_next first second (inr (none, next)) (inl (at, here, is)) =
    absurd (not_first Holds of_text at none here)
one_unless Holds of_text refusal Next one_next first second (inr (none, next)) (inr (none', next')) =
    one_next first second next next'

-- ---- what is made at last

Last : List Placement → Result RewrittenText RewriteRefusal → Type 0
Last of_text answer = answer ≡ Ok (rewritten_text of_text)

one_last : (of_text : List Placement) → IsOne (Last of_text)
unfolding Last
one_last of_text first second made made' = made ∙ sym made'

-- ---- the whole

-- jumps first, then what can be moved, then room
Answer : List Placement → Result RewrittenText RewriteRefusal → Type 0
Answer of_text =
    Unless (HasBadTarget (starts_of of_text)) of_text (λ at. BadTarget at)
    (Unless IsUnmovable of_text (λ at. Unmovable at) (Unless EndsBehindArea of_text (λ at. AreaFull at) (Last of_text)))

one_of_places : (of_text : List Placement) → IsOne (Answer of_text)
unfolding Answer
one_of_places of_text =
    one_unless (HasBadTarget (starts_of of_text)) of_text (λ at. BadTarget at) _
    (one_unless IsUnmovable of_text (λ at. Unmovable at) _
    (one_unless EndsBehindArea of_text (λ at. AreaFull at) _ (one_last of_text)))

-- an answer is for want of a listing, or about the places of the text
Told : List ℕ → Result RewrittenText RewriteRefusal → Type 0
Told text answer =
    ((at : ℕ) × IsUndecodedAt text at × (answer ≡ Err (Undecoded at)))
    ⊎ ((of_text : List Placement) × ArePlaces text of_text × Answer of_text answer)

told : (text : List ℕ) (answer : Result RewrittenText RewriteRefusal) → answer ≢ Err Memory → Rewrites text answer
    → Told text answer
unfolding Told Answer Last
told text (Ok made) not_memory (of_text, are, fits, is) =
    inr (of_text, are, inr (fits.0.0, inr (fits.0.1, inr (fits.1, ap (λ (one : RewrittenText). Ok one) is))))
told text (Err (Undecoded at)) not_memory undecoded = inl (at, undecoded, refl)
told text (Err (BadTarget at)) not_memory (of_text, are, first) = inr (of_text, are, inl (at, first, refl))
told text (Err (Unmovable at)) not_memory (of_text, are, well, first) = inr (of_text, are, inr (well, inl (at, first, refl)))
told text (Err (AreaFull at)) not_memory (of_text, are, movable, first) =
    inr (of_text, are, inr (movable.0, inr (movable.1, inl (at, first, refl))))
told text (Err Memory) not_memory any = absurd (not_memory refl)

-- a text that has places has a listing
no_place_undecoded : (text : List ℕ) (of_text : List Placement) (at : ℕ) → ArePlaces text of_text → IsUndecodedAt text at → ⊥
no_place_undecoded text of_text at are undecoded =
    listed_apart text (starts_from text_address are.insns) at (are.insns, are.valid, are.whole, refl) undecoded

one_told : (text : List ℕ) → IsOne (Told text)
unfolding Told
one_told text first second (inl (at, undecoded, is)) (inl (at', undecoded', is')) =
    is ∙ ap (λ (place : ℕ). Err (Undecoded place)) (one_place text at at' undecoded undecoded') ∙ sym is'
one_told text first second (inl (at, undecoded, is)) (inr (of_text, are, answer)) =
    absurd (no_place_undecoded text of_text at are undecoded)
one_told text first second (inr (of_text, are, answer)) (inl (at, undecoded, is)) =
    absurd (no_place_undecoded text of_text at are undecoded)
one_told text first second (inr (of_text, are, answer)) (inr (of_text', are', answer')) =
    one_of_places of_text first second answer
    (subst (λ (list : List Placement). Answer list second) (sym (one_places text of_text of_text' are are')) answer')

pub one_rewritten : OneRewriting
one_rewritten text first second one other a b = one_told text first second (told text first one a) (told text second other b)
