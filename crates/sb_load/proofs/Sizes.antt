-- How large what a text becomes is.
use Rattle.std.proofs.Common.{◌≡◌, ℕ, zero, suc, ◌+◌, ◌<◌, ◌≤◌, List, [], ◌∷◌, Ok, length, refl, ap, sym, ◌∙◌, subst, arith, length-append}
use Rattle.std.specs.Prelude.{flat_map}
use Rattle.std.specs.List.{AllByRecursion}
use Rattle.std.specs.List.Sorted.{IsStrictlyIncreasing}
use Rattle.sb_insn.specs.declared.insn.Insn.{Insn}
use Rattle.sb_insn.specs.Spelling.{spelling}
use Rattle.sb_bundle.specs.declared.bundle.Image.{Image}
use Rattle.sb_bundle.specs.Limits.{IsImage}
use Rattle.sb_rewrite.specs.Listing.{text_address}
use Rattle.sb_forms.specs.Answers.{area_end}
use Rattle.sb_rewrite.specs.Placing.{Placement, slot_bytes, place, places_from, places, area_address}
use Rattle.sb_rewrite.specs.RewrittenText.{RewrittenText, area_bytes}
use Rattle.sb_rewrite.specs.Rewriting.{EndsBehindArea, NoneOf, Rewrites}
use Rattle.sb_rewrite.proofs.Ordered.{ordered}
use Rattle.sb_rewrite.proofs.Length.{keeps_length}
use Rattle.sb_load.specs.Loading.{AreRewritten, text_of, rewritten_of}
use Rattle.sb_load.specs.Checks.{HasSmallArea, AllSmallAreas}

-- ---- the area

-- slots that do not end behind the area are in it
slots_within : (text : List ℕ) (at slot : ℕ) (insns : List Insn) → slot ≤ area_end
    → NoneOf EndsBehindArea (places_from text at slot insns)
    → slot + length (flat_map area_bytes (places_from text at slot insns)) ≤ area_end
unfolding places_from
slots_within text at slot [] within none = omega arith
slots_within text at slot (insn ∷ insns) within none =
    let first : Placement = place text at slot insn in
    let next : ℕ = slot + length (slot_bytes first.form) in
    let later : List Placement = places_from text (at + length (spelling insn)) next insns in
    let ends : area_end < next → ⊥ = none.0 in
    let fits : next ≤ area_end = omega arith in
    let behind : next + length (flat_map area_bytes later) ≤ area_end =
    slots_within text (at + length (spelling insn)) next insns fits none.1 in
    omega (arith, length-append (area_bytes first) (flat_map area_bytes later))

pub small_area : (text : List ℕ) (made : RewrittenText) → Rewrites text (Ok made) → HasSmallArea made
small_area text made (of_text, are, fits, is) =
    let none : NoneOf EndsBehindArea (places text are.insns) =
    subst (λ (list : List Placement). NoneOf EndsBehindArea list) are.places_are fits.1 in
    let within = slots_within text text_address area_address are.insns (omega arith) none in
    let size : length made.area ≡ length (flat_map area_bytes (places text are.insns)) =
    ap (λ (one : RewrittenText). length one.area) is ∙ ap (λ (list : List Placement). length (flat_map area_bytes list))
    are.places_are in
    omega arith

pub small_areas : (images : List Image) (rewritten : List RewrittenText) → AreRewritten images rewritten → AllSmallAreas rewritten
small_areas [] [] are = tt
small_areas [] (made ∷ others) are = absurd are
small_areas (image ∷ images) [] are = absurd are
small_areas (image ∷ images) (made ∷ others) are = (small_area image.text made are.0, small_areas images others are.1)

-- ---- the texts

-- what each text becomes is as long
pub as_long : (images : List Image) (rewritten : List RewrittenText) (process : ℕ) → AreRewritten images rewritten
    → length (rewritten_of rewritten process).text ≡ length (text_of images process)
as_long [] [] process are = refl
as_long [] (made ∷ others) process are = absurd are
as_long (image ∷ images) [] process are = absurd are
as_long (image ∷ images) (made ∷ others) zero are = keeps_length image.text made are.0
as_long (image ∷ images) (made ∷ others) (suc process) are = as_long images others process are.1

-- ---- the starts

pub rising_starts : (text : List ℕ) (made : RewrittenText) → Rewrites text (Ok made) → IsStrictlyIncreasing made.starts
rising_starts text made (of_text, are, fits, is) =
    subst (λ (one : RewrittenText). IsStrictlyIncreasing one.starts) (sym is) (ordered text of_text are).starts

-- ---- by process

-- the text of a process, which is rewritten so
pub record HasText (text : List ℕ) (made : RewrittenText) : Type 0 where
  pub size : length text ≤ 2097152
  pub is_rewritten : Rewrites text (Ok made)

pub has_text : (images : List Image) (rewritten : List RewrittenText) (process : ℕ) → process < length images
    → AllByRecursion IsImage images → AreRewritten images rewritten
    → HasText (text_of images process) (rewritten_of rewritten process)
has_text [] rewritten process within good are = absurd (omega arith)
has_text (image ∷ images) [] process within good are = absurd are
has_text (image ∷ images) (made ∷ others) zero within good are = record { size = good.0.text.1; is_rewritten = are.0 }
has_text (image ∷ images) (made ∷ others) (suc process) within good are =
    has_text images others process (omega arith) good.1 are.1
