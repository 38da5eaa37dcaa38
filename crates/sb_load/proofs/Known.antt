-- What is known of a loaded bundle.
use Rattle.std.proofs.Common.{◌≡◌, ℕ, ◌<◌, ◌≤◌, List, length, get_or, refl, ap, sym, subst, arith}
use Rattle.std.specs.Prelude.{unwrap_or}
use Rattle.std.proofs.lemmas.Option.{slice_get_read}
use Rattle.std.proofs.Math.Logic.{∥∥₁_elim}
use Rattle.std.proofs.Math.Bridge.{le_prop}
use Rattle.std.specs.List.{AllByRecursion, AllByRecursion-prop}
use Rattle.std.specs.List.Sorted.{IsStrictlyIncreasing}
use Rattle.sb_bundle.specs.declared.bundle.Bundle.{Bundle}
use Rattle.sb_bundle.specs.declared.bundle.Image.{Image}
use Rattle.sb_bundle.specs.declared.bundle.CoreStart.{CoreStart}
use Rattle.sb_bundle.specs.Limits.{IsBundle, IsImage, IsCoreStart, AllBelow}
use Rattle.sb_rewrite.specs.RewrittenText.{RewrittenText}
use Rattle.sb_rewrite.proofs.Length.{keeps_length}
use Rattle.sb_load.specs.Loading.{Load, IsLoadable, AreAsLong, nothing, text_of, rewritten_of}
use Rattle.sb_load.specs.Need.{need_of, have_of}
use Rattle.sb_load.proofs.Parts.{as_many}
use Rattle.sb_load.proofs.Sizes.{as_long, small_area, rising_starts, has_text}

-- there are no more rewritten texts than processes, and no fewer
at_most : (load : Load) → ∥ IsLoadable load ∥₁ → length load.rewritten ≤ length load.bundle.images
at_most load loadable = ∥∥₁_elim loadable le_prop (λ known. omega (arith, as_many load.bundle.images load.rewritten known.texts))

at_least : (load : Load) → ∥ IsLoadable load ∥₁ → length load.bundle.images ≤ length load.rewritten
at_least load loadable = ∥∥₁_elim loadable le_prop (λ known. omega (arith, as_many load.bundle.images load.rewritten known.texts))

-- each process of the bundle has a rewritten text
pub text_count : (load : Load) → ∥ IsLoadable load ∥₁ → length load.rewritten ≡ length load.bundle.images
text_count load loadable = omega (arith, at_most load loadable, at_least load loadable)

pub takes_no_more : (load : Load) → ∥ IsLoadable load ∥₁ → need_of load.bundle load.rewritten ≤ have_of load.bundle
takes_no_more load loadable = ∥∥₁_elim loadable le_prop (λ known. known.enough)

-- the rewritten texts are as long as those of the bundle
pub are_as_long : (load : Load) → ∥ IsLoadable load ∥₁ → AreAsLong load
are_as_long load loadable process =
    let made : List ℕ = (rewritten_of load.rewritten process).text in
    let text : List ℕ = text_of load.bundle.images process in
    let same : IsLoadable load → length made ≡ length text =
    λ known. as_long load.bundle.images load.rewritten process known.texts in
    let most : length made ≤ length text = ∥∥₁_elim loadable le_prop (λ known. omega (arith, same known)) in
    let least : length text ≤ length made = ∥∥₁_elim loadable le_prop (λ known. omega (arith, same known)) in
    omega (arith, most, least)

-- ---- the text of a process

-- what is known of what a text becomes
pub record IsKnown (text : List ℕ) (made : RewrittenText) : Type 0 where
  pub size : length text ≤ 2097152
  pub most : length made.text ≤ length text
  pub least : length text ≤ length made.text
  pub area : length made.area ≤ 65536
  pub starts : IsStrictlyIncreasing made.starts

known_prop : (text : List ℕ) (made : RewrittenText) → IsProp (IsKnown text made)
known_prop text made = hlevel le_prop

known_of : (load : Load) (process : ℕ) → process < length load.bundle.images → IsLoadable load
    → IsKnown (text_of load.bundle.images process) (rewritten_of load.rewritten process)
known_of load process within known =
    let has = has_text load.bundle.images load.rewritten process within known.grammar.images known.texts in
    let text : List ℕ = text_of load.bundle.images process in
    let made : RewrittenText = rewritten_of load.rewritten process in
    let same : length made.text ≡ length text = keeps_length text made has.is_rewritten in
    record {
      size = has.size;
      most = omega (arith, same);
      least = omega (arith, same);
      area = small_area text made has.is_rewritten;
      starts = rising_starts text made has.is_rewritten;
    }

-- what is read at the number of a process is what its text becomes
pub is_of : (load : Load) (process : ℕ) (made : RewrittenText) → process < length load.bundle.images → ∥ IsLoadable load ∥₁
    → made ≡ get_or load.rewritten process made
    → made ≡ rewritten_of load.rewritten process
is_of load process made within loadable is =
    let below : process < length load.rewritten = omega (arith, text_count load loadable) in
    ap (λ found. unwrap_or found nothing) (sym (slice_get_read load.rewritten (length load.rewritten) process made refl below is))

pub known : (load : Load) (process : ℕ) (made : RewrittenText) → process < length load.bundle.images → ∥ IsLoadable load ∥₁
    → made ≡ get_or load.rewritten process made → IsKnown (text_of load.bundle.images process) made
known load process made within loadable is =
    let text : List ℕ = text_of load.bundle.images process in
    subst
    (λ (one : RewrittenText). IsKnown text one)
    (sym (is_of load process made within loadable is))
    (∥∥₁_elim loadable (known_prop text (rewritten_of load.rewritten process)) (λ all. known_of load process within all))

-- ---- the grammar

-- there is one proof at most that numbers are below a bound
pub below_prop : (bound : ℕ) (numbers : List ℕ) → IsProp (AllBelow bound numbers)
below_prop bound numbers = AllByRecursion-prop (λ n. n < bound) (λ n. le_prop) numbers

image_prop : (image : Image) → IsProp (IsImage image)
image_prop image = hlevel (below_prop, le_prop)

images_prop : (images : List Image) → IsProp (AllByRecursion IsImage images)
images_prop images = AllByRecursion-prop IsImage image_prop images

core_prop : (processes : ℕ) (core : CoreStart) → IsProp (IsCoreStart processes core)
core_prop processes core = hlevel le_prop

cores_prop : (processes : ℕ) (cores : List CoreStart) → IsProp (AllByRecursion (IsCoreStart processes) cores)
cores_prop processes cores = AllByRecursion-prop (IsCoreStart processes) (core_prop processes) cores

-- there is one proof at most that a bundle is of the grammar
bundle_prop : (bundle : Bundle) → IsProp (IsBundle bundle)
bundle_prop bundle = hlevel (below_prop, images_prop, cores_prop, le_prop)

pub of_the_grammar : (load : Load) → ∥ IsLoadable load ∥₁ → IsBundle load.bundle
of_the_grammar load loadable = ∥∥₁_elim loadable (bundle_prop load.bundle) (λ known. known.grammar)
