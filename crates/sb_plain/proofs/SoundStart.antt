-- What a loaded bundle starts from is sound.
use Rattle.std.proofs.Common.{◌≡◌, ℕ, ◌+◌, ◌≤◌, ◌^◌, List, [], ◌∷◌, Ok, length, map, refl, sym, subst, arith}
use Rattle.std.proofs.lemmas.List.{length-map}
use Rattle.std.proofs.Math.Logic.{∥∥₁_elim}
use Rattle.std.proofs.Math.Bridge.{le_prop}
use Rattle.std.specs.List.{AllByRecursion, AllByRecursion-prop}
use Rattle.sb_bundle.specs.declared.bundle.CoreStart.{CoreStart}
use Rattle.sb_bundle.specs.declared.bundle.Image.{Image}
use Rattle.sb_bundle.specs.Limits.{IsImage, IsCoreStart, AllBelow}
use Rattle.sb_rewrite.specs.Listing.{text_address}
use Rattle.sb_rewrite.specs.RewrittenText.{RewrittenText, IsBetween}
use Rattle.sb_rewrite.specs.Rewriting.{Rewrites}
use Rattle.sb_rewrite.proofs.Free.{none_made}
use Rattle.sb_rewrite.proofs.Length.{keeps_length}
use Rattle.sb_rewrite.proofs.Within.{starts_in_text}
use Rattle.sb_state.specs.Start.{ProcessImage, ThreadEntry}
use Rattle.sb_trace.specs.Laws.{IsImageSound, IsEntrySound}
use Rattle.sb_load.specs.Loading.{Load, AreRewritten, IsLoadable}
use Rattle.sb_load.specs.FirstState.{image_of, images_of, images_loaded, entry_of}
use Rattle.sb_load.proofs.Sizes.{small_area}
use Rattle.sb_load.proofs.Known.{below_prop}
use Rattle.sb_plain.specs.Start.{HasSoundStart, LoadsHaveSoundStarts}

-- ---- images

-- numbers that lie between others are below the bound that these are below
below_end : (least end bound : ℕ) (numbers : List ℕ) → end ≤ bound → AllByRecursion (IsBetween least end) numbers
    → AllBelow bound numbers
below_end least end bound [] within between = tt
below_end least end bound (number ∷ numbers) within between =
    (omega (arith, between.0.1, within), below_end least end bound numbers within between.1)

-- what the text of an image becomes is sound, with the initial data and the heap of the image
image_sound : (image : Image) (made : RewrittenText) → IsImage image → Rewrites image.text (Ok made)
    → IsImageSound (image_of image made)
image_sound image made good are =
    let size : length made.text ≡ length image.text = keeps_length image.text made are in
    let none = none_made image.text made (omega (arith, good.text.1)) are in
    record {
      text = none.0;
      area = none.1;
      starts = below_end text_address (text_address + length image.text) (2 ^ 64) made.starts (omega (arith, good.text.1))
          (starts_in_text image.text made are);
      initial = good.initial_bytes;
      text_length = omega (arith, size, good.text.1);
      area_length = small_area image.text made are;
      initial_length = good.initial.1;
      heap = good.heap_pages.1;
    }

all_sound : (images : List Image) (rewritten : List RewrittenText) → AllByRecursion IsImage images → AreRewritten images rewritten
    → AllByRecursion IsImageSound (images_of images rewritten)
all_sound [] rewritten good are = tt
all_sound (image ∷ images) (made ∷ others) good are =
    (image_sound image made good.0 are.0, all_sound images others good.1 are.1)
all_sound (image ∷ images) [] good are = absurd are

image_count : (images : List Image) (rewritten : List RewrittenText) → AreRewritten images rewritten
    → length (images_of images rewritten) ≡ length images
image_count [] rewritten are = refl
image_count (image ∷ images) (made ∷ others) are = omega (arith, image_count images others are.1)
image_count (image ∷ images) [] are = absurd are

-- ---- entries

entries_sound : (processes : ℕ) (cores : List CoreStart) → AllByRecursion (IsCoreStart processes) cores
    → AllByRecursion (IsEntrySound processes) (map entry_of cores)
entries_sound processes [] good = tt
entries_sound processes (core ∷ cores) good = ((good.0.process, good.0.entry), entries_sound processes cores good.1)

-- ---- the bundle

-- what a bundle that may be loaded starts from is sound
pub sound_start : LoadsHaveSoundStarts
sound_start load loadable =
    let count : length (images_loaded load) ≡ length load.bundle.images =
    image_count load.bundle.images load.rewritten loadable.texts in
    record {
      images = all_sound load.bundle.images load.rewritten loadable.grammar.images loadable.texts;
      image_count = omega (arith, count, loadable.grammar.process_count.1);
      entries = subst (λ (processes : ℕ). AllByRecursion (IsEntrySound processes) (map entry_of load.bundle.cores)) (sym count)
          (entries_sound (length load.bundle.images) load.bundle.cores loadable.grammar.cores);
      entry_count = omega (arith, length-map load.bundle.cores entry_of, loadable.grammar.core_count.1);
      keys = loadable.grammar.keys;
    }

-- ---- of what only its type says to be loadable

image_prop : (image : ProcessImage) → IsProp (IsImageSound image)
image_prop image = hlevel (below_prop, le_prop)

images_prop : (images : List ProcessImage) → IsProp (AllByRecursion IsImageSound images)
images_prop images = AllByRecursion-prop IsImageSound image_prop images

entry_prop : (processes : ℕ) (entry : ThreadEntry) → IsProp (IsEntrySound processes entry)
entry_prop processes entry = hlevel le_prop

entries_prop : (processes : ℕ) (entries : List ThreadEntry) → IsProp (AllByRecursion (IsEntrySound processes) entries)
entries_prop processes entries = AllByRecursion-prop (IsEntrySound processes) (entry_prop processes) entries

-- there is one proof at most that a bundle starts from what is sound
start_prop : (load : Load) → IsProp (HasSoundStart load)
start_prop load = hlevel (images_prop, entries_prop, below_prop, le_prop)

pub loaded_start : (load : Load) → ∥ IsLoadable load ∥₁ → HasSoundStart load
loaded_start load loadable = ∥∥₁_elim loadable (start_prop load) (λ known. sound_start load known)
