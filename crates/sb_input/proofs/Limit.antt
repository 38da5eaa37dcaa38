-- A bundle that the loader accepts has no more bytes than an input may have, since its frames bound its texts and its data.
use Rattle.std.proofs.Common.{◌≡◌, ◌≤◌, ℕ, ◌+◌, ◌*◌, List, [], ◌∷◌, ◌++◌, Option, Some, None, length, refl, sym, subst, arith, length-append}
use Rattle.std.specs.List.{flat_map, sum_by}
use Rattle.std.proofs.lemmas.List.Recursion.{is_sum_by}
use Rattle.sb_port.specs.Port.{HasMore}
use Rattle.sb_bundle.specs.declared.bundle.Bundle.{Bundle}
use Rattle.sb_bundle.specs.declared.bundle.Image.{Image}
use Rattle.sb_bundle.specs.declared.bundle.CoreStart.{CoreStart}
use Rattle.sb_bundle.specs.Spelling.{number_bytes, key_bytes, image_bytes, core_bytes, header_bytes, spelling, magic, version}
use Rattle.sb_bundle.proofs.Numbers.{length-number_bytes}
use Rattle.sb_load.specs.Loading.{Load, IsLoadable}
use Rattle.sb_load.specs.Need.{page_count, process_need}
use Rattle.sb_input.specs.Input.{input_limit, SomeAccepted}
use Rattle.sb_input.specs.Told.{IsTold}

-- bytes have room in their pages
paged : (bytes : ℕ) → bytes ≤ 4096 * page_count bytes
paged bytes = omega arith

-- an image takes more frames than its text and data have pages
image_short : (image : Image) → length (image_bytes image) ≤ 12 + 4096 * process_need image
image_short image =
    let text = number_bytes 4 (length image.text) in
    let initial = number_bytes 4 (length image.initial) in
    let heap = number_bytes 4 image.heap_pages in
    let bytes = image.text ++ image.initial in
    omega (
      arith,
      length-append image.text image.initial,
      length-append heap bytes,
      length-append initial (heap ++ bytes),
      length-append text (initial ++ (heap ++ bytes)),
      length-number_bytes 4 (length image.text),
      length-number_bytes 4 (length image.initial),
      length-number_bytes 4 image.heap_pages,
      paged (length image.text),
      paged (length image.initial),
    )

-- the frames of the processes, one after another
abbrev needs : List Image → ℕ
needs [] = 0
needs (image ∷ images) = process_need image + needs images

needs_sum : (images : List Image) → needs images ≡ sum_by process_need images
needs_sum images = is_sum_by needs process_need refl (λ _ _. refl) images

images_short : (images : List Image) → length (flat_map image_bytes images) ≤ 12 * length images + 4096 * needs images
images_short [] = omega arith
images_short (image ∷ images) =
    omega (arith, length-append (image_bytes image) (flat_map image_bytes images), image_short image, images_short images)

keys_long : (keys : List ℕ) → length (flat_map key_bytes keys) ≡ 8 * length keys
keys_long [] = refl
keys_long (key ∷ keys) =
    omega (arith, length-append (key_bytes key) (flat_map key_bytes keys), length-number_bytes 8 key, keys_long keys)

core_long : (core : CoreStart) → length (core_bytes core) ≡ 12
core_long core =
    omega (
      arith,
      length-append (number_bytes 4 core.process) (number_bytes 8 core.entry),
      length-number_bytes 4 core.process,
      length-number_bytes 8 core.entry,
    )

cores_long : (cores : List CoreStart) → length (flat_map core_bytes cores) ≡ 12 * length cores
cores_long [] = refl
cores_long (core ∷ cores) =
    omega (arith, length-append (core_bytes core) (flat_map core_bytes cores), core_long core, cores_long cores)

header_long : (bundle : Bundle) → length (header_bytes bundle) ≡ 20
unfolding header_bytes
header_long bundle =
    let steps = number_bytes 4 (length bundle.schedule) in
    let keys = number_bytes 4 (length bundle.keys) ++ steps in
    let frames = number_bytes 4 bundle.frames ++ keys in
    let images = number_bytes 1 (length bundle.images) ++ frames in
    let cores = number_bytes 1 (length bundle.cores) ++ images in
    omega (
      arith,
      length-append (number_bytes 4 (length bundle.keys)) steps,
      length-append (number_bytes 4 bundle.frames) keys,
      length-append (number_bytes 1 (length bundle.images)) frames,
      length-append (number_bytes 1 (length bundle.cores)) images,
      length-append (number_bytes 2 version) cores,
      length-append magic (number_bytes 2 version ++ cores),
      length-number_bytes 4 (length bundle.schedule),
      length-number_bytes 4 (length bundle.keys),
      length-number_bytes 4 bundle.frames,
      length-number_bytes 1 (length bundle.images),
      length-number_bytes 1 (length bundle.cores),
      length-number_bytes 2 version,
    )

spelling_long : (bundle : Bundle)
    → length (spelling bundle) ≤ 20 + 8 * length bundle.keys + (12 * length bundle.images + 4096 * needs bundle.images)
    + 12 * length bundle.cores + length bundle.schedule
unfolding spelling
spelling_long bundle =
    let cores = flat_map core_bytes bundle.cores ++ bundle.schedule in
    let images = flat_map image_bytes bundle.images ++ cores in
    let keys = flat_map key_bytes bundle.keys ++ images in
    omega (
      arith,
      length-append (flat_map core_bytes bundle.cores) bundle.schedule,
      length-append (flat_map image_bytes bundle.images) cores,
      length-append (flat_map key_bytes bundle.keys) images,
      length-append (header_bytes bundle) keys,
      header_long bundle,
      keys_long bundle.keys,
      images_short bundle.images,
      cores_long bundle.cores,
    )

-- 7,680 frames have room for 30 MiB of texts and data; all else is less than 2 MiB
loadable_short : (load : Load) → IsLoadable load → length (spelling load.bundle) ≤ input_limit
loadable_short load loadable =
    let good = loadable.grammar in
    let sum = needs_sum load.bundle.images in
    omega (
      arith,
      spelling_long load.bundle,
      sum,
      loadable.enough,
      good.frames.1,
      good.key_count.1,
      good.process_count.1,
      good.core_count.1,
      good.schedule_length.1,
    )

pub accepted_short : (bytes : List ℕ) → SomeAccepted bytes → length bytes ≤ input_limit
accepted_short bytes (bundle, (good, spelled), (load, same, loadable)) =
    subst (λ (list : List ℕ). length list ≤ input_limit) (sym spelled)
    (subst (λ (bundle : Bundle). length (spelling bundle) ≤ input_limit) same (loadable_short load loadable))

-- so an accepted bundle is not too long
pub accepted_whole : (left : Option (List ℕ)) → HasMore left input_limit → ¬ IsTold left SomeAccepted
accepted_whole None more told = absurd told
accepted_whole (Some bytes) more told =
    let short = accepted_short bytes told in
    absurd (omega arith)
