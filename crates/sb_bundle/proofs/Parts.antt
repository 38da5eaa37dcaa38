-- The numbers of a bundle, its images and its cores are read exactly.
use Rattle.std.proofs.Common.{◌≡◌, ℕ, ◌^◌, ◌<◌, ◌≤◌, Bool, true, ltb, leb, eqb, List, [], ◌∷◌, ◌++◌, length, refl, sym, ap, ◌∙◌, append_assoc, arith}
use Rattle.std.specs.List.{flat_map}
use Rattle.std.proofs.Math.Nat.{mod-eq_of_lt}
use Rattle.std.proofs.lemmas.Bool.{ltb-true, lt-ltb, leb-true, le-leb, eqb-true, and_parts, and_from}
use Rattle.byteorder.specs.Endian.{little_number}
use Rattle.sb_bundle.specs.declared.bundle.Image.{Image}
use Rattle.sb_bundle.specs.declared.bundle.CoreStart.{CoreStart}
use Rattle.sb_bundle.specs.declared.limits.Limits.{Limits}
use Rattle.sb_bundle.specs.declared.refusal.BundleRefusal.{BundleRefusal}
use Rattle.sb_bundle.specs.declared.refusal.BundleRefusal.TheVariants.{Magic, Version, Count, Range}
use Rattle.sb_bundle.specs.Limits.{IsWithin, IsImage, IsCoreStart, AllBelow, text_limits, initial_limits, heap_limits}
use Rattle.sb_bundle.specs.Spelling.{number_bytes, magic, version, image_bytes, core_bytes}
use Rattle.sb_bundle.specs.Fields.{is_within, number, judged_field, many}
use Rattle.sb_bundle.specs.Reading.{count, length_field, index, magic_field, version_field, image, core_start}
use Rattle.sb_bundle.proofs.Exact.{Reads, AreBytes, AreAll, itself, Spelled, Then, bind, gives, restated, judged_reads, number_reads, bytes_reads, many_reads}

within : (limits : Limits) (n : ℕ) → is_within limits n ≡ true → IsWithin limits n
within limits n e = let parts = and_parts (leb limits.least n) (leb n limits.most) e in
    (leb-true limits.least n parts.0, leb-true n limits.most parts.1)

from_within : (limits : Limits) (n : ℕ) → IsWithin limits n → is_within limits n ≡ true
from_within limits n good =
    and_from (leb limits.least n) (leb n limits.most) (le-leb limits.least n good.0) (le-leb n limits.most good.1)

-- a judged number
judged_number : (refusal : ℕ → BundleRefusal) (test : ℕ → Bool) (size : ℕ) (Good : ℕ → Type 0)
    → ((n : ℕ) → test n ≡ true → Good n) → ((n : ℕ) → Good n → test n ≡ true) → ((n : ℕ) → Good n → n < 256 ^ size)
    → Reads (Spelled Good (number_bytes size)) (judged_field refusal test (number size))
judged_number refusal test size Good passed passes fits =
    restated (judged_reads refusal test (number_reads size))
    (λ n bytes rest good. (passed n good.1, good.0.1))
    (λ n bytes rest good. ((fits n good.0, good.1), passes n good.0))

pub count_reads : (limits : Limits) (size : ℕ) → limits.most < 256 ^ size
    → Reads (Spelled (IsWithin limits) (number_bytes size)) (count limits size)
unfolding count
count_reads limits size room =
    judged_number Count (is_within limits) size (IsWithin limits) (within limits) (from_within limits)
    (λ n good. omega (arith, good.1, room))

length_reads : (limits : Limits) → limits.most < 256 ^ 4
    → Reads (Spelled (IsWithin limits) (number_bytes 4)) (length_field limits)
unfolding length_field
length_reads limits room =
    judged_number Range (is_within limits) 4 (IsWithin limits) (within limits) (from_within limits)
    (λ n good. omega (arith, good.1, room))

pub index_reads : (bound size : ℕ) → bound ≤ 256 ^ size → Reads (Spelled (λ n. n < bound) (number_bytes size)) (index bound size)
unfolding index
index_reads bound size room =
    judged_number Range (λ n. ltb n bound) size (λ n. n < bound) (λ n e. ltb-true n bound e) (λ n lt. lt-ltb n bound lt)
    (λ n lt. omega (arith, lt, room))

pub magic_reads : Reads (Spelled (λ n. n ≡ little_number 4 magic) (number_bytes 4)) magic_field
unfolding magic_field
magic_reads =
    judged_number Magic (λ n. eqb n (little_number 4 magic)) 4 (λ n. n ≡ little_number 4 magic) (λ n e. eqb-true n _ e)
    (λ n e. rw e refl) (λ n e. rw e (omega arith))

pub version_reads : Reads (Spelled (λ n. n ≡ version) (number_bytes 2)) version_field
unfolding version_field
version_reads =
    judged_number Version (λ n. eqb n version) 2 (λ n. n ≡ version) (λ n e. eqb-true n _ e) (λ n e. rw e refl)
    (λ n e. rw e (omega arith))

-- ---- images and cores

core_there : (processes : ℕ) (core : CoreStart) (bytes rest : List ℕ)
    → Then (Spelled (λ n. n < processes) (number_bytes 4))
    (λ process. Then (Spelled (λ n. n < 256 ^ 8) (number_bytes 8))
    (λ entry value bytes rest. (value ≡ record { process = process; entry = entry }) × (bytes ≡ rest))) core bytes rest
    → Spelled (IsCoreStart processes) core_bytes core bytes rest
core_there processes core bytes rest good =
    let entry = good.3 in
    rw entry.3.0 (record { process = good.2.0; entry = entry.2.0 }, good.2.1 ∙ rw (entry.2.1, entry.3.1) (simp append_assoc refl))

pub core_start_reads : (processes : ℕ) → processes ≤ 256
    → Reads (Spelled (IsCoreStart processes) core_bytes) (core_start processes)
unfolding core_start
core_start_reads processes room =
    restated
    (bind (index_reads processes 4 (omega (arith, room)))
    (λ process. bind (number_reads 8) (λ entry. gives (record { process = process; entry = entry }))))
    (core_there processes)
    (λ core bytes rest good. (
      core.process,
      number_bytes 8 core.entry ++ rest,
      (good.0.process, good.1 ∙ append_assoc (number_bytes 4 core.process) (number_bytes 8 core.entry) rest),
      (core.entry, rest, (good.0.entry, refl), (refl, refl)),
    ))

abbrev text_then : ℕ → ℕ → ℕ → Image → List ℕ → List ℕ → Type 0
text_then text_length initial_length heap_pages =
    Then (Spelled (AreBytes text_length) itself) (λ text.
    Then (Spelled (AreBytes initial_length) itself) (λ initial image bytes rest.
    (image ≡ record { text = text; initial = initial; heap_pages = heap_pages }) × (bytes ≡ rest)))

abbrev lengths_then : Image → List ℕ → List ℕ → Type 0
lengths_then =
    Then (Spelled (IsWithin text_limits) (number_bytes 4)) (λ text_length.
    Then (Spelled (IsWithin initial_limits) (number_bytes 4)) (λ initial_length.
    Then (Spelled (IsWithin heap_limits) (number_bytes 4)) (λ heap_pages.
    text_then text_length initial_length heap_pages)))

image_there : (image : Image) (bytes rest : List ℕ) → lengths_then image bytes rest → Spelled IsImage image_bytes image bytes rest
image_there image bytes rest good =
    let initial_length = good.3 in
    let heap_pages = initial_length.3 in
    let text = heap_pages.3 in
    let initial = text.3 in
    rw initial.3.0 (
      record {
        text = rw text.2.0.0 good.2.0;
        text_bytes = text.2.0.1;
        initial = rw initial.2.0.0 initial_length.2.0;
        initial_bytes = initial.2.0.1;
        heap_pages = heap_pages.2.0;
      },
      good.2.1
          ∙ rw (
            initial_length.2.1,
            heap_pages.2.1,
            text.2.1,
            initial.2.1,
            initial.3.1,
            text.2.0.0,
            initial.2.0.0,
          ) (simp append_assoc refl),
    )

image_back : (image : Image) (bytes rest : List ℕ) → Spelled IsImage image_bytes image bytes rest → lengths_then image bytes rest
image_back image bytes rest good =
    let tail : List ℕ = image.text ++ (image.initial ++ rest) in
    let regrouped : bytes
    ≡ number_bytes 4 (length image.text) ++
    (number_bytes 4 (length image.initial) ++ (number_bytes 4 image.heap_pages ++ tail)) =
    good.1 ∙ simp append_assoc refl in (
      length image.text,
      number_bytes 4 (length image.initial) ++ (number_bytes 4 image.heap_pages ++ tail),
      (good.0.text, regrouped),
      (
        length image.initial,
        number_bytes 4 image.heap_pages ++ tail,
        (good.0.initial, refl),
        (
          image.heap_pages,
          tail,
          (good.0.heap_pages, refl),
          (
            image.text,
            image.initial ++ rest,
            ((refl, good.0.text_bytes), refl),
            (image.initial, rest, ((refl, good.0.initial_bytes), refl), (refl, refl)),
          ),
        ),
      ),
    )

pub image_reads : Reads (Spelled IsImage image_bytes) image
unfolding image
image_reads =
    restated (bind (length_reads text_limits (omega arith)) (λ text_length.
    bind (length_reads initial_limits (omega arith)) (λ initial_length.
    bind (length_reads heap_limits (omega arith)) (λ heap_pages.
    bind (bytes_reads text_length) (λ text.
    bind (bytes_reads initial_length) (λ initial.
    gives (record { text = text; initial = initial; heap_pages = heap_pages })))))))
    image_there image_back

-- ---- the schedule

one_byte : (n : ℕ) → n < 256 → number_bytes 1 n ≡ n ∷ []
unfolding number_bytes
one_byte n lt = ap (λ (byte : ℕ). byte ∷ []) (mod-eq_of_lt lt)

entries_are : (cores : ℕ) (entries : List ℕ) → cores ≤ 256 → AllBelow cores entries → flat_map (number_bytes 1) entries ≡ entries
entries_are cores [] room fits = refl
entries_are cores (core ∷ entries) room fits =
    rw (one_byte core (omega (arith, fits.0, room)), entries_are cores entries room fits.1) refl

pub schedule_reads : (cores count : ℕ) → cores ≤ 256
    → Reads (Spelled (AreAll (λ core. core < cores) count) itself) (many count (index cores 1))
schedule_reads cores count room =
    restated
    (many_reads (λ core. core < cores) (number_bytes 1) (index cores 1) (index_reads cores 1 (omega (arith, room))) count)
    (λ entries bytes rest good. (good.0, good.1 ∙ ap (λ (xs : List ℕ). xs ++ rest) (entries_are cores entries room good.0.1)))
    (λ entries bytes rest good. (
      good.0,
      good.1
          ∙ ap (λ (xs : List ℕ). xs ++ rest) (sym (entries_are cores entries room good.0.1)),
    ))
