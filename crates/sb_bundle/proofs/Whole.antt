-- The header, the bundle and the whole input are read exactly.
use Rattle.std.proofs.Common.{◌≡◌, ℕ, ◌^◌, ◌<◌, eqb, List, [], ◌++◌, length, Result, Ok, Err, refl, sym, ap, subst, ◌∙◌, append_assoc, arith}
use Rattle.std.specs.Prelude.{IfOk}
use Rattle.std.specs.List.{flat_map}
use Rattle.std.proofs.lemmas.Bool.{eqb-true}
use Rattle.std.proofs.lemmas.List.{append-nil, nil_from_length}
use Rattle.byteorder.specs.Endian.{little_number}
use Rattle.sb_bundle.specs.declared.bundle.Bundle.{Bundle}
use Rattle.sb_bundle.specs.declared.header.Header.{Header}
use Rattle.sb_bundle.specs.declared.refusal.BundleRefusal.{BundleRefusal}
use Rattle.sb_bundle.specs.declared.refusal.BundleRefusal.TheVariants.{Trailing}
use Rattle.sb_bundle.specs.Limits.{IsWithin, IsImage, IsCoreStart, IsBundle, AllBelow, core_limits, process_limits, frame_limits, key_limits, schedule_limits}
use Rattle.sb_bundle.specs.Spelling.{number_bytes, magic, version, key_bytes, image_bytes, core_bytes, header_bytes, spelling}
use Rattle.sb_bundle.specs.Fields.{Answers, offset, number}
use Rattle.sb_bundle.specs.Reading.{header, image, core_start, bundle, reading}
use Rattle.sb_bundle.proofs.Exact.{Reads, itself, AreAll, Spelled, Then, bind, bind_good, bind_ok, ok_is, test_ok, gives, restated, number_reads, many_reads, input}
use Rattle.sb_bundle.proofs.Parts.{count_reads, magic_reads, version_reads, core_start_reads, image_reads, schedule_reads}

-- ---- the header

record IsHeader (header : Header) : Type 0 where
  pub cores : IsWithin core_limits header.cores
  pub processes : IsWithin process_limits header.processes
  pub frames : IsWithin frame_limits header.frames
  pub keys : IsWithin key_limits header.keys
  pub schedule : IsWithin schedule_limits header.schedule

abbrev counts_bytes : Header → List ℕ → List ℕ
counts_bytes header behind =
    number_bytes 4 (little_number 4 magic)
    ++ (number_bytes 2 version
    ++ (number_bytes 1 header.cores
    ++ (number_bytes 1 header.processes
    ++ (number_bytes 4 header.frames
    ++ (number_bytes 4 header.keys
    ++ (number_bytes 4 header.schedule
    ++ behind))))))

abbrev HeaderSpelled : Header → List ℕ → List ℕ → Type 0
HeaderSpelled header bytes rest = IsHeader header × (bytes ≡ counts_bytes header rest)

abbrev header_then : Header → List ℕ → List ℕ → Type 0
header_then =
    Then (Spelled (λ n. n ≡ little_number 4 magic) (number_bytes 4)) (λ magic.
    Then (Spelled (λ n. n ≡ version) (number_bytes 2)) (λ version.
    Then (Spelled (IsWithin core_limits) (number_bytes 1)) (λ cores.
    Then (Spelled (IsWithin process_limits) (number_bytes 1)) (λ processes.
    Then (Spelled (IsWithin frame_limits) (number_bytes 4)) (λ frames.
    Then (Spelled (IsWithin key_limits) (number_bytes 4)) (λ keys.
    Then (Spelled (IsWithin schedule_limits) (number_bytes 4)) (λ schedule header bytes rest.
    (header ≡ record { cores = cores; processes = processes; frames = frames; keys = keys; schedule = schedule })
    × (bytes ≡ rest))))))))

header_there : (header : Header) (bytes rest : List ℕ) → header_then header bytes rest → HeaderSpelled header bytes rest
header_there header bytes rest good =
    let version = good.3 in
    let cores = version.3 in
    let processes = cores.3 in
    let frames = processes.3 in
    let keys = frames.3 in
    let schedule = keys.3 in
    rw schedule.3.0 (
      record { cores = cores.2.0; processes = processes.2.0; frames = frames.2.0; keys = keys.2.0; schedule = schedule.2.0 },
      good.2.1
          ∙ rw (
            good.2.0,
            version.2.1,
            version.2.0,
            cores.2.1,
            processes.2.1,
            frames.2.1,
            keys.2.1,
            schedule.2.1,
            schedule.3.1,
          ) refl,
    )

header_back : (header : Header) (bytes rest : List ℕ) → HeaderSpelled header bytes rest → header_then header bytes rest
header_back header bytes rest good =
    let t6 : List ℕ = number_bytes 4 header.schedule ++ rest in
    let t5 : List ℕ = number_bytes 4 header.keys ++ t6 in
    let t4 : List ℕ = number_bytes 4 header.frames ++ t5 in
    let t3 : List ℕ = number_bytes 1 header.processes ++ t4 in
    let t2 : List ℕ = number_bytes 1 header.cores ++ t3 in (
      little_number 4 magic,
      number_bytes 2 version ++ t2,
      (refl, good.1),
      (
        version,
        t2,
        (refl, refl),
        (
          header.cores,
          t3,
          (good.0.cores, refl),
          (
            header.processes,
            t4,
            (good.0.processes, refl),
            (
              header.frames,
              t5,
              (good.0.frames, refl),
              (
                header.keys,
                t6,
                (good.0.keys, refl),
                (header.schedule, rest, (good.0.schedule, refl), (refl, refl)),
              ),
            ),
          ),
        ),
      ),
    )

header_reads : Reads HeaderSpelled header
unfolding header
header_reads =
    restated (bind magic_reads (λ magic.
    bind version_reads (λ version.
    bind (count_reads core_limits 1 (omega arith)) (λ cores.
    bind (count_reads process_limits 1 (omega arith)) (λ processes.
    bind (count_reads frame_limits 4 (omega arith)) (λ frames.
    bind (count_reads key_limits 4 (omega arith)) (λ keys.
    bind (count_reads schedule_limits 4 (omega arith)) (λ schedule.
    gives (record { cores = cores; processes = processes; frames = frames; keys = keys; schedule = schedule })))))))))
    header_there header_back

-- ---- the bundle

abbrev bundle_then : Bundle → List ℕ → List ℕ → Type 0
bundle_then =
    Then HeaderSpelled (λ header.
    Then (Spelled (AreAll (λ n. n < 256 ^ 8) header.keys) (flat_map key_bytes)) (λ keys.
    Then (Spelled (AreAll IsImage header.processes) (flat_map image_bytes)) (λ images.
    Then (Spelled (AreAll (IsCoreStart header.processes) header.cores) (flat_map core_bytes)) (λ cores.
    Then (Spelled (AreAll (λ n. n < header.cores) header.schedule) itself) (λ schedule bundle bytes rest.
    (bundle ≡ record { frames = header.frames; keys = keys; images = images; cores = cores; schedule = schedule })
    × (bytes ≡ rest))))))

magic_is : number_bytes 4 (little_number 4 magic) ≡ magic
unfolding number_bytes
magic_is = refl

abbrev header_of : Bundle → Header
header_of bundle =
    record {
      cores = length bundle.cores;
      processes = length bundle.images;
      frames = bundle.frames;
      keys = length bundle.keys;
      schedule = length bundle.schedule;
    }

regrouped : (magic version cores processes frames keys schedule rest : List ℕ)
    → (magic ++ (version ++ (cores ++ (processes ++ (frames ++ (keys ++ schedule)))))) ++ rest
    ≡ magic ++ (version ++ (cores ++ (processes ++ (frames ++ (keys ++ (schedule ++ rest))))))
regrouped magic version cores processes frames keys schedule rest = simp append_assoc refl

abbrev parts_bytes : Bundle → List ℕ → List ℕ
parts_bytes value rest =
    flat_map key_bytes value.keys ++
    (flat_map image_bytes value.images ++ (flat_map core_bytes value.cores ++ (value.schedule ++ rest)))

header-behind : (value : Bundle) (rest : List ℕ) → header_bytes value ++ rest ≡ counts_bytes (header_of value) rest
unfolding header_bytes
header-behind value rest =
    rw magic_is
    (regrouped magic (number_bytes 2 version) (number_bytes 1 (length value.cores)) (number_bytes 1 (length value.images))
    (number_bytes 4 value.frames) (number_bytes 4 (length value.keys)) (number_bytes 4 (length value.schedule)) rest)

spelling-behind : (value : Bundle) (rest : List ℕ)
    → spelling value ++ rest ≡ counts_bytes (header_of value) (parts_bytes value rest)
unfolding spelling
spelling-behind value rest = simp append_assoc (header-behind value (parts_bytes value rest))

bundle_there : (bundle : Bundle) (bytes rest : List ℕ) → bundle_then bundle bytes rest
    → Spelled IsBundle spelling bundle bytes rest
bundle_there value bytes rest good =
    let head = good.2.0 in
    let keys = good.3 in
    let images = keys.3 in
    let cores = images.3 in
    let schedule = cores.3 in
    let made : Bundle =
    record { frames = good.0.frames; keys = keys.0; images = images.0; cores = cores.0; schedule = schedule.0 } in
    let behind : counts_bytes good.0 good.1 ≡ counts_bytes (header_of made) (parts_bytes made rest) =
    rw (
      keys.2.1,
      images.2.1,
      cores.2.1,
      schedule.2.1,
      schedule.3.1,
      keys.2.0.0,
      images.2.0.0,
      cores.2.0.0,
      schedule.2.0.0,
    ) refl in
    rw schedule.3.0 (
      record {
        frames = head.frames;
        key_count = rw keys.2.0.0 head.keys;
        keys = keys.2.0.1;
        process_count = rw images.2.0.0 head.processes;
        images = images.2.0.1;
        core_count = rw cores.2.0.0 head.cores;
        cores = rw images.2.0.0 cores.2.0.1;
        schedule_length = rw schedule.2.0.0 head.schedule;
        schedule = rw cores.2.0.0 schedule.2.0.1;
      },
      good.2.1 ∙ behind ∙ sym (spelling-behind made rest),
    )

bundle_back : (bundle : Bundle) (bytes rest : List ℕ) → Spelled IsBundle spelling bundle bytes rest
    → bundle_then bundle bytes rest
bundle_back bundle bytes rest good =
    let t3 : List ℕ = bundle.schedule ++ rest in
    let t2 : List ℕ = flat_map core_bytes bundle.cores ++ t3 in
    let t1 : List ℕ = flat_map image_bytes bundle.images ++ t2 in
    let t0 : List ℕ = flat_map key_bytes bundle.keys ++ t1 in
    let is = good.0 in
    let regrouped : bytes ≡ counts_bytes (header_of bundle) t0 = good.1 ∙ spelling-behind bundle rest in (
      header_of bundle,
      t0,
      (
        record {
          cores = is.core_count;
          processes = is.process_count;
          frames = is.frames;
          keys = is.key_count;
          schedule = is.schedule_length;
        },
        regrouped,
      ),
      (
        bundle.keys,
        t1,
        ((refl, is.keys), refl),
        (
          bundle.images,
          t2,
          ((refl, is.images), refl),
          (
            bundle.cores,
            t3,
            ((refl, is.cores), refl),
            (bundle.schedule, rest, ((refl, is.schedule), refl), (refl, refl)),
          ),
        ),
      ),
    )

bundle_reads : Reads (Spelled IsBundle spelling) bundle
unfolding bundle
bundle_reads =
    restated (bind_good header_reads (λ header bytes behind good.
    bind (many_reads (λ n. n < 256 ^ 8) key_bytes (number 8) (number_reads 8) header.keys) (λ keys.
    bind (many_reads IsImage image_bytes image image_reads header.processes) (λ images.
    bind (many_reads (IsCoreStart header.processes) core_bytes (core_start header.processes)
    (core_start_reads header.processes (omega (arith, good.0.processes.1))) header.cores) (λ cores.
    bind (schedule_reads header.cores header.schedule (omega (arith, good.0.cores.1))) (λ schedule.
    gives (record { frames = header.frames; keys = keys; images = images; cores = cores; schedule = schedule })))))))
    bundle_there bundle_back

-- ---- all of the bytes

-- what is read is spelled so
pub reading_takes : (bytes : List ℕ) (value : Bundle) → AllBelow 256 bytes → reading bytes ≡ Ok value
    → IsBundle value × (bytes ≡ spelling value)
unfolding reading
reading_takes bytes value fits e =
    let a = bind_ok (bundle (input (length bytes) bytes)) _ value e in
    let test = test_ok (eqb (length a.0.1.rest) 0) (Trailing (offset a.0.1)) a.0.0 value a.2 in
    let one = bundle_reads.takes (input (length bytes) bytes) a.0.0 a.0.1 fits a.1 in
    let nothing : a.0.1.rest ≡ [] = nil_from_length a.0.1.rest (eqb-true _ _ test.0) in
    let whole : bytes ≡ spelling a.0.0 =
    one.0.1 ∙ ap (λ (rest : List ℕ). spelling a.0.0 ++ rest) nothing ∙ append-nil (spelling a.0.0) in
    subst (λ (v : Bundle). IsBundle v × (bytes ≡ spelling v)) test.1 (one.0.0, whole)

-- what is spelled so is read
pub reading_again : (value : Bundle) → IsBundle value → reading (spelling value) ≡ Ok value
unfolding reading
reading_again value good =
    let one = bundle_reads.again (length (spelling value)) value (spelling value) [] (good, sym (append-nil (spelling value))) in
    rw one refl

pub is_found : (bytes : List ℕ) (result : Result Bundle BundleRefusal) → AllBelow 256 bytes → Answers result (reading bytes)
    → IfOk result (λ value. IsBundle value × (bytes ≡ spelling value))
is_found bytes (Ok value) fits given = reading_takes bytes value fits given
is_found bytes (Err refusal) fits given = tt

-- no two bundles have one spelling
pub same_spelling : (a b : Bundle) → IsBundle a → IsBundle b → spelling a ≡ spelling b → a ≡ b
same_spelling a b good_a good_b e =
    ok_is a b (sym (reading_again a good_a) ∙ ap reading e ∙ reading_again b good_b)
