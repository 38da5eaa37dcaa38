-- Bytes that lead to one answer lead to no other one, said of the source that told them.
use Rattle.std.proofs.Common.{◌≡◌, ◌≢◌, ℕ, List, Option, Some, None, Result, Ok, Err, refl, ap, sym, ◌∙◌, subst}
use Rattle.std.specs.Prelude.{IfErr, IsErrAnd}
use Rattle.sb_port.specs.Port.{ReadWhole}
use Rattle.sb_bundle.specs.declared.bundle.Bundle.{Bundle}
use Rattle.sb_bundle.specs.declared.refusal.BundleRefusal.{BundleRefusal}
use Rattle.sb_bundle.specs.Reading.{reading}
use Rattle.sb_bundle.proofs.Whole.{reading_again, same_spelling}
use Rattle.sb_load.specs.declared.refusal.LoadRefusal.{LoadRefusal}
use Rattle.sb_load.specs.declared.refusal.LoadRefusal.TheVariants.{Memory}
use Rattle.sb_load.specs.Loading.{Load, IsLoadable, Loads}
use Rattle.sb_load.proofs.OneAnswer.{one_answer}
use Rattle.sb_input.specs.declared.input.InputRefusal.{InputRefusal}
use Rattle.sb_input.specs.declared.input.InputRefusal.TheVariants as refusal
use Rattle.sb_input.specs.Told.{IsTold}
use Rattle.sb_input.specs.Input.{SomeNoBundle, SomeNotLoadable, SomeAccepted}
use Rattle.sb_input.specs.Cause.{SpellsBundle, LeadsTo, IsBundleOrMemory, IsLoadOrMemory, IsMemory}

-- what was loaded, or why there is nothing
abbrev pub Answer : Type 0
Answer = Result Load InputRefusal

-- ---- the bytes

not_both : (bundle : Bundle) (why : BundleRefusal) (read : Result Bundle BundleRefusal) → read ≡ Ok bundle → ¬ (read ≡ Err why)
not_both bundle why (Ok other) is refused = absurd cc
not_both bundle why (Err other) is refused = absurd cc

-- what spells a bundle is not refused as none
is_read : (bytes : List ℕ) (bundle : Bundle) (why : BundleRefusal) → SpellsBundle bytes bundle → ¬ (reading bytes ≡ Err why)
is_read bytes bundle why (good, parts) refused =
    not_both bundle why (reading bytes) (ap reading parts ∙ reading_again bundle good) refused

one_bundle : (bytes : List ℕ) (first second : Bundle) → SpellsBundle bytes first → SpellsBundle bytes second → first ≡ second
one_bundle bytes first second (good, parts) (good', parts') = same_spelling first second good good' (sym parts ∙ parts')

not_loaded : (load : Load) (why : LoadRefusal) (answer : Result Load LoadRefusal) → answer ≡ Ok load → ¬ (answer ≡ Err why)
not_loaded load why (Ok other) is refused = absurd cc
not_loaded load why (Err other) is refused = absurd cc

no_lack : (why : LoadRefusal) (answer : Result Load LoadRefusal) → answer ≡ Err why → why ≢ Memory → answer ≢ Err Memory
no_lack why (Ok load) is some lack = absurd cc
no_lack why (Err other) is some lack = absurd (some cc)

-- what can be loaded is not refused by the loader
is_loaded : (bytes : List ℕ) (load : Load) (bundle : Bundle) (why : LoadRefusal) → SpellsBundle bytes load.bundle
    → IsLoadable load → SpellsBundle bytes bundle → Loads bundle (Err why) → ¬ (why ≢ Memory)
is_loaded bytes load bundle why spelled loadable spelled' refused some =
    let loads = subst (λ (one : Bundle). Loads one (Err why)) (one_bundle bytes bundle load.bundle spelled' spelled) refused in
    let loaded : Result Load LoadRefusal = Ok load in
    let failed : Result Load LoadRefusal = Err why in
    not_loaded load why loaded refl
    (one_answer load.bundle loaded failed (λ lack. not_loaded load Memory loaded refl lack) (no_lack why failed refl some) (
      refl,
      loadable,
    ) loads)

-- the same where the bundle is that of what was loaded
is_loaded_as : (bytes : List ℕ) (load : Load) (one bundle : Bundle) (why : LoadRefusal) → load.bundle ≡ one
    → SpellsBundle bytes one → IsLoadable load → SpellsBundle bytes bundle → Loads bundle (Err why) → ¬ (why ≢ Memory)
is_loaded_as bytes load one bundle why same spelled loadable spelled' refused some =
    is_loaded bytes load bundle why (subst (λ (one : Bundle). SpellsBundle bytes one) (sym same) spelled) loadable spelled'
    refused some

-- ---- the bytes of a source

-- what is claimed of the bytes that are told holds of those that were read
claim_read : (left left' : Option (List ℕ)) (bytes now : List ℕ) (Claim : List ℕ → Type 0) → ReadWhole left left' bytes
    → now ≡ bytes → IsTold left Claim → Claim now
claim_read None left' bytes now Claim read same claim = absurd claim
claim_read (Some old) left' bytes now Claim read same claim = subst Claim (sym (same ∙ read.0)) claim

-- ---- each input has its answer

pub is_no_bundle : (left left' : Option (List ℕ)) (bytes now : List ℕ) (answer : Answer) → ReadWhole left left' bytes
    → now ≡ bytes → LeadsTo now answer → IsTold left SomeNoBundle → IsErrAnd answer IsBundleOrMemory
is_no_bundle left left' bytes now (Ok load) read same (spelled, loadable) claim =
    let (why, bad) = claim_read left left' bytes now SomeNoBundle read same claim in
    is_read now load.bundle why spelled bad.1
is_no_bundle left left' bytes now (Err (refusal.Bundle why)) read same leads claim = tt
is_no_bundle left left' bytes now (Err (refusal.Load why)) read same (bundle, spelled, refused, some) claim =
    let (other, bad) = claim_read left left' bytes now SomeNoBundle read same claim in
    is_read now bundle other spelled bad.1
is_no_bundle left left' bytes now (Err refusal.ReadFault) read same leads claim = leads
is_no_bundle left left' bytes now (Err refusal.TooLong) read same leads claim = leads
is_no_bundle left left' bytes now (Err refusal.Memory) read same leads claim = tt

pub is_not_loadable : (left left' : Option (List ℕ)) (bytes now : List ℕ) (answer : Answer) → ReadWhole left left' bytes
    → now ≡ bytes → LeadsTo now answer → IsTold left SomeNotLoadable → IsErrAnd answer IsLoadOrMemory
is_not_loadable left left' bytes now (Ok load) read same (spelled, loadable) claim =
    let (why, bad) = claim_read left left' bytes now SomeNotLoadable read same claim in
    is_loaded now load bad.0 why spelled loadable (bad.1.1, bad.1.2) bad.2 bad.3
is_not_loadable left left' bytes now (Err (refusal.Bundle why)) read same leads claim =
    let (other, bad) = claim_read left left' bytes now SomeNotLoadable read same claim in
    is_read now bad.0 why (bad.1.1, bad.1.2) leads
is_not_loadable left left' bytes now (Err (refusal.Load why)) read same leads claim = tt
is_not_loadable left left' bytes now (Err refusal.ReadFault) read same leads claim = leads
is_not_loadable left left' bytes now (Err refusal.TooLong) read same leads claim = leads
is_not_loadable left left' bytes now (Err refusal.Memory) read same leads claim = tt

pub is_accepted : (left left' : Option (List ℕ)) (bytes now : List ℕ) (answer : Answer) → ReadWhole left left' bytes
    → now ≡ bytes → LeadsTo now answer → IsTold left SomeAccepted → IfErr answer IsMemory
is_accepted left left' bytes now (Ok load) read same leads claim = tt
is_accepted left left' bytes now (Err (refusal.Bundle why)) read same leads claim =
    let (bundle, spelled, loaded) = claim_read left left' bytes now SomeAccepted read same claim in
    is_read now bundle why spelled leads
is_accepted left left' bytes now (Err (refusal.Load why)) read same (bundle, spelled, refused, some) claim =
    let (one, spelled', (load, of_one, loadable)) = claim_read left left' bytes now SomeAccepted read same claim in
    is_loaded_as now load one bundle why of_one spelled' loadable spelled refused some
is_accepted left left' bytes now (Err refusal.ReadFault) read same leads claim = leads
is_accepted left left' bytes now (Err refusal.TooLong) read same leads claim = leads
is_accepted left left' bytes now (Err refusal.Memory) read same leads claim = tt
