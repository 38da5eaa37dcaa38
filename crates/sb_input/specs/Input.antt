-- What the bytes of an input lead to. At most one of these holds of them.
use Rattle.std.specs.Prelude.{◌≡◌, ◌≢◌, ℕ, ◌≤◌, ◌<◌, List, length, Err}
use Rattle.sb_bundle.specs.declared.bundle.Bundle.{Bundle}
use Rattle.sb_bundle.specs.declared.refusal.BundleRefusal.{BundleRefusal}
use Rattle.sb_bundle.specs.Limits.{IsBundle}
use Rattle.sb_bundle.specs.Spelling.{spelling}
use Rattle.sb_bundle.specs.Reading.{reading}
use Rattle.sb_load.specs.declared.refusal.LoadRefusal.{LoadRefusal}
use Rattle.sb_load.specs.declared.refusal.LoadRefusal.TheVariants.{Memory}
use Rattle.sb_load.specs.Loading.{Load, IsLoadable, Loads}

-- the most bytes of an input: 64 MiB
abbrev pub input_limit : ℕ
input_limit = 67108864

abbrev pub IsTooLong : List ℕ → Type 0
IsTooLong bytes = input_limit < length bytes

-- the bytes spell no bundle, and this is the first refusal
abbrev pub IsNoBundle : List ℕ → BundleRefusal → Type 0
IsNoBundle bytes refusal = (length bytes ≤ input_limit) × (reading bytes ≡ Err refusal)

-- the bytes spell this bundle
abbrev pub Spells : List ℕ → Bundle → Type 0
Spells bytes bundle = (length bytes ≤ input_limit) × IsBundle bundle × (bytes ≡ spelling bundle)

-- the bytes spell a bundle that the loader refuses
abbrev pub IsNotLoadable : List ℕ → LoadRefusal → Type 0
IsNotLoadable bytes refusal = (bundle : Bundle) × Spells bytes bundle × Loads bundle (Err refusal) × (refusal ≢ Memory)

-- the bytes spell this bundle, and the loader accepts it
abbrev pub IsAccepted : List ℕ → Bundle → Type 0
IsAccepted bytes bundle = Spells bytes bundle × ((load : Load) × (load.bundle ≡ bundle) × IsLoadable load)

-- ---- without the bundle or the refusal

abbrev pub SomeNoBundle : List ℕ → Type 0
SomeNoBundle bytes = (refusal : BundleRefusal) × IsNoBundle bytes refusal

abbrev pub SomeNotLoadable : List ℕ → Type 0
SomeNotLoadable bytes = (refusal : LoadRefusal) × IsNotLoadable bytes refusal

-- the bytes spell a bundle that the loader accepts; there are no more of them than an input may have
abbrev pub SomeAccepted : List ℕ → Type 0
SomeAccepted bytes =
    (bundle : Bundle) × (IsBundle bundle × (bytes ≡ spelling bundle))
    × ((load : Load) × (load.bundle ≡ bundle) × IsLoadable load)
