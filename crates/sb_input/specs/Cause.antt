-- From the bytes of an input to what was loaded, or why there is nothing.
use Rattle.std.specs.Prelude.{◌≡◌, ◌≢◌, List, ℕ, Result, Ok, Err, ⊤}
use Rattle.sb_bundle.specs.declared.bundle.Bundle.{Bundle}
use Rattle.sb_bundle.specs.Limits.{IsBundle}
use Rattle.sb_bundle.specs.Spelling.{spelling}
use Rattle.sb_bundle.specs.Reading.{reading}
use Rattle.sb_load.specs.declared.refusal.LoadRefusal.TheVariants as load_refusal
use Rattle.sb_load.specs.Loading.{Load, IsLoadable, Loads}
use Rattle.sb_input.specs.declared.input.InputRefusal.{InputRefusal}
use Rattle.sb_input.specs.declared.input.InputRefusal.TheVariants as refusal

-- the bytes spell this bundle
abbrev pub SpellsBundle : List ℕ → Bundle → Type 0
SpellsBundle bytes bundle = IsBundle bundle × (bytes ≡ spelling bundle)

-- what a bundle leads to
abbrev pub LoadsAs : Bundle → Result Load InputRefusal → Type 0
LoadsAs bundle (Ok load) = Loads bundle (Ok load)
LoadsAs bundle (Err (refusal.Load why)) = Loads bundle (Err why) × (why ≢ load_refusal.Memory)
LoadsAs bundle (Err refusal.ReadFault) = ⊥
LoadsAs bundle (Err refusal.TooLong) = ⊥
LoadsAs bundle (Err (refusal.Bundle why)) = ⊥
LoadsAs bundle (Err refusal.Memory) = ⊤

-- What bytes that were read lead to. The cases exclude each other, but for want of memory.
abbrev pub LeadsTo : List ℕ → Result Load InputRefusal → Type 0
LeadsTo bytes (Ok load) = SpellsBundle bytes load.bundle × IsLoadable load
LeadsTo bytes (Err (refusal.Bundle why)) = reading bytes ≡ Err why
LeadsTo bytes (Err (refusal.Load why)) =
    (bundle : Bundle) × SpellsBundle bytes bundle × Loads bundle (Err why) × (why ≢ load_refusal.Memory)
LeadsTo bytes (Err refusal.ReadFault) = ⊥
LeadsTo bytes (Err refusal.TooLong) = ⊥
LeadsTo bytes (Err refusal.Memory) = ⊤

-- ---- a refusal of one kind, or want of memory

abbrev pub IsLengthOrMemory : InputRefusal → Type 0
IsLengthOrMemory refusal.ReadFault = ⊥
IsLengthOrMemory refusal.TooLong = ⊤
IsLengthOrMemory (refusal.Bundle why) = ⊥
IsLengthOrMemory (refusal.Load why) = ⊥
IsLengthOrMemory refusal.Memory = ⊤

abbrev pub IsBundleOrMemory : InputRefusal → Type 0
IsBundleOrMemory refusal.ReadFault = ⊥
IsBundleOrMemory refusal.TooLong = ⊥
IsBundleOrMemory (refusal.Bundle why) = ⊤
IsBundleOrMemory (refusal.Load why) = ⊥
IsBundleOrMemory refusal.Memory = ⊤

abbrev pub IsLoadOrMemory : InputRefusal → Type 0
IsLoadOrMemory refusal.ReadFault = ⊥
IsLoadOrMemory refusal.TooLong = ⊥
IsLoadOrMemory (refusal.Bundle why) = ⊥
IsLoadOrMemory (refusal.Load why) = ⊤
IsLoadOrMemory refusal.Memory = ⊤

abbrev pub IsMemory : InputRefusal → Type 0
IsMemory refusal.ReadFault = ⊥
IsMemory refusal.TooLong = ⊥
IsMemory (refusal.Bundle why) = ⊥
IsMemory (refusal.Load why) = ⊥
IsMemory refusal.Memory = ⊤
