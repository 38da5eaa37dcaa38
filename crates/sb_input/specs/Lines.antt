-- The line of each refusal.
use Rattle.std.specs.Prelude.{ℕ, List, [], ◌++◌, codes}
use Rattle.std.specs.Fmt.{decimal}
use Rattle.sb_bundle.specs.declared.refusal.BundleRefusal.{BundleRefusal}
use Rattle.sb_bundle.specs.declared.refusal.BundleRefusal.TheVariants.{Short, Magic, Version, Count, Range, Trailing, Memory}
use Rattle.sb_load.specs.declared.refusal.LoadRefusal.{LoadRefusal}
use Rattle.sb_load.specs.RefusalText.{refusal_text}

abbrev pub read_fault_line : List ℕ
read_fault_line = codes "read fault\n"

abbrev pub too_long_line : List ℕ
too_long_line = codes "input too long\n"

-- a refusal of the bundle, by name, with the offset of the field
abbrev pub named_at : List ℕ → ℕ → List ℕ
named_at name at = codes "bundle " ++ (name ++ (codes " " ++ (decimal at ++ codes "\n")))

abbrev pub bundle_line : BundleRefusal → List ℕ
bundle_line (Short at) = named_at (codes "Short") at
bundle_line (Magic at) = named_at (codes "Magic") at
bundle_line (Version at) = named_at (codes "Version") at
bundle_line (Count at) = named_at (codes "Count") at
bundle_line (Range at) = named_at (codes "Range") at
bundle_line (Trailing at) = named_at (codes "Trailing") at
bundle_line Memory = []

abbrev pub load_line : LoadRefusal → List ℕ
load_line refusal = refusal_text refusal ++ codes "\n"
