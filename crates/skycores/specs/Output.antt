-- What the program writes.
use Rattle.std.specs.Prelude.{ℕ, List, Option}
use Rattle.sb_port.specs.Port.{Appended}
use Rattle.sb_bundle.specs.declared.refusal.BundleRefusal.{BundleRefusal}
use Rattle.sb_load.specs.declared.refusal.LoadRefusal.{LoadRefusal}
use Rattle.sb_load.specs.Loading.{Load, IsLoadable}
use Rattle.sb_input.specs.Told.{WholeTold, PartlyAppended, WritesLine}
use Rattle.sb_input.specs.Input.{IsAccepted, IsNoBundle, IsNotLoadable}
use Rattle.sb_input.specs.Lines.{bundle_line, load_line}
use Rattle.skycores.specs.declared.words.Run.{Run}
use Rattle.skycores.specs.Words.{AreWordsOf}
use Rattle.skycores.specs.Text.{IsOutput}

-- an accepted bundle was read, if the source tells its bytes, and this is an output of it
abbrev pub IsOutputOfInput : Run → Option (List ℕ) → Option (List ℕ) → List ℕ → Type 0
IsOutputOfInput run left left' text =
    (load : Load) × IsLoadable load × WholeTold left left' (λ bytes. IsAccepted bytes load.bundle) × IsOutput load run text

-- an output of what was loaded was appended to what the sink held
abbrev pub WroteOutput : Load → Run → Option (List ℕ) → Option (List ℕ) → Type 0
WroteOutput load run held held' = (text : List ℕ) × IsOutput load run text × Appended held held' text

-- the same with a prefix of it
abbrev pub WrotePart : Load → Run → Option (List ℕ) → Option (List ℕ) → Type 0
WrotePart load run held held' = (text : List ℕ) × IsOutput load run text × PartlyAppended held held' text

-- an output was appended to what the sink held
abbrev pub Reported : Run → Option (List ℕ) → Option (List ℕ) → Option (List ℕ) → Option (List ℕ) → Type 0
Reported run left left' held held' = (text : List ℕ) × IsOutputOfInput run left left' text × Appended held held' text

-- the same with a prefix of it
abbrev pub PartlyReported : Run → Option (List ℕ) → Option (List ℕ) → Option (List ℕ) → Option (List ℕ) → Type 0
PartlyReported run left left' held held' = (text : List ℕ) × IsOutputOfInput run left left' text × PartlyAppended held held' text

-- the words are a command, whose output was written
abbrev pub Wrote : List (List ℕ) → Option (List ℕ) → Option (List ℕ) → Option (List ℕ) → Option (List ℕ) → Type 0
Wrote words left left' held held' = (run : Run) × AreWordsOf run words × Reported run left left' held held'

abbrev pub PartlyWrote : List (List ℕ) → Option (List ℕ) → Option (List ℕ) → Option (List ℕ) → Option (List ℕ) → Type 0
PartlyWrote words left left' held held' = (run : Run) × AreWordsOf run words × PartlyReported run left left' held held'

-- ---- the refusals that name a place

-- the input is no bundle, and the line of its refusal was written
abbrev pub RefusedBundle : Option (List ℕ) → Option (List ℕ) → Option (List ℕ) → Option (List ℕ) → ℕ → ℕ → Type 0
RefusedBundle left left' held held' faults faults' =
    (why : BundleRefusal) × WholeTold left left' (λ bytes. IsNoBundle bytes why)
    × WritesLine held held' faults faults' (bundle_line why)

-- the bundle cannot be loaded, and the line of its refusal was written
abbrev pub RefusedLoad : Option (List ℕ) → Option (List ℕ) → Option (List ℕ) → Option (List ℕ) → ℕ → ℕ → Type 0
RefusedLoad left left' held held' faults faults' =
    (why : LoadRefusal) × WholeTold left left' (λ bytes. IsNotLoadable bytes why)
    × WritesLine held held' faults faults' (load_line why)
