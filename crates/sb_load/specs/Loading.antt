-- Which bundles may be loaded, and why one may not: its texts first, then its entries, then its frames.
use Rattle.std.specs.Prelude.{◌≡◌, ◌≢◌, ℕ, ◌<◌, ◌≤◌, List, [], ◌∷◌, ◌++◌, length, Contains, unwrap_or, slice_get, Result, Ok, Err}
use Rattle.std.specs.Prelude.{Option, Some, None}
use Rattle.std.specs.List.{AllByRecursion}
use Rattle.sb_bundle.specs.declared.bundle.Bundle.{Bundle}
use Rattle.sb_bundle.specs.declared.bundle.Image.{Image}
use Rattle.sb_bundle.specs.declared.bundle.CoreStart.{CoreStart}
use Rattle.sb_bundle.specs.Limits.{IsBundle}
use Rattle.sb_rewrite.specs.declared.refusal.RewriteRefusal.{RewriteRefusal}
use Rattle.sb_rewrite.specs.declared.refusal.RewriteRefusal.TheVariants as cause
use Rattle.sb_rewrite.specs.RewrittenText.{RewrittenText, rewritten_text}
use Rattle.sb_rewrite.specs.Rewriting.{Rewrites}
use Rattle.sb_load.specs.declared.refusal.LoadRefusal.{LoadRefusal}
use Rattle.sb_load.specs.declared.refusal.LoadRefusal.TheVariants.{Process, BadEntry, NoFrames, Memory}
use Rattle.sb_load.specs.Need.{need_of, have_of}

-- the text of each image can be rewritten, and this is what it becomes
abbrev pub AreRewritten : List Image → List RewrittenText → Type 0
AreRewritten [] [] = Unit {0}
AreRewritten (image ∷ images) (made ∷ others) = Rewrites image.text (Ok made) × AreRewritten images others
AreRewritten [] (made ∷ others) = ⊥
AreRewritten (image ∷ images) [] = ⊥

-- the text of an image that may be absent
abbrev pub text_in : Option Image → List ℕ
text_in None = []
text_in (Some image) = image.text

-- the text of a process, as it came
abbrev pub text_of : List Image → ℕ → List ℕ
text_of images process = text_in (slice_get images process)

-- what an empty text becomes
abbrev pub nothing : RewrittenText
nothing = rewritten_text []

-- what the text of a process becomes
abbrev pub rewritten_of : List RewrittenText → ℕ → RewrittenText
rewritten_of rewritten process = unwrap_or (slice_get rewritten process) nothing

-- the core starts at an instruction of its process
abbrev pub HasEntry : List RewrittenText → CoreStart → Type 0
HasEntry rewritten core = Contains (rewritten_of rewritten core.process).starts core.entry

-- the texts before that of this process can be rewritten, and its own cannot, for this cause
abbrev pub IsFirstRefused : List Image → ℕ → RewriteRefusal → Type 0
IsFirstRefused images process why =
    (before : List Image) × (image : Image) × (after : List Image) × (images ≡ before ++ image ∷ after)
    × (process ≡ length before)
    × (rewritten : List RewrittenText) × AreRewritten before rewritten × Rewrites image.text (Err why) × (why ≢ cause.Memory)

-- the cores before this one start at instructions, and this one at another address
abbrev pub IsFirstBadEntry : List RewrittenText → List CoreStart → ℕ → ℕ → Type 0
IsFirstBadEntry rewritten cores core at =
    (before : List CoreStart) × (first : CoreStart) × (after : List CoreStart) × (cores ≡ before ++ first ∷ after)
    × (core ≡ length before)
    × AllByRecursion (HasEntry rewritten) before × ¬ HasEntry rewritten first × (at ≡ first.entry)

-- there are fewer frames than the bundle takes
abbrev pub LacksFrames : Bundle → List RewrittenText → ℕ → ℕ → Type 0
LacksFrames bundle rewritten need have = (need ≡ need_of bundle rewritten) × (have ≡ have_of bundle) × (have < need)

-- what a loaded bundle is to contracts: the bundle, and for each process what its text becomes
pub record Load : Type 0 where
  pub bundle : Bundle
  pub rewritten : List RewrittenText

-- the bundle may be loaded
pub record IsLoadable (load : Load) : Type 0 where
  pub grammar : IsBundle load.bundle
  pub texts : AreRewritten load.bundle.images load.rewritten
  pub entries : AllByRecursion (HasEntry load.rewritten) load.bundle.cores
  pub enough : need_of load.bundle load.rewritten ≤ have_of load.bundle

-- the rewritten text of each process has as many bytes as its text, so it takes as many pages
abbrev pub AreAsLong : Load → Type 0
AreAsLong load =
    (process : ℕ) → length (rewritten_of load.rewritten process).text ≡ length (text_of load.bundle.images process)

-- What loading answers. The cases exclude each other, but for want of memory.
abbrev pub Loads : Bundle → Result Load LoadRefusal → Type 0
Loads bundle (Ok load) = (load.bundle ≡ bundle) × IsLoadable load
Loads bundle (Err (Process process why)) = IsFirstRefused bundle.images process why
Loads bundle (Err (BadEntry core at)) =
    (rewritten : List RewrittenText) × AreRewritten bundle.images rewritten × IsFirstBadEntry rewritten bundle.cores core at
Loads bundle (Err (NoFrames need have)) =
    (rewritten : List RewrittenText) × AreRewritten bundle.images rewritten × AllByRecursion (HasEntry rewritten) bundle.cores
    × LacksFrames bundle rewritten need have
Loads bundle (Err Memory) = Unit {0}

-- a bundle has one answer, but for want of memory
abbrev pub OneAnswer : Type 0
OneAnswer =
    (bundle : Bundle) (first second : Result Load LoadRefusal) → first ≢ Err Memory → second ≢ Err Memory → Loads bundle first
    → Loads bundle second
    → first ≡ second
