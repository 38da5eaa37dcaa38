-- What the parts of loading answer.
use Rattle.std.specs.Prelude.{◌≡◌, ℕ, ◌*◌, ◌≤◌, List, length, Result, Ok, Err}
use Rattle.std.specs.List.{AllByRecursion}
use Rattle.sb_abi.specs.declared.space.TheConstants.{AREA_PAGES}
use Rattle.sb_memory.specs.declared.page.TheConstants.{PAGE_SIZE}
use Rattle.sb_bundle.specs.declared.bundle.Bundle.{Bundle}
use Rattle.sb_bundle.specs.declared.bundle.Image.{Image}
use Rattle.sb_bundle.specs.declared.bundle.CoreStart.{CoreStart}
use Rattle.sb_rewrite.specs.declared.refusal.RewriteRefusal.{RewriteRefusal}
use Rattle.sb_rewrite.specs.declared.refusal.RewriteRefusal.TheVariants as cause
use Rattle.sb_rewrite.specs.RewrittenText.{RewrittenText}
use Rattle.sb_load.specs.declared.refusal.LoadRefusal.{LoadRefusal}
use Rattle.sb_load.specs.declared.refusal.LoadRefusal.TheVariants.{Process, BadEntry, NoFrames, Memory}
use Rattle.sb_load.specs.Need.{need_of, have_of}
use Rattle.sb_load.specs.Loading.{AreRewritten, HasEntry, IsFirstRefused, IsFirstBadEntry, LacksFrames}

-- the text of a process is refused, for want of memory too
abbrev pub refusal_of : ℕ → RewriteRefusal → LoadRefusal
refusal_of process (cause.Undecoded at) = Process process (cause.Undecoded at)
refusal_of process (cause.BadTarget at) = Process process (cause.BadTarget at)
refusal_of process (cause.Unmovable at) = Process process (cause.Unmovable at)
refusal_of process (cause.AreaFull at) = Process process (cause.AreaFull at)
refusal_of process cause.Memory = Memory

-- what each text becomes, or the first text that cannot be rewritten
abbrev pub RewritesTexts : List Image → Result (List RewrittenText) LoadRefusal → Type 0
RewritesTexts images (Ok rewritten) = AreRewritten images rewritten
RewritesTexts images (Err (Process process why)) = IsFirstRefused images process why
RewritesTexts images (Err (BadEntry core at)) = ⊥
RewritesTexts images (Err (NoFrames need have)) = ⊥
RewritesTexts images (Err Memory) = Unit {0}

-- nothing, or the first core that starts elsewhere
abbrev pub ChecksEntries : List RewrittenText → List CoreStart → Result (Unit {0}) LoadRefusal → Type 0
ChecksEntries rewritten cores (Ok done) = AllByRecursion (HasEntry rewritten) cores
ChecksEntries rewritten cores (Err (Process process why)) = ⊥
ChecksEntries rewritten cores (Err (BadEntry core at)) = IsFirstBadEntry rewritten cores core at
ChecksEntries rewritten cores (Err (NoFrames need have)) = ⊥
ChecksEntries rewritten cores (Err Memory) = ⊥

-- the need, where there are as many frames
abbrev pub ChecksFrames : Bundle → List RewrittenText → Result ℕ LoadRefusal → Type 0
ChecksFrames bundle rewritten (Ok need) = (need ≡ need_of bundle rewritten) × (need ≤ have_of bundle)
ChecksFrames bundle rewritten (Err (Process process why)) = ⊥
ChecksFrames bundle rewritten (Err (BadEntry core at)) = ⊥
ChecksFrames bundle rewritten (Err (NoFrames need have)) = LacksFrames bundle rewritten need have
ChecksFrames bundle rewritten (Err Memory) = ⊥

-- a rewrite area of 64 KiB at most
abbrev pub HasSmallArea : RewrittenText → Type 0
HasSmallArea made = length made.area ≤ AREA_PAGES * PAGE_SIZE

abbrev pub AllSmallAreas : List RewrittenText → Type 0
AllSmallAreas rewritten = AllByRecursion HasSmallArea rewritten
