-- How a text is rewritten, and why and where it cannot be.
use Rattle.std.specs.Prelude.{◌≡◌, ◌≢◌, ℕ, ◌+◌, ◌<◌, ◌≤◌, List, ◌∷◌, ◌++◌, length, Result, Ok, Err}
use Rattle.std.specs.List.{AllByRecursion}
use Rattle.sb_insn.specs.declared.insn.Insn.{Insn}
use Rattle.sb_forms.specs.declared.answer.Form.TheVariants as form
use Rattle.sb_rewrite.specs.declared.refusal.RewriteRefusal.{RewriteRefusal}
use Rattle.sb_rewrite.specs.declared.refusal.RewriteRefusal.TheVariants.{Undecoded, BadTarget, Unmovable, AreaFull, Memory}
use Rattle.sb_rewrite.specs.Listing.{text_address, spelled_bytes, AllValid, IsUndecodedAt}
use Rattle.sb_rewrite.specs.Target.{direct_target, IsBadTarget}
use Rattle.sb_forms.specs.Answers.{IsClean, area_end}
use Rattle.sb_rewrite.specs.Placing.{Placement, slot_bytes, places}
use Rattle.sb_rewrite.specs.RewrittenText.{RewrittenText, rewritten_text, starts_of, RunsAt, IsBetween}

-- ---- what is wrong with an instruction

-- it is a direct jump or call that leads neither to a start of the text nor into the trampoline
abbrev pub HasBadTarget : List ℕ → Placement → Type 0
HasBadTarget starts place = IsBadTarget starts (direct_target place.insn place.at)

-- nothing can stand in its place
abbrev pub IsUnmovable : Placement → Type 0
IsUnmovable place = place.form ≡ form.Unmovable

-- its slot would end behind the area
abbrev pub EndsBehindArea : Placement → Type 0
EndsBehindArea place = area_end < place.slot + length (slot_bytes place.form)

-- ---- the first one, or none

-- of none of these it holds
abbrev pub NoneOf : (Placement → Type 0) → List Placement → Type 0
NoneOf Holds places = AllByRecursion (λ place. ¬ Holds place) places

-- the first of these of which it holds stands at this address
pub record IsFirstAt (Holds : Placement → Type 0) (places : List Placement) (at : ℕ) : Type 0 where
  pub before : List Placement
  pub first : Placement
  pub behind : List Placement
  pub parts : places ≡ before ++ first ∷ behind
  pub none : NoneOf Holds before
  pub holds : Holds first
  pub here : at ≡ first.at

-- ---- texts

-- instructions spell the text from its first byte to its last, and these are their places
pub record ArePlaces (text : List ℕ) (of_text : List Placement) : Type 0 where
  pub insns : List Insn
  pub valid : AllValid insns
  pub whole : text ≡ spelled_bytes insns
  pub places_are : of_text ≡ places text insns

-- each direct jump and call leads where it may
abbrev pub LeadsWell : List Placement → Type 0
LeadsWell places = NoneOf (HasBadTarget (starts_of places)) places

-- and each instruction can be replaced
abbrev pub IsMovable : List Placement → Type 0
IsMovable places = LeadsWell places × NoneOf IsUnmovable places

-- and the slots have room in the area
abbrev pub FitsArea : List Placement → Type 0
FitsArea places = IsMovable places × NoneOf EndsBehindArea places

-- What rewriting answers. The cases exclude each other, but for want of memory.
abbrev pub Rewrites : List ℕ → Result RewrittenText RewriteRefusal → Type 0
Rewrites text (Ok made) = (of_text : List Placement) × ArePlaces text of_text × FitsArea of_text × (made ≡ rewritten_text of_text)
Rewrites text (Err (Undecoded at)) = IsUndecodedAt text at
Rewrites text (Err (BadTarget at)) =
    (of_text : List Placement) × ArePlaces text of_text × IsFirstAt (HasBadTarget (starts_of of_text)) of_text at
Rewrites text (Err (Unmovable at)) =
    (of_text : List Placement) × ArePlaces text of_text × LeadsWell of_text × IsFirstAt IsUnmovable of_text at
Rewrites text (Err (AreaFull at)) =
    (of_text : List Placement) × ArePlaces text of_text × IsMovable of_text × IsFirstAt EndsBehindArea of_text at
Rewrites text (Err Memory) = Unit {0}

-- ---- the bytes of VMFUNC

-- They stand neither in the text nor in the area, and bytes CC around one of them do not make them.
abbrev pub IsFree : RewrittenText → Type 0
IsFree made = IsClean made.text × IsClean made.area

-- they stand nowhere in what a text becomes
abbrev pub LeavesNone : Type 0
LeavesNone = (text : List ℕ) (made : RewrittenText) → length text ≤ 2097152 → Rewrites text (Ok made) → IsFree made

-- ---- how long what is made is

-- what a text becomes has as many bytes as the text
abbrev pub KeepsLength : Type 0
KeepsLength = (text : List ℕ) (made : RewrittenText) → Rewrites text (Ok made) → length made.text ≡ length text

-- ---- where instructions start

-- each start of what a text becomes is the address of one of the text's bytes
abbrev pub StartsStandInText : Type 0
StartsStandInText =
    (text : List ℕ) (made : RewrittenText) → Rewrites text (Ok made)
    → AllByRecursion (IsBetween text_address (text_address + length text)) made.starts

-- ---- why the answer is the only one

-- a text has one answer, but for want of memory
abbrev pub OneRewriting : Type 0
OneRewriting =
    (text : List ℕ) (first second : Result RewrittenText RewriteRefusal) → first ≢ Err Memory → second ≢ Err Memory
    → Rewrites text first
    → Rewrites text second
    → first ≡ second

-- one original instruction at most runs at an address
abbrev pub OneOriginal : Type 0
OneOriginal = (text : List ℕ) (made : RewrittenText) (at first second : ℕ) → Rewrites text (Ok made) → RunsAt made at first
    → RunsAt made at second → first ≡ second
