-- What one turn of a rewriter's loop does: an instruction is decoded, and what stands in its place is put.
use Rattle.std.specs.Prelude.{◌≡◌, ℕ, ◌+◌, ◌-◌, ◌≤◌, Bool, ◌&&◌, nat_le, nat_lt, if◌then◌else◌, List, [], ◌∷◌, ◌++◌, length, All, Contains, Option, Some, None, Result, Ok, Err}
use Rattle.sb_insn.specs.declared.insn.Insn.{Insn}
use Rattle.sb_insn.specs.Spelling.{spelling}
use Rattle.sb_insn.specs.Grammar.{IsValid, BeginsWith}
use Rattle.sb_rewrite.specs.declared.text_insn.TextInsn.{TextInsn}
use Rattle.sb_rewrite.specs.declared.refusal.RewriteRefusal.{RewriteRefusal}
use Rattle.sb_rewrite.specs.declared.refusal.RewriteRefusal.TheVariants.{Undecoded, BadTarget, Unmovable, AreaFull, Memory}
use Rattle.sb_rewrite.specs.declared.target.Jump.{Jump}
use Rattle.sb_rewrite.specs.Listing.{text_address, IsUndecodedAt}
use Rattle.sb_rewrite.specs.Target.{direct_target}
use Rattle.sb_abi.specs.declared.space.TheConstants.{TEXT_ADDRESS}
use Rattle.sb_forms.specs.Places.{text_end, IsPermitted, text_end}
use Rattle.sb_forms.specs.declared.answer.Form.{Form}
use Rattle.sb_forms.specs.declared.answer.Form.TheVariants as form
use Rattle.sb_rewrite.specs.Placing.{Placement, area_address, place}
use Rattle.sb_rewrite.specs.RewrittenText.{RewrittenText, rewritten_text, starts_of, text_bytes, area_bytes, edits_of, moves_of, text_from_parts}
use Rattle.sb_rewrite.specs.Slots.{slots_of, passes_of, vmfuncs_of}
use Rattle.sb_rewrite.specs.Rewriting.{HasBadTarget, IsUnmovable, EndsBehindArea, NoneOf, IsFirstAt, ArePlaces, LeadsWell, FitsArea}

-- ---- an instruction

-- the first instruction of the rest of a text
pub record IsFirstInsn (text rest : List ℕ) (text_insn : TextInsn) : Type 0 where
  pub valid : IsValid text_insn.insn
  pub bytes : text_insn.bytes.now ≡ spelling text_insn.insn
  pub parts : rest ≡ spelling text_insn.insn ++ text_insn.rest.now
  pub here : text_insn.at ≡ text_address + (length text - length rest)

abbrev pub DecodesFirst : List ℕ → List ℕ → Result TextInsn RewriteRefusal → Type 0
DecodesFirst text rest (Ok text_insn) = IsFirstInsn text rest text_insn
DecodesFirst text rest (Err refusal) =
    (refusal ≡ Undecoded (text_address + (length text - length rest))) × ((insn : Insn) → ¬ BeginsWith rest insn)

-- a whole instruction of a text
pub record IsTextInsn (text_insn : TextInsn) : Type 0 where
  pub valid : IsValid text_insn.insn
  pub bytes : text_insn.bytes.now ≡ spelling text_insn.insn
  pub here : text_insn.at ≤ text_end

-- ---- what stands in its place

abbrev pub keep : Form
keep = form.Keep

abbrev pub in_place : List ℕ → Form
in_place bytes = form.InPlace bytes

abbrev pub moved : List ℕ → List ℕ → List ℕ → Form
moved pre main post = form.Moved pre main post

-- nothing is put yet
abbrev pub started : RewrittenText
started = text_from_parts [] [] [] [] [] [] [] []

-- an instruction with this in its place, and the slot that comes next
abbrev pub next_place : RewrittenText → Insn → ℕ → Form → Placement
next_place old insn at form = record { insn = insn; at = at; slot = area_address + length old.area; form = form }

-- an instruction of a text with what the table of forms puts in its place, and the slot that comes next
abbrev pub place_by_table : List ℕ → RewrittenText → TextInsn → Placement
place_by_table text old text_insn = place text text_insn.at (area_address + length old.area) text_insn.insn

-- one more instruction starts
abbrev pub with_start : RewrittenText → ℕ → RewrittenText
with_start old at = record old { starts = old.starts ++ at ∷ [] }

-- what stands in its place is put
abbrev pub with_place : RewrittenText → Placement → RewrittenText
with_place old place = record {
  text = old.text ++ text_bytes place;
  area = old.area ++ area_bytes place;
  starts = old.starts;
  edits = old.edits ++ edits_of place;
  moves = old.moves ++ moves_of place;
  slots = old.slots ++ slots_of place;
  passes = old.passes ++ passes_of place;
  vmfuncs = old.vmfuncs ++ vmfuncs_of place;
}

abbrev pub Puts : RewrittenText → RewrittenText → Placement → Result (Unit {0}) RewriteRefusal → Type 0
Puts old new place (Ok done) = ¬ IsUnmovable place × ¬ EndsBehindArea place × (new ≡ with_place old place)
Puts old new place (Err (Undecoded at)) = ⊥
Puts old new place (Err (BadTarget at)) = ⊥
Puts old new place (Err (Unmovable at)) = (at ≡ place.at) × IsUnmovable place
Puts old new place (Err (AreaFull at)) = (at ≡ place.at) × ¬ IsUnmovable place × EndsBehindArea place
Puts old new place (Err Memory) = Unit {0}

-- ---- where a direct jump or call leads before all starts are known

-- an address that a text can have
abbrev pub is_in_text : ℕ → Bool
is_in_text address = nat_le TEXT_ADDRESS address && nat_lt address text_end

-- there is a target, and it is neither such an address nor in the trampoline
abbrev pub IsFar : Option ℕ → Type 0
IsFar None = ⊥
IsFar (Some target) = ¬ IsPermitted target

-- the jump at this address, if it leads to such an address
abbrev pub jumps_to : ℕ → Option ℕ → List Jump
jumps_to at None = []
jumps_to at (Some target) = if is_in_text target then record { at = at; target = target } ∷ [] else []

-- a jump that leads into the text is remembered, and one that leads far away is refused
abbrev pub Remembers : List Jump → List Jump → TextInsn → Result (Unit {0}) RewriteRefusal → Type 0
Remembers old new text_insn (Ok done) =
    ¬ IsFar (direct_target text_insn.insn text_insn.at)
    × (new ≡ old ++ jumps_to text_insn.at (direct_target text_insn.insn text_insn.at))
Remembers old new text_insn (Err (BadTarget at)) = IsFar (direct_target text_insn.insn text_insn.at)
Remembers old new text_insn (Err Memory) = Unit {0}
Remembers old new text_insn (Err (Undecoded at)) = ⊥
Remembers old new text_insn (Err (Unmovable at)) = ⊥
Remembers old new text_insn (Err (AreaFull at)) = ⊥

-- all remembered jumps lead to starts, or one does not
abbrev pub ChecksJumps : List Jump → List ℕ → Result (Unit {0}) RewriteRefusal → Type 0
ChecksJumps jumps starts (Ok done) = All (λ jump. Contains starts jump.target) jumps
ChecksJumps jumps starts (Err (BadTarget at)) = (jump : Jump) × Contains jumps jump × ¬ Contains starts jump.target
ChecksJumps jumps starts (Err (Undecoded at)) = ⊥
ChecksJumps jumps starts (Err (Unmovable at)) = ⊥
ChecksJumps jumps starts (Err (AreaFull at)) = ⊥
ChecksJumps jumps starts (Err Memory) = ⊥

-- ---- a whole text

-- each direct jump and call of the text leads where it may
abbrev pub JumpsLeadWell : List ℕ → Type 0
JumpsLeadWell text = (of_text : List Placement) × ArePlaces text of_text × LeadsWell of_text

-- the first of the text's instructions of which it holds stands at this address
abbrev pub IsFirstOf : (List Placement → Placement → Type 0) → List ℕ → ℕ → Type 0
IsFirstOf Holds text at = (of_text : List Placement) × ArePlaces text of_text × IsFirstAt (Holds of_text) of_text at

abbrev pub ChecksTargets : List ℕ → Result (Unit {0}) RewriteRefusal → Type 0
ChecksTargets text (Ok done) = JumpsLeadWell text
ChecksTargets text (Err (BadTarget at)) = IsFirstOf (λ of_text. HasBadTarget (starts_of of_text)) text at
ChecksTargets text (Err (Undecoded at)) = ⊥
ChecksTargets text (Err (Unmovable at)) = ⊥
ChecksTargets text (Err (AreaFull at)) = ⊥
ChecksTargets text (Err Memory) = ⊥

-- something can stand in place of each instruction of the text
abbrev pub AllMovable : List ℕ → Type 0
AllMovable text = (of_text : List Placement) × ArePlaces text of_text × NoneOf IsUnmovable of_text

abbrev pub ChecksMovable : List ℕ → Result (Unit {0}) RewriteRefusal → Type 0
ChecksMovable text (Ok done) = AllMovable text
ChecksMovable text (Err (Unmovable at)) = IsFirstOf (λ of_text. IsUnmovable) text at
ChecksMovable text (Err (Undecoded at)) = ⊥
ChecksMovable text (Err (BadTarget at)) = ⊥
ChecksMovable text (Err (AreaFull at)) = ⊥
ChecksMovable text (Err Memory) = ⊥

-- What stands in place of the instructions, where it all can be put.
abbrev pub IsAllPut : List ℕ → RewrittenText → Type 0
IsAllPut text draft = (of_text : List Placement) × ArePlaces text of_text × FitsArea of_text × (draft ≡ rewritten_text of_text)

-- Why it cannot. Another cause may come first: what stands behind the address was not looked at.
abbrev pub IsPutRefusal : List ℕ → RewriteRefusal → Type 0
IsPutRefusal text (Undecoded at) = IsUndecodedAt text at
IsPutRefusal text (BadTarget at) = ¬ JumpsLeadWell text
IsPutRefusal text (Unmovable at) = ¬ AllMovable text
IsPutRefusal text (AreaFull at) = (of_text : List Placement) → ArePlaces text of_text → IsFirstAt EndsBehindArea of_text at
IsPutRefusal text Memory = Unit {0}

abbrev pub PutsAll : List ℕ → Result RewrittenText RewriteRefusal → Type 0
PutsAll text (Ok draft) = IsAllPut text draft
PutsAll text (Err refusal) = IsPutRefusal text refusal
