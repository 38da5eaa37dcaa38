-- A text whose instructions all stay as they are.
use Rattle.std.specs.Prelude.{◌≡◌, ℕ, ◌+◌, Bool, false, List, [], ◌∷◌, length, Ok}
use Rattle.std.specs.List.{AllByRecursion}
use Rattle.std.proofs.Common.{refl, sym, ap, arith}
use Rattle.sb_insn.specs.declared.insn.Insn.{Insn}
use Rattle.sb_insn.specs.Spelling.{spelling}
use Rattle.sb_scan.specs.Holding.{holds_pattern}
use Rattle.sb_forms.specs.declared.answer.Form.TheVariants as form
use Rattle.sb_forms.specs.Table.{is_vmfunc, is_add_esp_edx, replacement, form_of}
use Rattle.sb_rewrite.specs.Listing.{text_address, spelled_bytes, AllValid}
use Rattle.sb_rewrite.specs.Placing.{Placement, places_from, area_address, is_after_0f}
use Rattle.sb_rewrite.specs.RewrittenText.{rewritten_text}
use Rattle.sb_rewrite.specs.Rewriting.{NoneOf, IsUnmovable, EndsBehindArea, LeadsWell, Rewrites}

-- The instruction is neither VMFUNC nor the end of its bytes, and does not hold them.
pub record IsPlain (insn : Insn) : Type 0 where
  pub other : is_vmfunc insn.op ≡ false
  pub apart : is_add_esp_edx insn ≡ false
  pub none : holds_pattern (spelling insn) ≡ false

abbrev pub AllPlain : List Insn → Type 0
AllPlain insns = AllByRecursion IsPlain insns

-- an instruction that is kept; the next slot is the first one
abbrev pub kept_place : ℕ → Insn → Placement
kept_place at insn = record { insn = insn; at = at; slot = area_address; form = form.Keep }

abbrev pub kept_from : ℕ → List Insn → List Placement
kept_from at [] = []
kept_from at (insn ∷ insns) = kept_place at insn ∷ kept_from (at + length (spelling insn)) insns

abbrev pub kept : List Insn → List Placement
kept insns = kept_from text_address insns

-- ---- the places of plain instructions

-- a plain instruction is kept, wherever it stands
stays : (insn : Insn) (at slot : ℕ) (after_0f : Bool) → IsPlain insn → form_of insn at slot after_0f ≡ form.Keep
unfolding form_of replacement
stays insn at slot after_0f plain = rw (plain.other, plain.apart, plain.none) refl

-- so no slot is made before the next one
all_stay : (text : List ℕ) (at : ℕ) (insns : List Insn) → AllPlain insns
    → places_from text at area_address insns ≡ kept_from at insns
unfolding places_from
all_stay text at [] plain = refl
all_stay text at (insn ∷ insns) plain =
    rw (stays insn at area_address (is_after_0f text at) plain.0)
    (ap (λ (rest : List Placement). kept_place at insn ∷ rest) (all_stay text (at + length (spelling insn)) insns plain.1))

-- ---- what is made of them

-- none cannot be replaced
none_unmovable : (at : ℕ) (insns : List Insn) → NoneOf IsUnmovable (kept_from at insns)
none_unmovable at [] = tt
none_unmovable at (insn ∷ insns) = (λ is. cc is, none_unmovable (at + length (spelling insn)) insns)

-- an empty slot ends in the area
none_behind : (at : ℕ) (insns : List Insn) → NoneOf EndsBehindArea (kept_from at insns)
none_behind at [] = tt
none_behind at (insn ∷ insns) = (λ is. omega (arith, is), none_behind (at + length (spelling insn)) insns)

-- plain instructions whose jumps lead well are rewritten to themselves
pub rewrites_kept : (text : List ℕ) (insns : List Insn) → text ≡ spelled_bytes insns → AllValid insns → AllPlain insns
    → LeadsWell (kept insns)
    → Rewrites text (Ok (rewritten_text (kept insns)))
rewrites_kept text insns whole valid plain leads = (
  kept insns,
  record { insns = insns; valid = valid; whole = whole; places_are = sym (all_stay text text_address insns plain) },
  ((leads, none_unmovable text_address insns), none_behind text_address insns),
  refl,
)
