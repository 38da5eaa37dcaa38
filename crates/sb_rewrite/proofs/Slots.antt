-- The slot of a moved instruction has the instructions that the table of forms gives, and they are valid.
use Rattle.std.proofs.Common.{◌≡◌, ℕ, ◌<◌, ◌≤◌, Bool, List, [], ◌∷◌, ◌++◌, refl, ap, sym, ◌∙◌, subst, arith}
use Rattle.std.specs.Prelude.{not, if◌then◌else◌}
use Rattle.std.proofs.lemmas.Bool.{cond_both}
use Rattle.std.proofs.lemmas.List.Concat.{flat_map-append}
use Rattle.sb_insn.specs.declared.insn.Insn.{Insn}
use Rattle.sb_insn.specs.Spelling.{spelling}
use Rattle.sb_insn.specs.Grammar.{IsValid}
use Rattle.sb_insn.proofs.Longest.{spelling_13}
use Rattle.sb_forms.specs.Holding.{holds_pattern}
use Rattle.sb_forms.specs.declared.slots.Site.{Site}
use Rattle.sb_forms.specs.declared.answer.Form.{Form}
use Rattle.sb_forms.specs.declared.answer.Form.TheVariants as form
use Rattle.sb_forms.specs.Answers.{IsSite, area_end}
use Rattle.sb_forms.specs.Places.{text_end}
use Rattle.sb_forms.specs.Valid.{AreValid}
use Rattle.sb_forms.specs.Table.{Replacement, Keep, InPlace, Moved, Unmovable, is_vmfunc, completes_pattern, nop, add_from_rm, held_form, replacement, bytes_of, site_of, form_of}
use Rattle.sb_forms.proofs.ValidForms.{valid_append, replacements_valid}
use Rattle.sb_rewrite.specs.Listing.{text_address, spelled_bytes, AllValid}
use Rattle.sb_rewrite.specs.Slots.{slot_insns, moved_insns, HasSlot}

-- what moves an instruction is what the table gives one that holds the pattern
abbrev IsHeldForm : Insn → Site → Replacement → Type 0
IsHeldForm insn site one =
    (pre : List Insn) (main : Insn) (post : List Insn) → one ≡ Moved pre main post → held_form insn site ≡ Moved pre main post

moved_held : (insn : Insn) (site : Site) (after_0f : Bool) → IsHeldForm insn site (replacement insn site after_0f)
unfolding replacement
moved_held insn site after_0f =
    let held = held_form insn site in
    let kept = if not (holds_pattern (spelling insn)) then Keep else held in
    let added = if completes_pattern insn after_0f then InPlace (add_from_rm ∷ []) else kept in
    cond_both (is_vmfunc insn.op) (InPlace (nop ∷ nop ∷ nop ∷ [])) added (IsHeldForm insn site)
    (λ _ pre main post is. absurd cc)
    (λ _. cond_both (completes_pattern insn after_0f) (InPlace (add_from_rm ∷ [])) kept (IsHeldForm insn site)
    (λ _ pre main post is. absurd cc)
    (λ _. cond_both (not (holds_pattern (spelling insn))) Keep held (IsHeldForm insn site) (λ _ pre main post is. absurd cc)
    (λ _ pre main post is. is)))

-- the instructions of its slot, one after another
pub moved_insns_are : (insn : Insn) (at slot : ℕ) (after_0f : Bool) (pre : List Insn) (main : Insn) (post : List Insn)
    → replacement insn (site_of insn at slot) after_0f ≡ Moved pre main post → moved_insns insn at slot ≡ pre ++ main ∷ post
unfolding moved_insns
moved_insns_are insn at slot after_0f pre main post is =
    ap (λ (one : Replacement). slot_insns one) (moved_held insn (site_of insn at slot) after_0f pre main post is)

-- the bytes of a slot, if what stands in place of an instruction has one
abbrev pub SpellsSlot : Insn → ℕ → ℕ → Form → Type 0
SpellsSlot insn at slot form.Keep = Unit {0}
SpellsSlot insn at slot (form.InPlace bytes) = Unit {0}
SpellsSlot insn at slot (form.Moved pre main post) = pre ++ (main ++ post) ≡ spelled_bytes (moved_insns insn at slot)
SpellsSlot insn at slot form.Unmovable = Unit {0}

spelled_by : (insn : Insn) (at slot : ℕ) (after_0f : Bool) (one : Replacement)
    → replacement insn (site_of insn at slot) after_0f ≡ one → SpellsSlot insn at slot (bytes_of one)
spelled_by insn at slot after_0f Keep is = tt
spelled_by insn at slot after_0f (InPlace mains) is = tt
spelled_by insn at slot after_0f (Moved pre main post) is =
    sym (flat_map-append spelling pre (main ∷ post))
    ∙ ap (λ (insns : List Insn). spelled_bytes insns) (sym (moved_insns_are insn at slot after_0f pre main post is))
spelled_by insn at slot after_0f Unmovable is = tt

pub slot_spelled : (insn : Insn) (at slot : ℕ) (after_0f : Bool) → SpellsSlot insn at slot (form_of insn at slot after_0f)
unfolding form_of
slot_spelled insn at slot after_0f =
    spelled_by insn at slot after_0f (replacement insn (site_of insn at slot) after_0f) refl

slot_by : (insn : Insn) (at slot : ℕ) (after_0f : Bool) (one : Replacement)
    → replacement insn (site_of insn at slot) after_0f ≡ one → AreValid one → HasSlot insn at slot (bytes_of one)
slot_by insn at slot after_0f Keep is valid = tt
slot_by insn at slot after_0f (InPlace mains) is valid = tt
slot_by insn at slot after_0f (Moved pre main post) is valid = record {
  valid =
      subst (λ (insns : List Insn). AllValid insns) (sym (moved_insns_are insn at slot after_0f pre main post is))
      (valid_append pre (main ∷ post) valid.0 (valid.1, valid.2));
  spelled = spelled_by insn at slot after_0f (Moved pre main post) is;
}
slot_by insn at slot after_0f Unmovable is valid = tt

-- what stands in place of an instruction of a text has such a slot, if it has one
pub form_has_slot : (insn : Insn) (at slot : ℕ) (after_0f : Bool) (made : Form) → IsValid insn → text_address ≤ at
    → at < text_end → slot ≤ area_end → made ≡ form_of insn at slot after_0f → HasSlot insn at slot made
unfolding form_of
form_has_slot insn at slot after_0f made valid low high room is =
    let site : IsSite (site_of insn at slot) = record {
      behind = omega (arith, low);
      next = omega (arith, high, spelling_13 insn valid);
      slot = omega (arith, room);
    } in
    subst (λ (one : Form). HasSlot insn at slot one) (sym is)
    (slot_by insn at slot after_0f (replacement insn (site_of insn at slot) after_0f) refl
    (replacements_valid insn (site_of insn at slot) after_0f valid site))
