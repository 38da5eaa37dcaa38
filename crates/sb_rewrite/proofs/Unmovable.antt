-- Whether an instruction can be moved does not depend on the slot.
use Rattle.std.proofs.Common.{◌≡◌, ℕ, Bool, true, false, cond, ◌&&◌, Option, Some, None, refl, sym, ◌∙◌}
use Rattle.std.specs.Prelude.{not}
use Rattle.std.specs.Int.{w32}
use Rattle.std.proofs.lemmas.Bool.{false≢true}
use Rattle.sb_insn.specs.declared.insn.Insn.{Insn}
use Rattle.sb_insn.specs.declared.insn.Imm.{Imm}
use Rattle.sb_insn.specs.declared.insn.Imm.TheVariants as imm
use Rattle.sb_insn.specs.declared.opcode_map.Instruction.{Instruction}
use Rattle.sb_insn.specs.Spelling.{number, spelling}
use Rattle.sb_insn.specs.Lookup.{instruction_of}
use Rattle.sb_forms.specs.declared.slots.Site.{Site}
use Rattle.sb_forms.specs.declared.answer.Form.TheVariants as form
use Rattle.sb_forms.specs.Holding.{holds_pattern}
use Rattle.sb_insn.specs.Fields.{has_memory}
use Rattle.sb_forms.specs.Table.{Replacement, Keep, InPlace, Moved, Unmovable, is_vmfunc, completes_pattern, is_exchangeable, begins_at_modrm, is_call, is_jump, jump_form, wide_constant_form, address_and_constant_form, address_form, constant_form, form_by, slot_form, slot_form_of, held_form, replacement, bytes_of, site_of, form_of}

abbrev is_unmovable : Replacement → Bool
is_unmovable Unmovable = true
is_unmovable _ = false

-- both can be moved, or neither
abbrev Alike : Replacement → Replacement → Type 0
Alike one other = is_unmovable one ≡ is_unmovable other

by_test : (test : Bool) (one one' other other' : Replacement) → Alike one one' → Alike other other'
    → Alike (cond test one other) (cond test one' other')
by_test true one one' other other' a b = a
by_test false one one' other other' a b = b

module _ (insn : Insn) (site site' : Site) where
  by_imm : (instruction : Instruction) (value : Imm)
      → Alike (form_by instruction insn site value) (form_by instruction insn site' value)
  unfolding wide_constant_form address_and_constant_form address_form constant_form
  by_imm instruction imm.None = refl
  by_imm instruction (imm.I8 value) = refl
  by_imm instruction (imm.I32 value) =
      by_test (has_memory insn.modrm) _ _ _ _ (by_test (holds_pattern (number w32 value)) _ _ _ _ refl refl) refl
  by_imm instruction (imm.I64 value) = refl

  by_instruction : (instruction : Instruction) → Alike (slot_form instruction insn site) (slot_form instruction insn site')
  unfolding slot_form jump_form
  by_instruction instruction =
      by_test (has_memory insn.modrm && is_call instruction.mnemonic) _ _ _ _ refl
      (by_test (has_memory insn.modrm && is_jump instruction.mnemonic) _ _ _ _ refl (by_imm instruction insn.imm))

  by_map : (found : Option Instruction) → Alike (slot_form_of found insn site) (slot_form_of found insn site')
  by_map None = refl
  by_map (Some instruction) = by_instruction instruction

  by_held : Alike (held_form insn site) (held_form insn site')
  unfolding held_form
  by_held =
      by_test (is_exchangeable insn) _ _ _ _ refl (by_test (begins_at_modrm insn) _ _ _ _ refl (by_map (instruction_of insn)))

  by_table : (after_0f : Bool) → Alike (replacement insn site after_0f) (replacement insn site' after_0f)
  unfolding replacement
  by_table after_0f =
      by_test (is_vmfunc insn.op) _ _ _ _ refl
      (by_test (completes_pattern insn after_0f) _ _ _ _ refl
      (by_test (not (holds_pattern (spelling insn))) _ _ _ _ refl by_held))

of_form : (one : Replacement) → bytes_of one ≡ form.Unmovable → is_unmovable one ≡ true
of_form Keep is = absurd cc
of_form (InPlace insns) is = absurd cc
of_form (Moved pre main post) is = absurd cc
of_form Unmovable is = refl

to_form : (one : Replacement) → is_unmovable one ≡ true → bytes_of one ≡ form.Unmovable
to_form Keep is = absurd (false≢true is)
to_form (InPlace insns) is = absurd (false≢true is)
to_form (Moved pre main post) is = absurd (false≢true is)
to_form Unmovable is = refl

-- what cannot be moved with one slot cannot with another
pub unmovable_anywhere : (insn : Insn) (at slot slot' : ℕ) (after_0f : Bool) → form_of insn at slot after_0f ≡ form.Unmovable
    → form_of insn at slot' after_0f ≡ form.Unmovable
unfolding form_of
unmovable_anywhere insn at slot slot' after_0f is =
    to_form (replacement insn (site_of insn at slot') after_0f)
    (sym (by_table insn (site_of insn at slot) (site_of insn at slot') after_0f)
    ∙ of_form (replacement insn (site_of insn at slot) after_0f) is)
