-- The table of forms walked once: what holds of each of its cases holds of what it gives.
use Rattle.std.proofs.Common.{◌≡◌, Bool, true, false, [], ◌∷◌, Option, Some, None, refl, ap, ◌∙◌, ℤ}
use Rattle.std.specs.Prelude.{◌%◌, ◌&&◌, not, if◌then◌else◌}
use Rattle.std.specs.Int.{w8, w32, cast_unsigned}
use Rattle.std.proofs.lemmas.Bool.{not-true, not-false, cond_both, and_parts}
use Rattle.sb_insn.specs.declared.insn.Insn.{Insn}
use Rattle.sb_insn.specs.declared.insn.Imm.{Imm}
use Rattle.sb_insn.specs.declared.insn.Imm.TheVariants as imm
use Rattle.sb_insn.specs.declared.opcode_map.Instruction.{Instruction}
use Rattle.sb_insn.specs.Spelling.{number, imm_bytes, spelling}
use Rattle.sb_insn.specs.Grammar.{IsValid}
use Rattle.sb_insn.specs.Lookup.{instruction_of}
use Rattle.sb_scan.specs.Holding.{holds_pattern}
use Rattle.sb_scan.proofs.Held.{nothing_holds, byte_holds}
use Rattle.sb_forms.specs.declared.slots.Site.{Site}
use Rattle.sb_forms.specs.Pieces.{sib_exchanged}
use Rattle.sb_forms.specs.Mains.{with_displacement}
use Rattle.sb_forms.specs.Table.{Replacement, Keep, InPlace, Unmovable, move_outcome, is_vmfunc, is_add_esp_edx, begins_at_modrm}
use Rattle.sb_insn.specs.Fields.{has_memory}
use Rattle.sb_forms.specs.Table.{completes_pattern, nop, add_from_rm, is_call, is_jump, jump_form, wide_constant_form}
use Rattle.sb_forms.specs.Table.{address_and_constant_form, address_form, constant_form, form_by, slot_form, slot_form_of}
use Rattle.sb_forms.specs.Table.{is_exchangeable, held_form, replacement}

-- a valid instruction that is not VMFUNC, and holds the pattern
pub record IsHeld (insn : Insn) : Type 0 where
  pub valid : IsValid insn
  pub other : is_vmfunc insn.op ≡ false
  pub held : holds_pattern (spelling insn) ≡ true

-- what the opcode maps say of one that holds the pattern
pub record IsListedHeld (insn : Insn) (instruction : Instruction) : Type 0 where
  pub held : IsHeld insn
  pub listed : instruction_of insn ≡ Some instruction

-- P holds of each case of the table, under what the case asks
pub record TableCases (P : Replacement → Type 0) (insn : Insn) (site : Site) : Type 0 where
  pub vmfunc : is_vmfunc insn.op ≡ true → P (InPlace (nop ∷ nop ∷ nop ∷ []))
  pub completes : is_add_esp_edx insn ≡ true → P (InPlace (add_from_rm ∷ []))
  pub keep : holds_pattern (spelling insn) ≡ false → P Keep
  pub exchange : IsHeld insn → is_exchangeable insn ≡ true → P (InPlace (sib_exchanged insn ∷ []))
  pub displace : IsHeld insn → begins_at_modrm insn ≡ true → P (move_outcome site [] (with_displacement insn) [])
  pub unmovable : P Unmovable
  pub through : (instruction : Instruction) → IsListedHeld insn instruction → has_memory insn.modrm ≡ true
      → is_jump instruction.mnemonic ≡ true → P (jump_form instruction insn site)
  pub wide : (instruction : Instruction) (value : ℤ) → IsListedHeld insn instruction → insn.imm ≡ imm.I64 value
      → P (wide_constant_form instruction insn site value)
  pub both : (instruction : Instruction) (value : ℤ) → IsListedHeld insn instruction → insn.imm ≡ imm.I32 value
      → has_memory insn.modrm ≡ true → P (address_and_constant_form instruction insn site value)
  pub alone : (instruction : Instruction) (value : ℤ) → IsListedHeld insn instruction → insn.imm ≡ imm.I32 value
      → has_memory insn.modrm ≡ false → P (constant_form instruction insn site value)
  pub memory : (instruction : Instruction) → IsListedHeld insn instruction → holds_pattern (imm_bytes insn.imm) ≡ false
      → P (address_form instruction insn site)

by_imm : (P : Replacement → Type 0) (insn : Insn) (site : Site) (cases : TableCases P insn site) (instruction : Instruction)
    (held : IsListedHeld insn instruction) (immediate : Imm) → insn.imm ≡ immediate → P (form_by instruction insn site immediate)
by_imm P insn site cases instruction held (imm.I64 value) is = cases.wide instruction value held is
by_imm P insn site cases instruction held (imm.I32 value) is =
    cond_both
    (has_memory insn.modrm)
    (if holds_pattern (number w32 value) then address_and_constant_form instruction insn site value
    else address_form instruction insn site)
    (constant_form instruction insn site value)
    P
    (λ memory.
    cond_both
    (holds_pattern (number w32 value))
    (address_and_constant_form instruction insn site value)
    (address_form instruction insn site)
    P
    (λ _. cases.both instruction value held is memory)
    (λ none. cases.memory instruction held (ap (λ i. holds_pattern (imm_bytes i)) is ∙ none)))
    (λ alone. cases.alone instruction value held is alone)
by_imm P insn site cases instruction held imm.None is =
    cases.memory instruction held (ap (λ i. holds_pattern (imm_bytes i)) is ∙ nothing_holds)
by_imm P insn site cases instruction held (imm.I8 value) is =
    cases.memory instruction held (ap (λ i. holds_pattern (imm_bytes i)) is ∙ byte_holds (cast_unsigned w8 value % 256))

by_slot : (P : Replacement → Type 0) (insn : Insn) (site : Site) (cases : TableCases P insn site) → IsHeld insn
    → (found : Option Instruction) → instruction_of insn ≡ found → P (slot_form_of found insn site)
unfolding slot_form
by_slot P insn site cases held None is = cases.unmovable
by_slot P insn site cases held (Some instruction) is =
    let known : IsListedHeld insn instruction = record { held = held; listed = is } in
    let behind = form_by instruction insn site insn.imm in
    let through = jump_form instruction insn site in
    cond_both
    (has_memory insn.modrm && is_call instruction.mnemonic)
    Unmovable
    (if has_memory insn.modrm && is_jump instruction.mnemonic then through else behind)
    P
    (λ _. cases.unmovable)
    (λ _.
    cond_both
    (has_memory insn.modrm && is_jump instruction.mnemonic)
    through
    behind
    P
    (λ jumps.
    let parts = and_parts (has_memory insn.modrm) (is_jump instruction.mnemonic) jumps in
    cases.through instruction known parts.0 parts.1)
    (λ _. by_imm P insn site cases instruction known insn.imm refl))

by_held : (P : Replacement → Type 0) (insn : Insn) (site : Site) → TableCases P insn site → IsHeld insn → P (held_form insn site)
unfolding held_form
by_held P insn site cases held =
    let displaced = move_outcome site [] (with_displacement insn) [] in
    let behind = slot_form_of (instruction_of insn) insn site in
    cond_both
    (is_exchangeable insn)
    (InPlace (sib_exchanged insn ∷ []))
    (if begins_at_modrm insn then displaced else behind)
    P
    (λ e. cases.exchange held e)
    (λ _.
    cond_both
    (begins_at_modrm insn)
    displaced
    behind
    P
    (λ e. cases.displace held e)
    (λ _. by_slot P insn site cases held (instruction_of insn) refl))

-- what holds of each case of the table holds of what it gives for a valid instruction
pub by_table : (P : Replacement → Type 0) (insn : Insn) (site : Site) (after_0f : Bool) → IsValid insn → TableCases P insn site
    → P (replacement insn site after_0f)
unfolding replacement
by_table P insn site after_0f valid cases =
    let held = held_form insn site in
    let kept = if not (holds_pattern (spelling insn)) then Keep else held in
    let added = if completes_pattern insn after_0f then InPlace (add_from_rm ∷ []) else kept in
    cond_both
    (is_vmfunc insn.op)
    (InPlace (nop ∷ nop ∷ nop ∷ []))
    added
    P
    (λ is. cases.vmfunc is)
    (λ other.
    cond_both
    (completes_pattern insn after_0f)
    (InPlace (add_from_rm ∷ []))
    kept
    P
    (λ is. cases.completes (and_parts (is_add_esp_edx insn) after_0f is).0)
    (λ _.
    cond_both
    (not (holds_pattern (spelling insn)))
    Keep
    held
    P
    (λ none. cases.keep (not-true (holds_pattern (spelling insn)) none))
    (λ some.
    let all : IsHeld insn = record { valid = valid; other = other; held = not-false (holds_pattern (spelling insn)) some } in
    by_held P insn site cases all)))
