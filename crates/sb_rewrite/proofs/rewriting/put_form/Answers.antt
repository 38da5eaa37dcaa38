-- The slot of a moved instruction is that of the table.
use Rattle.std.proofs.Common.{◌<◌, ℕ, subst, arith}
use Rattle.sb_forms.specs.Places.{text_end}
use Rattle.sb_rewrite.specs.Slots.{HasSlot}
use Rattle.sb_rewrite.proofs.Slots.{form_has_slot}
use Rattle.sb_rewrite.proofs.rewriting.put_form.Goals as goal

pub put-requires-clause-slot : goal.put-requires-clause-slot
put-requires-clause-slot c =
    let text_insn = c.args.text_insn.now in
    let near : text_insn.at < text_end = omega (arith, c.requires.size, c.requires.within.1) in
    subst (λ (slot : ℕ). HasSlot text_insn.insn text_insn.at slot c.form-form.result) c.next_slot.ensures.address
    (form_has_slot text_insn.insn text_insn.at c.next_slot.result _ c.form-form.result
    c.requires.text_insn.valid c.requires.within.0 near c.next_slot.ensures.within c.form-form.ensures.table)
