use Rattle.std.proofs.Common.{[], ◌∷◌, ap, ◌∙◌}
use Rattle.std.specs.Prelude.{ℕ, List}
use Rattle.sb_insn.specs.declared.insn.Insn.{Insn}
use Rattle.sb_insn.specs.Spelling.{spelling}
use Rattle.sb_forms.specs.declared.answer.Form.TheVariants as form
use Rattle.sb_forms.specs.Pieces.{first_saved, scratch_word, save, restore, load_address_of_operand, jump_through}
use Rattle.sb_forms.specs.Mains.{load_target}
use Rattle.sb_forms.specs.Table.{spelled_bytes, jump_form}
use Rattle.sb_forms.proofs.Spelled.{one, alone, more}
use Rattle.sb_forms.proofs.slots.jump_slot.Goals as goal

pub returns-clause-table : goal.returns-clause-table
unfolding jump_form
returns-clause-table c =
    let helper = c.first_helper-helper.result in
    let pre =
    more c.of-pre.result c.put_address.new.code (save helper first_saved ∷ [])
    (load_address_of_operand helper c.args.insn.now c.args.site.next)
    (alone c.of-pre.result (save helper first_saved) c.save.result c.save.ensures.value c.of-pre.ensures.code)
    c.put_address.ensures.code in
    let kept = alone c.of-post.result (save helper scratch_word) c.save-2.result c.save-2.ensures.value c.of-post.ensures.code in
    let restored =
    more c.of-post.result c.put.new.self (save helper scratch_word ∷ []) (restore helper first_saved ∷ []) kept
    (one c.of-post.result c.put.new.self (restore helper first_saved) c.restore.result c.restore.ensures.value
    c.put.ensures.code) in
    let post =
    more c.put.new.self c.put-2.new.self (save helper scratch_word ∷ restore helper first_saved ∷ [])
    (jump_through scratch_word ∷ []) restored
    (one c.put.new.self c.put-2.new.self
    (jump_through scratch_word) c.jump_through.result c.jump_through.ensures.value c.put-2.ensures.code) in
    rw
    (← c.first_helper-helper.ensures)
    (ap (λ (p : List ℕ). form.Moved p c.of.result c.put-2.new.self) pre
    ∙ ap (λ (m : List ℕ). form.Moved
    (spelled_bytes (save helper first_saved ∷ load_address_of_operand helper c.args.insn.now c.args.site.next)) m
    c.put-2.new.self) c.of.ensures.code
    ∙ ap (λ (m : Insn). form.Moved
    (spelled_bytes (save helper first_saved ∷ load_address_of_operand helper c.args.insn.now c.args.site.next))
    (spelling m) c.put-2.new.self) c.load_target.ensures.value
    ∙ ap (λ (q : List ℕ). form.Moved
    (spelled_bytes (save helper first_saved ∷ load_address_of_operand helper c.args.insn.now c.args.site.next))
    (spelling (load_target helper)) q) post)
