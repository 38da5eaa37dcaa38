use Rattle.std.proofs.Common.{[], ◌∷◌}
use Rattle.sb_forms.specs.Pieces.{first_saved, save, restore, load_address_of_operand}
use Rattle.sb_forms.specs.Mains.{with_helper}
use Rattle.sb_forms.specs.Table.{address_form}
use Rattle.sb_forms.proofs.Spelled.{alone, more, moved_is}
use Rattle.sb_forms.proofs.slots.address_slot.Goals as goal

pub returns-clause-table : goal.returns-clause-table
unfolding address_form
returns-clause-table c =
    let helper = c.first_helper-helper.result in
    rw
    (← c.first_helper-helper.ensures)
    (moved_is
    c.moved.result
    c.args.site
    c.put_address.new.code
    c.of-post.result
    c.with_helper.result
    (save helper first_saved ∷ load_address_of_operand helper c.args.insn.now c.args.site.next)
    (with_helper helper c.args.insn.now)
    (restore helper first_saved ∷ [])
    (more c.of-pre.result c.put_address.new.code (save helper first_saved ∷ [])
    (load_address_of_operand helper c.args.insn.now c.args.site.next)
    (alone c.of-pre.result (save helper first_saved) c.save.result c.save.ensures.value c.of-pre.ensures.code)
    c.put_address.ensures.code)
    c.with_helper.ensures.value
    (alone c.of-post.result (restore helper first_saved) c.restore.result c.restore.ensures.value c.of-post.ensures.code)
    c.moved.ensures.moved)
