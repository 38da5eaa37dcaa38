use Rattle.std.proofs.Common.{[], ◌∷◌, ◌++◌, FitsSigned}
use Rattle.std.specs.Int.{w32}
use Rattle.std.proofs.Math.Facts.{to_z-of_z}
use Rattle.sb_forms.specs.Pieces.{first_saved, save, restore, load_constant}
use Rattle.sb_forms.specs.Mains.{on_register, behind_main}
use Rattle.sb_forms.specs.Table.{constant_form}
use Rattle.sb_forms.proofs.Spelled.{one, alone, more, moved_is}
use Rattle.sb_forms.proofs.slots.constant_slot.Goals as goal

pub returns-clause-table : goal.returns-clause-table
unfolding constant_form
returns-clause-table c =
    let helper = c.first_helper-helper.result in
    let fits : FitsSigned w32 c.args.value = c.ranges.value in
    rw
    (← c.first_helper-helper.ensures)
    (moved_is
    c.moved.result
    c.args.site
    c.put_constant.new.code
    c.put.new.self
    c.on_register-main.result
    (save helper first_saved ∷ load_constant helper c.args.value)
    (on_register c.args.instruction.mnemonic c.args.instruction.form c.args.insn.now helper)
    (behind_main c.args.instruction.mnemonic c.args.insn.now helper ++ restore helper first_saved ∷ [])
    (more c.of-pre.result c.put_constant.new.code (save helper first_saved ∷ []) (load_constant helper c.args.value)
    (alone c.of-pre.result (save helper first_saved) c.save.result c.save.ensures.value c.of-pre.ensures.code)
    (simp to_z-of_z at c.put_constant.ensures.code))
    c.on_register-main.ensures.value
    (more c.behind-post.result c.put.new.self (behind_main c.args.instruction.mnemonic c.args.insn.now helper)
    (restore helper first_saved ∷ []) c.behind-post.ensures.code
    (one c.behind-post.result c.put.new.self
    (restore helper first_saved) c.restore.result c.restore.ensures.value c.put.ensures.code))
    c.moved.ensures.moved)
