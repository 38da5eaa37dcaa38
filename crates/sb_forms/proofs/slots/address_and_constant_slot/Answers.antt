use Rattle.std.proofs.Common.{[], ◌∷◌, ◌++◌, FitsSigned, ℕ, List, length, arith, ap, ◌∙◌, append_assoc}
use Rattle.std.specs.Int.{w32}
use Rattle.std.proofs.Math.Facts.{to_z-of_z}
use Rattle.sb_insn.specs.declared.insn.Insn.{Insn}
use Rattle.sb_forms.specs.Pieces.{first_saved, second_saved, save, restore, load_address_of_operand, load_constant}
use Rattle.sb_forms.specs.Mains.{at_helper, with_constant, behind_main}
use Rattle.sb_forms.specs.Table.{spelled_bytes, address_and_constant_form}
use Rattle.sb_forms.proofs.Spelled.{one, alone, more, moved_is}
use Rattle.sb_forms.proofs.slots.address_and_constant_slot.Goals as goal

pub returns-clause-table : goal.returns-clause-table
unfolding address_and_constant_form
returns-clause-table c =
    let helper = c.first_helper-helper.result in
    let second = c.second_helper-second.result in
    let fits : FitsSigned w32 c.args.value = c.ranges.value in
    let saved = alone c.of-pre.result (save helper first_saved) c.save.result c.save.ensures.value c.of-pre.ensures.code in
    let both =
    more c.of-pre.result c.put.new.self (save helper first_saved ∷ []) (save second second_saved ∷ []) saved
    (one c.of-pre.result c.put.new.self (save second second_saved) c.save-2.result c.save-2.ensures.value c.put.ensures.code) in
    let addressed =
    more c.put.new.self c.put_address.new.code (save helper first_saved ∷ save second second_saved ∷ [])
    (load_address_of_operand helper c.args.insn.now c.args.site.next) both c.put_address.ensures.code in
    let loaded =
    more
    c.put_address.new.code
    c.put_constant.new.code
    (save helper first_saved ∷ save second second_saved ∷ load_address_of_operand helper c.args.insn.now c.args.site.next)
    (load_constant second c.args.value)
    addressed
    (simp to_z-of_z at c.put_constant.ensures.code) in
    let behind = behind_main c.args.instruction.mnemonic c.args.insn.now second in
    let restored =
    more c.behind-post.result c.put-2.new.self behind (restore helper first_saved ∷ []) c.behind-post.ensures.code
    (one c.behind-post.result c.put-2.new.self
    (restore helper first_saved) c.restore.result c.restore.ensures.value c.put-2.ensures.code) in
    let post =
    more c.put-2.new.self c.put-3.new.self (behind ++ restore helper first_saved ∷ []) (restore second second_saved ∷ []) restored
    (one c.put-2.new.self c.put-3.new.self
    (restore second second_saved) c.restore-2.result c.restore-2.ensures.value c.put-3.ensures.code) in
    rw
    (← c.first_helper-helper.ensures, ← c.second_helper-second.ensures)
    (moved_is
    c.moved.result
    c.args.site
    c.put_constant.new.code
    c.put-3.new.self
    c.on_memory-main.result
    (save helper first_saved ∷ save second second_saved ∷ load_address_of_operand helper c.args.insn.now c.args.site.next ++
    load_constant second c.args.value)
    (with_constant c.args.instruction.mnemonic c.args.insn.now (at_helper helper) second)
    (behind ++ restore helper first_saved ∷ restore second second_saved ∷ [])
    loaded
    c.on_memory-main.ensures.value
    (post ∙ ap (λ (insns : List Insn). spelled_bytes insns)
    (append_assoc behind (restore helper first_saved ∷ []) (restore second second_saved ∷ [])))
    c.moved.ensures.moved)

pub moved-requires-clause-slot : goal.moved-requires-clause-slot
moved-requires-clause-slot c =
    let behind = ap (λ (bytes : List ℕ). length bytes) c.behind-post.ensures.code in
    omega (arith, behind, c.on_memory-main.ensures.size)
