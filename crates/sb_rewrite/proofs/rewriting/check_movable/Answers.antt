-- Each turn reads one more instruction that can be moved.
use Rattle.std.proofs.Common.{◌≡◌, ◌<◌, ◌∙◌, sym, length, rules}
use Rattle.sb_forms.specs.declared.answer.Form.TheVariants as form
use Rattle.sb_forms.specs.Table.{form_of}
use Rattle.sb_rewrite.specs.Placing.{is_after_0f}
use Rattle.sb_forms.proofs.Where.{not_in_jumps}
use Rattle.sb_rewrite.proofs.Reading.{never_stuck}
use Rattle.sb_rewrite.proofs.Checked.{nothing_checked, form_asks, first_unmovable, one_movable, all_movable}
use Rattle.sb_rewrite.proofs.rewriting.check_movable.Goals as goal

pub loop-rest-init : goal.loop-rest-init
loop-rest-init c = nothing_checked _ c.requires.size c.requires.jumps

pub returns-in_err-text_insn : goal.returns-in_err-text_insn
returns-in_err-text_insn c =
    let some : 0 < length c.loop-rest.rest.now = search rules in
    absurd (never_stuck _ _ _ _ c.loop-rest.invariant.reads some c.in_err-text_insn.ensures.1)

pub form-requires-clause-taken : goal.form-requires-clause-taken
form-requires-clause-taken c =
    let some : 0 < length c.loop-rest.rest.now = search rules in
    form_asks not_in_jumps _ _ _ _ _ c.loop-rest.invariant.reads c.loop-rest.invariant.known c.in_ok-text_insn.ensures some

pub returns-in-Unmovable : goal.returns-in-Unmovable
returns-in-Unmovable c =
    let text_insn = c.in_ok-text_insn.text_insn in
    let is : form_of text_insn.insn text_insn.at 0x1000 (is_after_0f c.args.text.now text_insn.at) ≡ form.Unmovable =
    sym (rw c.is_after_0f-after_0f.ensures at c.in-Unmovable.ensures.table) in
    first_unmovable _ _ _ 0x1000 c.loop-rest.invariant c.in_ok-text_insn.ensures is

pub loop-rest-preserved : goal.loop-rest-preserved
loop-rest-preserved c =
    let table = rw c.is_after_0f-after_0f.ensures at c.form.ensures.table in
    one_movable _ _ _ 0x1000 c.loop-rest.invariant c.in_ok-text_insn.ensures (λ is. c.in_default.not-Unmovable (table ∙ is))

pub returns : goal.returns
returns c =
    let none : length c.loop-rest.rest.now ≡ 0 = search rules in
    all_movable _ _ c.loop-rest.invariant none
