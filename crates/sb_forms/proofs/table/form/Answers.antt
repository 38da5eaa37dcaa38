use Rattle.std.proofs.Common.{◌≡◌, ap, subst, ◌∙◌}
use Rattle.sb_forms.specs.Answers.{IsSite}
use Rattle.sb_forms.specs.Table.{replacement, bytes_of, form_of}
use Rattle.sb_forms.proofs.CleanForms.{form_clean}
use Rattle.sb_forms.proofs.table.form.Goals as goal

pub returns-clause-no_pattern : goal.returns-clause-no_pattern
unfolding form_of
returns-clause-no_pattern c =
    let table : c.table_form.result ≡ form_of c.args.insn.now c.args.at c.args.slot c.args.after_0f =
    c.table_form.ensures.table
    ∙ ap (λ site. bytes_of (replacement c.args.insn.now site c.args.after_0f)) c.site_of.ensures.value in
    form_clean
    c.args.insn.now
    c.args.at
    c.args.slot
    c.args.after_0f
    c.table_form.result
    c.requires.valid
    (subst (λ site. IsSite site) c.site_of.ensures.value c.site_of.ensures.site)
    table
