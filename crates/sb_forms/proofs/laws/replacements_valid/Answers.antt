use Rattle.sb_forms.proofs.ValidForms.{replacements_valid}
use Rattle.sb_forms.proofs.laws.replacements_valid.Goals as goal

pub returns : goal.returns
returns c = replacements_valid
