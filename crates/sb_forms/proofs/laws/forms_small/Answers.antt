use Rattle.sb_forms.proofs.Small.{forms_small}
use Rattle.sb_forms.proofs.laws.forms_small.Goals as goal

pub returns : goal.returns
returns c = forms_small
