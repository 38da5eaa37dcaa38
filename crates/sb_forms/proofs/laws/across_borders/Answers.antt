use Rattle.sb_forms.proofs.Across.{none_with_d4, one_with_01_d4, across_border}
use Rattle.sb_forms.proofs.Joints.{forms_border}
use Rattle.sb_forms.proofs.laws.across_borders.Goals as goal

pub returns : goal.returns
returns c = record { none = none_with_d4; one = one_with_01_d4; across = across_border; forms = forms_border }
