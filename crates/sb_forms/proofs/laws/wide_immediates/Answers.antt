use Rattle.sb_forms.proofs.Immediates.{with_four, with_eight}
use Rattle.sb_forms.proofs.laws.wide_immediates.Goals as goal

pub returns : goal.returns
returns c = record { four = with_four; eight = with_eight }
