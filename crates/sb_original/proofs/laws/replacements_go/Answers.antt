use Rattle.sb_original.proofs.Replaced.{all_go}
use Rattle.sb_original.proofs.laws.replacements_go.Goals as goal

pub returns : goal.returns
returns g c has = all_go g.R.Rewritten.bus g.R.Rewritten.holds has
