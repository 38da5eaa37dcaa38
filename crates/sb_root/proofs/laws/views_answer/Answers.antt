use Rattle.sb_root.proofs.Between.{view_between}
use Rattle.sb_root.proofs.laws.views_answer.Goals as goal

pub returns : goal.returns
returns c = view_between
