use Rattle.sb_exec.proofs.Within.{rows_in}
use Rattle.sb_exec.proofs.pair.rows_in.Goals as goal

pub returns : goal.returns
returns g c which = rows_in (g.P.Pair.related which) (g.P.Pair.left which) (g.P.Pair.right which)
