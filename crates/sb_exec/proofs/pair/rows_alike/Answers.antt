use Rattle.sb_exec.proofs.Simulation.{rows_alike}
use Rattle.sb_exec.proofs.pair.rows_alike.Goals as goal

pub returns : goal.returns
returns g c which = rows_alike (g.P.Pair.related which) (g.P.Pair.left which) (g.P.Pair.right which)
