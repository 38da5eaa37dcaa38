use Rattle.sb_exec.proofs.Simulation.{rows_told}
use Rattle.sb_exec.proofs.pair.rows_told.Goals as goal

pub returns : goal.returns
returns g c which = rows_told (g.P.Pair.related which) (g.P.Pair.left which) (g.P.Pair.right which)
