use Rattle.sb_exec.proofs.Simulation.{rows_agreeing}
use Rattle.sb_exec.proofs.pair.rows_agreeing.Goals as goal

pub returns : goal.returns
returns g c which = rows_agreeing (g.P.Pair.related which) (g.P.Pair.left which) (g.P.Pair.right which)
