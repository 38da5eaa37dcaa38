use Rattle.sb_exec.proofs.Simulation.{executes_told}
use Rattle.sb_exec.proofs.pair.executes_told.Goals as goal

pub returns : goal.returns
returns g c which = executes_told (g.P.Pair.related which) (g.P.Pair.left which) (g.P.Pair.right which)
