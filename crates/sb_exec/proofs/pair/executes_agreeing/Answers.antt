use Rattle.sb_exec.proofs.Simulation.{executes_agreeing}
use Rattle.sb_exec.proofs.pair.executes_agreeing.Goals as goal

pub returns : goal.returns
returns g c which = executes_agreeing (g.P.Pair.related which) (g.P.Pair.left which) (g.P.Pair.right which)
