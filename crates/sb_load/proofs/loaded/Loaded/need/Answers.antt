use Rattle.sb_load.specs.Loading.{Load}
use Rattle.sb_load.proofs.Known.{takes_no_more}
use Rattle.sb_load.proofs.loaded.Loaded.need.Goals as goal

pub returns-clause-enough : goal.returns-clause-enough
returns-clause-enough c =
    let load : Load = record { bundle = c.self.inside.bundle; rewritten = c.self.inside.rewritten } in
    rw (← c.self.view_is, c.self.invariant.1) (takes_no_more load c.self.invariant.0)
