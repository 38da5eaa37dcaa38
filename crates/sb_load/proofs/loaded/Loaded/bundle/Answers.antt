use Rattle.sb_load.specs.Loading.{Load}
use Rattle.sb_load.proofs.Known.{of_the_grammar, are_as_long}
use Rattle.sb_load.proofs.loaded.Loaded.bundle.Goals as goal

pub returns-clause-grammar : goal.returns-clause-grammar
returns-clause-grammar c =
    let load : Load = record { bundle = c.self.inside.bundle; rewritten = c.self.inside.rewritten } in
    of_the_grammar load c.self.invariant.0

pub returns-clause-as_long : goal.returns-clause-as_long
returns-clause-as_long c =
    let load : Load = record { bundle = c.self.inside.bundle; rewritten = c.self.inside.rewritten } in
    rw (← c.self.view_is) (are_as_long load c.self.invariant.0)
