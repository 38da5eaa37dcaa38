use Rattle.std.proofs.Common.{arith}
use Rattle.std.proofs.lemmas.Bool.{leb-false}
use Rattle.sb_book.proofs.Running.{running_there}
use Rattle.sb_book.proofs.history.History.ended.Goals as goal

pub returns-then-core-cores : goal.returns-then-core-cores
returns-then-core-cores c =
    let out = c.cores.ensures.cores in (
      λ no. let less = leb-false c.cores.result c.args.core no in absurd (omega arith),
      λ running. let inside = running_there _ _ running in absurd (omega arith),
    )
