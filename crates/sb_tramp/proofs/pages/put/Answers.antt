use Rattle.std.proofs.Common.{rules}
use Rattle.sb_tramp.specs.Page.{filler}
use Rattle.sb_tramp.proofs.pages.put.Goals as goal

pub returns : goal.returns
unfolding filler
returns c = search rules
