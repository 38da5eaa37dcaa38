use Rattle.std.proofs.Common.{◌≡◌, take}
use Rattle.sb_generator.specs.Summary.{count_of}
use Rattle.sb_generator.proofs.summary.count_of.Given as goal

abbrev pub invariant-loop-line : goal.invariant-loop-line
invariant-loop-line l = l.count ≡ count_of (take l.line-index l.lines) l.kind
