use Rattle.std.proofs.Common.{◌≡◌}
use Rattle.sb_generator.specs.Generator.{cores_of}
use Rattle.sb_generator.proofs.generator.cores.Given as goal

abbrev pub invariant-loop-process : goal.invariant-loop-process
invariant-loop-process l = l.cores.items ≡ cores_of l.process
