use Rattle.std.proofs.Common.{◌≡◌, replicate}
use Rattle.sb_generator.specs.Generator.{server_image}
use Rattle.sb_generator.proofs.generator.images.Given as goal

abbrev pub invariant-loop : goal.invariant-loop
invariant-loop l = l.images.items ≡ replicate l.counter server_image
