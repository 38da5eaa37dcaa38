use Rattle.std.proofs.Common.{◌≡◌}
use Rattle.sb_generator.specs.Generator.{state_after, keys_of}
use Rattle.sb_generator.proofs.generator.keys.Given as goal

abbrev pub invariant-loop : goal.invariant-loop
invariant-loop l = record {
  drawn : l.draws.state ≡ state_after l.fn.draws.state l.counter;
  words : l.words.items ≡ keys_of l.fn.draws.state l.counter;
}
