use Rattle.std.proofs.Common.{◌≡◌, ◌*◌, ◌++◌}
use Rattle.sb_generator.specs.Generator.{state_after, clients_of}
use Rattle.sb_generator.proofs.generator.push_clients.Given as goal

abbrev pub invariant-loop : goal.invariant-loop
invariant-loop l = record {
  drawn : l.draws.state ≡ state_after l.fn.draws.state (2 * l.counter);
  images : l.images.items ≡ l.initial.images.items ++ clients_of l.fn.draws.state l.counter;
}
