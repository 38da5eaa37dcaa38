use Rattle.std.proofs.Common.{◌≡◌}
use Rattle.sb_generator.specs.Generator.{state_after, schedule_of}
use Rattle.sb_generator.proofs.generator.schedule.Given as goal

abbrev pub invariant-loop : goal.invariant-loop
invariant-loop l = record {
  drawn : l.draws.state ≡ state_after l.fn.draws.state l.counter;
  entries : l.entries.items ≡ schedule_of l.fn.draws.state l.counter;
}
