use Rattle.std.proofs.Common.{◌≡◌, ◌≤◌, length}
use Rattle.std.specs.Vec.{vec_capacity}
use Rattle.sb_memory.specs.Physical.{frame_count}
use Rattle.sb_agree.specs.Noted.{nothing, noted_rule}
use Rattle.sb_machine.specs.OwnSteps.{HasWalks}
use Rattle.sb_block.specs.Run.{at, CoreRuns}
use Rattle.sb_block.proofs.run.make_steps.Given as goal

abbrev pub invariant-loop : goal.invariant-loop
invariant-loop l = record {
  runs : CoreRuns noted_rule (at l.fn.core l.fn.part.given nothing) l.steps.items (at l.core l.part.memory l.part.noted);
  given : l.part.given ≡ l.fn.part.given;
  walks : HasWalks (frame_count l.part.memory) l.core;
  frames : frame_count l.part.memory ≡ frame_count l.fn.part.given;
  count : length l.steps.items ≡ l.counter;
  room : l.fn.limit ≤ vec_capacity l.steps;
}
