use Rattle.std.proofs.Common.{◌≡◌}
use Rattle.sb_memory.specs.Physical.{frame_count}
use Rattle.sb_shows_tests.proofs.nested.put_pages.Given as goal

abbrev pub invariant-loop-row : goal.invariant-loop-row
invariant-loop-row l = frame_count l.memory ≡ frame_count l.fn.memory
