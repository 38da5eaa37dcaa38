use Rattle.std.proofs.Common.{◌≡◌}
use Rattle.sb_memory.specs.Physical.{frame_count}
use Rattle.sb_pagewalk.specs.Standing.{HasTables}
use Rattle.sb_shows_tests.proofs.nested.put_tables.Given as goal

abbrev pub invariant-loop-at : goal.invariant-loop-at
invariant-loop-at l = HasTables l.set l.memory × (frame_count l.memory ≡ frame_count l.fn.memory)
