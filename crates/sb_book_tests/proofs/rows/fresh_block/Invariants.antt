use Rattle.std.proofs.Common.{◌≡◌}
use Rattle.sb_book_tests.proofs.rows.fresh_block.Given as goal

abbrev pub invariant-loop : goal.invariant-loop
invariant-loop g l = l.bench.frames ≡ l.initial.bench.frames
