use Rattle.std.proofs.Common.{◌≡◌, length}
use Rattle.sb_shows_tests.proofs.nested.take_frames.Given as goal

abbrev pub invariant-loop-index : goal.invariant-loop-index
invariant-loop-index l = length l.book ≡ length l.fn.book
