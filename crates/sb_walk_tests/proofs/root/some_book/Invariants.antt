use Rattle.std.proofs.Common.{◌≡◌, ◌+◌, length}
use Rattle.sb_walk_tests.proofs.root.some_book.Given as goal

abbrev pub invariant-loop : goal.invariant-loop
invariant-loop l = length l.book + 512 ≡ 1024
