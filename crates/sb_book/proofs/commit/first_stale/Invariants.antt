use Rattle.std.proofs.Common.{take}
use Rattle.sb_book.specs.Commit.{AllHoldNow}
use Rattle.sb_book.proofs.commit.first_stale.Given as goal

abbrev pub invariant-loop-seen : goal.invariant-loop-seen
invariant-loop-seen l = AllHoldNow l.machine (take l.seen-index l.seens)
