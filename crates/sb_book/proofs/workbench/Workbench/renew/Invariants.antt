use Rattle.std.proofs.Common.{◌≡◌}
use Rattle.sb_book.proofs.workbench.Workbench.renew.Given as goal

abbrev pub invariant-loop-seen : goal.invariant-loop-seen
invariant-loop-seen g l = l.self.frames ≡ l.initial.self.frames
