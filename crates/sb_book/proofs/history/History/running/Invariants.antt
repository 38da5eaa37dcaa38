use Rattle.std.specs.Prelude.{ℕ, ◌<◌}
use Rattle.sb_book.specs.History.{IsRunning}
use Rattle.sb_book.proofs.history.History.running.Given as goal

abbrev pub invariant-loop-core : goal.invariant-loop-core
invariant-loop-core l = (before : ℕ) → before < l.core → ¬ IsRunning l.self.machine before
