use Rattle.std.proofs.Common.{◌<◌, rules}
use Rattle.sb_book.specs.History.{IsRunning, IsOneStep}
use Rattle.sb_book.proofs.Running.{not_done, longer, task_kept}
use Rattle.sb_book.proofs.book.Book.step_one.Goals as goal

pub invariant_of-self : goal.invariant_of-self
invariant_of-self g c =
    let kept = c.self.invariant in
    let step : IsOneStep c.self.inside.history c.args.core c.step.new.self = search rules in
    let running : IsRunning c.self.inside.history.machine c.args.core = search rules in
    let room : 0 < c.self.inside.history.room = search rules in
    let more = longer _ _ _ step in (
      record {
        entries = search (rules, more);
        stops = λ some. absurd (not_done c.self.inside.history c.args.core running room (kept.0.stops some));
      },
      search rules,
      task_kept _ _ c.self.inside.history c.step.new.self c.args.core step kept.2,
    )
