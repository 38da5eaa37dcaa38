use Rattle.std.proofs.Common.{◌∷◌, [], ◌-◌, ◌<◌, ap, arith, length, length-append, refl, subst, sym}
use Rattle.sb_book.specs.History.{History, IsOneStep, IsRunning}
use Rattle.sb_book.proofs.Runs.{busy_line, run_longer}
use Rattle.sb_book.proofs.Running.{running_there}
use Rattle.sb_book.proofs.history.History.step.Goals as goal

pub step-line-requires : goal.step-line-requires
step-line-requires c =
    running_there c.self.inside.machine c.args.core
    (subst (λ (history : History). IsRunning history.machine c.args.core) (sym c.self.view_is) c.requires.running)

pub invariant_of-self : goal.invariant_of-self
invariant_of-self c =
    let kept = c.self.invariant in
    let running = subst (λ (history : History). IsRunning history.machine c.args.core) (sym c.self.view_is) c.requires.running in
    let room : 0 < c.self.inside.room = subst (λ (history : History). 0 < history.room) (sym c.self.view_is) c.requires.room in
    let more = ap length c.put.ensures.items in
    let one = length-append c.self.inside.journal.items (c.args.core ∷ []) in (
      run_longer _ _ c.args.core c.step-line.result kept.0 (omega arith) c.step-line.ensures.core running
          c.step-line.ensures.plain c.step-line.ensures.counts c.step-line.ensures.frames c.step-line.ensures.cores refl
          c.put.ensures.items c.put-2.ensures.items,
      omega arith,
      omega arith,
      omega arith,
    )

pub returns : goal.returns
returns c =
    let kept = c.self.invariant in
    let running = subst (λ (history : History). IsRunning history.machine c.args.core) (sym c.self.view_is) c.requires.running in
    let room : 0 < c.self.inside.room = subst (λ (history : History). 0 < history.room) (sym c.self.view_is) c.requires.room in
    subst
    (λ (history : History).
    IsOneStep history c.args.core
    (record {
      load = c.self.inside.loaded;
      machine = c.step-line.new.self;
      journal = c.put.new.list.items;
      lines = c.put-2.new.list.items;
      room = c.self.inside.room - 1;
    }))
    c.self.view_is
    (record {
      line = c.step-line.result;
      core_is = c.step-line.ensures.core;
      step = c.step-line.ensures.step;
      busy = busy_line _ c.step-line.new.self c.args.core c.step-line.result kept.0 running c.step-line.ensures.plain;
      load = refl;
      journal = c.put.ensures.items;
      lines = c.put-2.ensures.items;
      room = omega arith;
    })
