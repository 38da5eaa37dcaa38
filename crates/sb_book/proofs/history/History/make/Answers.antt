use Rattle.std.proofs.Common.{◌≡◌, ◌∙◌, ◌++◌, ◌-◌, ◌<◌, ◌≤◌, List, ap, arith, length, length-append, refl, replicate, subst, sym}
use Rattle.std.proofs.lemmas.List.{length-replicate}
use Rattle.sb_block.specs.declared.fact.MadeStep.{MadeStep}
use Rattle.sb_book.specs.Commit.{AreOwnSteps, lines_marked}
use Rattle.sb_book.specs.History.{History}
use Rattle.sb_book.proofs.BlockRuns.{run_by_steps}
use Rattle.sb_book.proofs.history.History.make.Goals as goal

pub invariant_of-self : goal.invariant_of-self
invariant_of-self c =
    let kept = c.self.invariant in
    let block = c.args.block.now in
    let there = subst (λ (history : History). block.core < length history.machine.cores) (sym c.self.view_is) c.requires.core in
    let room : length block.steps ≤ c.self.inside.room =
    subst (λ (history : History). length block.steps ≤ history.room) (sym c.self.view_is) c.requires.room in
    let shown = c.items-steps.ensures in
    let count : length c.items-steps.result.now ≡ length block.steps = ap length shown in
    let more = ap length c.put_entries.ensures.items in
    let all = length-append c.self.inside.journal.items (replicate (length c.items-steps.result.now) block.core) in
    let entries = length-replicate (length c.items-steps.result.now) block.core in (
      run_by_steps c.own_steps_are_plain.ensures.marked _ _ block.core block.steps kept.0 there (omega arith) c.make_steps.ensures
          refl
          (subst (λ (steps : List MadeStep). c.put_entries.new.journal.items
          ≡ c.self.inside.journal.items ++ replicate (length steps) block.core) shown c.put_entries.ensures.items)
          (subst (λ (steps : List MadeStep). c.put_lines.new.lines.items
          ≡ c.self.inside.lines.items ++ lines_marked c.self.inside.machine block.core steps) shown c.put_lines.ensures.items),
      omega arith,
      omega arith,
      omega arith,
    )

pub returns : goal.returns
returns c =
    let block = c.args.block.now in
    let room : length block.steps ≤ c.self.inside.room =
    subst (λ (history : History). length block.steps ≤ history.room) (sym c.self.view_is) c.requires.room in
    let shown = c.items-steps.ensures in
    let count : length c.items-steps.result.now ≡ length block.steps = ap length shown in
    subst
    (λ (history : History).
    AreOwnSteps history block.core block.steps
    (record {
      load = c.self.inside.loaded;
      machine = c.make_steps.new.machine;
      journal = c.put_entries.new.journal.items;
      lines = c.put_lines.new.lines.items;
      room = c.self.inside.room - length c.items-steps.result.now;
    }))
    c.self.view_is
    (record {
      steps = c.make_steps.ensures;
      load = refl;
      journal = c.put_entries.ensures.items ∙ ap (λ count. c.self.inside.journal.items ++ replicate count block.core) count;
      lines = c.put_lines.ensures.items
          ∙ ap (λ (steps : List MadeStep). c.self.inside.lines.items
          ++ lines_marked c.self.inside.machine block.core steps) shown;
      room = omega arith;
    })
