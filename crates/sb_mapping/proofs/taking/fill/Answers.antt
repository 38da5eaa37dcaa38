use Rattle.std.proofs.Common.{◌≡◌, ◌==◌, false, true, arith}
use Rattle.std.proofs.lemmas.Grind.{common_steps}
use Rattle.sb_mapping.proofs.Filling.{same_cleared, held_cleared, same_topped, held_topped}
use Rattle.sb_mapping.proofs.taking.fill.Goals as goal

pub returns-then-top-ne0-clause-same : goal.returns-then-top-ne0-clause-same
returns-then-top-ne0-clause-same c =
    let written = rw (c.from.ensures, c.clear_frame.ensures.written) at c.set_word.ensures.written in
    rw written (same_topped c.args.memory.now c.args.frame.0 c.requires.inside c.requires.size c.args.top)

pub returns-then-top-ne0-clause-held : goal.returns-then-top-ne0-clause-held
returns-then-top-ne0-clause-held c = λ offset below.
    let written = rw (c.from.ensures, c.clear_frame.ensures.written) at c.set_word.ensures.written in
    let test : (c.args.top == 0) ≡ false = grind (arith, common_steps) in
    rw (written, test) (held_topped c.args.memory.now c.args.frame.0 c.requires.inside c.requires.size c.args.top offset below)

pub returns-else-top-ne0-clause-same : goal.returns-else-top-ne0-clause-same
returns-else-top-ne0-clause-same c =
    rw c.clear_frame.ensures.written (same_cleared c.args.memory.now c.args.frame.0 c.requires.inside c.requires.size)

pub returns-else-top-ne0-clause-held : goal.returns-else-top-ne0-clause-held
returns-else-top-ne0-clause-held c = λ offset below.
    let test : (c.args.top == 0) ≡ true = grind (arith, common_steps) in
    rw (
      c.clear_frame.ensures.written,
      test,
    ) (held_cleared c.args.memory.now c.args.frame.0 c.requires.inside c.requires.size offset below)
