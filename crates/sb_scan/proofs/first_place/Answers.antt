-- The first place is across the prefix, in the bytes or across their end, as the three searches say.
use Rattle.std.proofs.Common.{subst, sym}
use Rattle.std.specs.Prelude.{ℕ, Option, ◌++◌}
use Rattle.sb_scan.specs.Pattern.{IsFirstPattern}
use Rattle.sb_scan.proofs.Borders.{prefix_first, inside_first, end_first, none_first}
use Rattle.sb_scan.proofs.first_place.Goals as goal

pub returns-in-Some-clause-place : goal.returns-in-Some-clause-place
returns-in-Some-clause-place c =
    prefix_first c.args.before.now c.args.bytes.now c.args.behind.now c.in-Some.count c.requires.before c.requires.bytes
    c.in-Some.ensures

pub returns-in-Some-find_pattern-clause-place : goal.returns-in-Some-find_pattern-clause-place
returns-in-Some-find_pattern-clause-place c =
    inside_first c.args.before.now c.args.bytes.now c.args.behind.now c.in-Some-find_pattern.place c.requires.before
    c.requires.bytes
    c.in_default.ensures c.in-Some-find_pattern.ensures

pub returns-in_err-count-clause-place : goal.returns-in_err-count-clause-place
returns-in_err-count-clause-place c =
    subst
    (λ (found : Option ℕ). IsFirstPattern (c.args.before.now ++ (c.args.bytes.now ++ c.args.behind.now)) found)
    (sym c.from_residual.ensures)
    (none_first c.args.before.now c.args.bytes.now c.args.behind.now c.requires.before c.requires.bytes c.requires.behind
    c.in_default.ensures
    c.in_default-find_pattern.ensures c.in_err-count.ensures)

pub returns-clause-place : goal.returns-clause-place
returns-clause-place c =
    end_first c.args.before.now c.args.bytes.now c.args.behind.now c.in_ok-count.count c.requires.before c.requires.bytes
    c.in_default.ensures
    c.in_default-find_pattern.ensures c.in_ok-count.ensures
