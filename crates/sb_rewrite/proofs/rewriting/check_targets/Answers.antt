-- Each turn reads one more instruction that leads where it may.
use Rattle.std.proofs.Common.{◌≡◌, ◌<◌, ◌∙◌, sym, length, rules}
use Rattle.std.proofs.lemmas.Bool.{false≢true}
use Rattle.sb_rewrite.proofs.Reading.{never_stuck}
use Rattle.sb_rewrite.proofs.Checked.{no_target_checked, bad_target_here, good_target_here, targets_checked}
use Rattle.sb_rewrite.proofs.rewriting.check_targets.Goals as goal

pub loop-rest-init : goal.loop-rest-init
loop-rest-init c = no_target_checked _ _ c.requires

pub returns-in_err-text_insn : goal.returns-in_err-text_insn
returns-in_err-text_insn c =
    let some : 0 < length c.loop-rest.rest.now = search rules in
    absurd (never_stuck _ _ _ _ c.loop-rest.invariant.reads some c.in_err-text_insn.ensures.1)

pub returns-then-is_bad_target : goal.returns-then-is_bad_target
returns-then-is_bad_target c =
    bad_target_here _ _ _ _ c.loop-rest.invariant c.in_ok-text_insn.ensures
    (rw c.direct_target.ensures at (c.is_bad_target.ensures.0 c.if-is_bad_target.true))

pub loop-rest-preserved : goal.loop-rest-preserved
loop-rest-preserved c =
    good_target_here _ _ _ _ c.loop-rest.invariant c.in_ok-text_insn.ensures
    (λ bad. false≢true (sym c.if-is_bad_target.false ∙ c.is_bad_target.ensures.1 (rw c.direct_target.ensures bad)))

pub returns : goal.returns
returns c =
    let none : length c.loop-rest.rest.now ≡ 0 = search rules in
    targets_checked _ _ _ c.loop-rest.invariant none
