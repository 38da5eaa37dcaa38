-- Each turn decodes one more instruction of the slot.
use Rattle.std.proofs.Common.{◌≡◌, ◌<◌, length, rules}
use Rattle.sb_rewrite.proofs.Passed.{tail_of, none_passed, last_passed, one_passed, all_passed}
use Rattle.sb_rewrite.proofs.passes.push_passes.Goals as goal

pub loop-length-init : goal.loop-length-init
loop-length-init c = none_passed _ _ _ c.requires.spelled

pub loop-length-preserved-in_ok-push : goal.loop-length-preserved-in_ok-push
loop-length-preserved-in_ok-push c =
    let some : 0 < length (tail_of c.loop-length.rest.now c.in-Ok.length) = search rules in
    rw c.in_ok-push.ensures.items (one_passed _ _ _ _ _ _ c.loop-length.invariant _ _ c.in-Ok.ensures.answer some)

pub loop-length-preserved : goal.loop-length-preserved
loop-length-preserved c =
    let none : length (tail_of c.loop-length.rest.now c.in-Ok.length) ≡ 0 = search rules in
    last_passed _ _ _ _ _ _ c.loop-length.invariant _ _ c.in-Ok.ensures.answer none

pub returns : goal.returns
returns c = all_passed _ _ _ _ _ _ _ c.loop-length.invariant c.in_default.ensures.answer
