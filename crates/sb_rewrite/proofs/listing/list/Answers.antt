-- Each turn lists one more instruction; the loop ends at the text's end or where none is decoded.
use Rattle.std.proofs.Common.{◌≡◌, ◌<◌, length, rules}
use Rattle.sb_rewrite.proofs.Listed.{none_listed, one_more, all_listed, stuck_there}
use Rattle.sb_rewrite.proofs.Above.{starts_before}
use Rattle.sb_rewrite.proofs.OneListing.{rising_starts}
use Rattle.sb_rewrite.proofs.listing.list.Goals as goal

pub loop-rest-init : goal.loop-rest-init
loop-rest-init c = none_listed _ _ c.in_ok-starts.ensures

pub push-requires-clause-above : goal.push-requires-clause-above
push-requires-clause-above c = starts_before _ _ _ c.loop-rest.invariant

pub loop-rest-preserved : goal.loop-rest-preserved
loop-rest-preserved c = rw c.in_ok-push-in-Ok.ensures (one_more _ _ _ _ _ c.loop-rest.invariant c.in-Ok.ensures.answer)

pub returns-in-Err : goal.returns-in-Err
returns-in-Err c =
    let some : 0 < length c.loop-rest.rest.now = search rules in
    stuck_there _ _ _ _ c.loop-rest.invariant some c.in-Err.ensures.answer

pub invariant_of-result : goal.invariant_of-result
invariant_of-result c =
    let none : length c.loop-rest.rest.now ≡ 0 = search rules in
    rising_starts _ _ (all_listed _ _ _ c.loop-rest.invariant none)
