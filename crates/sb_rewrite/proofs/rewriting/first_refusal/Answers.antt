use Rattle.sb_rewrite.proofs.Refused.{unmovable_first, area_first}
use Rattle.sb_rewrite.proofs.rewriting.first_refusal.Goals as goal

pub returns-in-Err-check_movable : goal.returns-in-Err-check_movable
returns-in-Err-check_movable c = unmovable_first _ _ c.in_default.ensures c.in-Err-check_movable.ensures

pub returns : goal.returns
returns c = area_first _ _ _ c.in-Ok.ensures c.in_default.ensures c.in_default-check_movable.ensures c.requires.met
