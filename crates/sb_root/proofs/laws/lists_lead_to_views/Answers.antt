use Rattle.sb_root.proofs.Between.{set_switched, free_switched, set_pointer, set_inside}
use Rattle.sb_root.proofs.laws.lists_lead_to_views.Goals as goal

pub returns-clause-set : goal.returns-clause-set
returns-clause-set c = set_switched

pub returns-clause-free : goal.returns-clause-free
returns-clause-free c = free_switched

pub returns-clause-pointer : goal.returns-clause-pointer
returns-clause-pointer c = set_pointer

pub returns-clause-inside : goal.returns-clause-inside
returns-clause-inside c = set_inside
