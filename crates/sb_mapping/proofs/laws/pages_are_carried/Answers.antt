use Rattle.sb_mapping.proofs.Carried.{can_take, page_carried}
use Rattle.sb_mapping.proofs.laws.pages_are_carried.Goals as goal

pub returns-clause-can_take : goal.returns-clause-can_take
returns-clause-can_take c = can_take

pub returns-clause-page : goal.returns-clause-page
returns-clause-page c = page_carried
