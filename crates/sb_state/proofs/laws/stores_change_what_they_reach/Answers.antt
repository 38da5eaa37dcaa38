use Rattle.sb_state.proofs.Stored.{stored_there, stored_elsewhere}
use Rattle.sb_state.proofs.laws.stores_change_what_they_reach.Goals as goal

pub returns-clause-bytes : goal.returns-clause-bytes
returns-clause-bytes c = stored_there

pub returns-clause-others : goal.returns-clause-others
returns-clause-others c = stored_elsewhere
