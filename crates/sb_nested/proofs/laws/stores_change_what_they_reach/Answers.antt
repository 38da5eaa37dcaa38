use Rattle.sb_nested.proofs.Reached.{stored_bytes, stored_elsewhere, stored_within}
use Rattle.sb_nested.proofs.laws.stores_change_what_they_reach.Goals as goal

pub returns-clause-bytes : goal.returns-clause-bytes
returns-clause-bytes c = stored_bytes

pub returns-clause-others : goal.returns-clause-others
returns-clause-others c = stored_elsewhere

pub returns-clause-same : goal.returns-clause-same
returns-clause-same c = stored_within
