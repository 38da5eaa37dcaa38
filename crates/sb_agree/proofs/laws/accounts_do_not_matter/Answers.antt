use Rattle.sb_agree.proofs.Alike.{fetch_unnoted, execution_unnoted}
use Rattle.sb_agree.proofs.laws.accounts_do_not_matter.Goals as goal

pub returns-clause-fetch : goal.returns-clause-fetch
returns-clause-fetch c = fetch_unnoted

pub returns-clause-execution : goal.returns-clause-execution
returns-clause-execution c = execution_unnoted
