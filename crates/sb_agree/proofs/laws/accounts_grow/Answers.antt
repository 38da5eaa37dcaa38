use Rattle.sb_agree.proofs.Alike.{fetch_more}
use Rattle.sb_agree.proofs.Noting.{rule_more}
use Rattle.sb_agree.proofs.Rows.{row_more}
use Rattle.sb_agree.proofs.laws.accounts_grow.Goals as goal

pub returns-clause-fetch : goal.returns-clause-fetch
returns-clause-fetch c = fetch_more

pub returns-clause-execution : goal.returns-clause-execution
returns-clause-execution c = row_more

pub returns-clause-call : goal.returns-clause-call
returns-clause-call c = rule_more
