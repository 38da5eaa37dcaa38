use Rattle.sb_agree.proofs.Alike.{fetch_alike_on}
use Rattle.sb_agree.proofs.laws.fetches_agree.Goals as goal

pub returns : goal.returns
returns c = fetch_alike_on
