use Rattle.sb_exec.proofs.OneFetch.{one_fetch}
use Rattle.sb_exec.proofs.fetch.one_fetch.Goals as goal

pub returns : goal.returns
returns c = one_fetch
