use Rattle.sb_exec.proofs.OneFetch.{one_fetch_on}
use Rattle.sb_exec.proofs.fetch.one_fetch_on.Goals as goal

pub returns : goal.returns
returns g c = one_fetch_on g.B.Bus.interface
