use Rattle.sb_origin_run.proofs.Steps.{accesses_at}
use Rattle.sb_origin_run.proofs.laws.slot_accesses.Goals as goal

pub returns : goal.returns
returns g c = accesses_at g.R.Codes.bus g.R.Codes.holds
