use Rattle.sb_origin_process.proofs.Stays.{fetches_stay}
use Rattle.sb_origin_process.proofs.laws.fetches_stay.Goals as goal

pub returns : goal.returns
returns c = fetches_stay
