use Rattle.sb_origin_plain.proofs.Plain.{are_beside}
use Rattle.sb_origin_plain.proofs.laws.plain_beside.Goals as goal

pub returns : goal.returns
returns c = are_beside
