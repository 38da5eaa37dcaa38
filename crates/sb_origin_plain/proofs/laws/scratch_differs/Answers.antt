use Rattle.sb_origin_plain.proofs.Plain.{differ_beside, other_bytes}
use Rattle.sb_origin_plain.proofs.laws.scratch_differs.Goals as goal

pub returns-clause-beside : goal.returns-clause-beside
returns-clause-beside c = differ_beside

pub returns-clause-bytes : goal.returns-clause-bytes
returns-clause-bytes c = other_bytes
