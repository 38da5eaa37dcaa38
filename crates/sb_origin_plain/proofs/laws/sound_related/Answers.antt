use Rattle.sb_origin_plain.proofs.Runs.{sound_related}
use Rattle.sb_origin_plain.proofs.laws.sound_related.Goals as goal

pub returns : goal.returns
returns c = sound_related
