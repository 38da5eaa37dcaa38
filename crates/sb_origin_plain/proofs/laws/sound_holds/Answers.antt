use Rattle.sb_origin_plain.proofs.Plain.{sound_holds}
use Rattle.sb_origin_plain.proofs.laws.sound_holds.Goals as goal

pub returns : goal.returns
returns c = sound_holds
