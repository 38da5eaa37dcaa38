use Rattle.sb_plain.proofs.SoundStart.{sound_start}
use Rattle.sb_plain.proofs.laws.loads_have_sound_starts.Goals as goal

pub returns : goal.returns
returns c = sound_start
