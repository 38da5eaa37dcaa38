use Rattle.sb_trace.proofs.SoundRuns.{start_is_sound}
use Rattle.sb_trace.proofs.laws.start_is_sound.Goals as goal

pub returns : goal.returns
returns c = start_is_sound
