use Rattle.sb_trace.proofs.SoundRuns.{steps_keep_sound, runs_keep_sound}
use Rattle.sb_trace.proofs.laws.steps_keep_sound.Goals as goal

pub returns-clause-step : goal.returns-clause-step
returns-clause-step c = steps_keep_sound

pub returns-clause-run : goal.returns-clause-run
returns-clause-run c = runs_keep_sound
