use Rattle.sb_origin_plain.proofs.Threads.{sound_threads}
use Rattle.sb_origin_plain.proofs.laws.sound_threads_related.Goals as goal

pub returns : goal.returns
returns c = sound_threads
