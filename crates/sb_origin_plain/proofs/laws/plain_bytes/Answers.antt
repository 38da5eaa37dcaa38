use Rattle.sb_origin_plain.proofs.Bytes.{keeps_bytes, sound_bytes}
use Rattle.sb_origin_plain.proofs.laws.plain_bytes.Goals as goal

pub returns-clause-kept : goal.returns-clause-kept
returns-clause-kept c = keeps_bytes

pub returns-clause-sound : goal.returns-clause-sound
returns-clause-sound c = sound_bytes
