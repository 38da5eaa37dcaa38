use Rattle.std.proofs.lemmas.List.{get_or_default}
use Rattle.sb_slots.proofs.StartBits.{sets_bit}
use Rattle.sb_slots.proofs.starts.set_bit.Goals as goal

pub returns : goal.returns
returns c = rw c.index.ensures (sets_bit _ _ _ c.requires.address c.requires.room (get_or_default _ _ _ 0 c.requires.room))
