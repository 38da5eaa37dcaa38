use Rattle.std.proofs.Common.{length}
use Rattle.sb_state.proofs.write.+put.Given as goal

abbrev pub decreases-put : goal.decreases-put
decreases-put l = length l.places.now
