use Rattle.std.proofs.Common.{length}
use Rattle.sb_copy_bus.proofs.store_bytes.+put.Given as goal

abbrev pub decreases-put : goal.decreases-put
decreases-put l = length l.places.now
