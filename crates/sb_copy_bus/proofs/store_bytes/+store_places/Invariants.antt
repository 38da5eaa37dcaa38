use Rattle.std.proofs.Common.{length}
use Rattle.sb_copy_bus.proofs.store_bytes.+store_places.Given as goal

abbrev pub decreases-store_places : goal.decreases-store_places
decreases-store_places l = length l.into.now
