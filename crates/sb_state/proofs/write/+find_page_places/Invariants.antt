use Rattle.std.proofs.Common.{length}
use Rattle.sb_state.proofs.write.+find_page_places.Given as goal

abbrev pub decreases-find_page_places : goal.decreases-find_page_places
decreases-find_page_places l = length l.places.now
