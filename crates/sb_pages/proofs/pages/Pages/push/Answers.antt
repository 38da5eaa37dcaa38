use Rattle.sb_pages.proofs.Places.{index_same}
use Rattle.sb_pages.proofs.pages.Pages.push.Goals as goal

pub attach-requires-clause-index : goal.attach-requires-clause-index
attach-requires-clause-index c = index_same _ _ _ _ c.self.invariant.places c.reserve-2.ensures.entries.2 c.reserve.ensures.items
