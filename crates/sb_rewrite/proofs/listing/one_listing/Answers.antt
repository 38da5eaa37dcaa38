use Rattle.sb_rewrite.proofs.OneListing.{one_listed, one_place, listed_apart, rising_starts}
use Rattle.sb_rewrite.proofs.listing.one_listing.Goals as goal

pub returns-clause-listing : goal.returns-clause-listing
returns-clause-listing c = one_listed

pub returns-clause-place : goal.returns-clause-place
returns-clause-place c = one_place

pub returns-clause-apart : goal.returns-clause-apart
returns-clause-apart c = listed_apart

pub returns-clause-rising : goal.returns-clause-rising
returns-clause-rising c = rising_starts
