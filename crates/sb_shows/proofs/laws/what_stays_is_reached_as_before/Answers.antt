use Rattle.sb_shows.proofs.InPlace.{addresses_stay}
use Rattle.sb_shows.proofs.Cores.{cores_stay, places_stay, places_seen_stay}
use Rattle.sb_shows.proofs.Unseen.{seen_stay}
use Rattle.sb_shows.proofs.laws.what_stays_is_reached_as_before.Goals as goal

pub returns-clause-addresses : goal.returns-clause-addresses
returns-clause-addresses c = addresses_stay

pub returns-clause-translations : goal.returns-clause-translations
returns-clause-translations c = seen_stay

pub returns-clause-cores : goal.returns-clause-cores
returns-clause-cores c = cores_stay

pub returns-clause-places : goal.returns-clause-places
returns-clause-places c = places_stay

pub returns-clause-places_seen : goal.returns-clause-places_seen
returns-clause-places_seen c = places_seen_stay
