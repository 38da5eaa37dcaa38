use Rattle.sb_shows.proofs.Fetched.{pattern_at_two_places, pattern_fetched}
use Rattle.sb_shows.proofs.pattern.pattern_stands_at_two_places.Goals as goal

pub returns-clause-only : goal.returns-clause-only
returns-clause-only c = pattern_at_two_places

pub returns-clause-there : goal.returns-clause-there
returns-clause-there c = pattern_fetched
