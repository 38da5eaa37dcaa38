-- What is stood for is shown.
use Rattle.sb_shows.proofs.Steps.{keeps_shows}
use Rattle.sb_sub.specs.Laws.{StandsShows}

pub stands_shows : StandsShows
stands_shows kernel root book memory state cores stands words = keeps_shows stands.placement state memory cores stands.keeps words
