use Rattle.sb_shows.proofs.Example.{some_memory_shows}
use Rattle.sb_shows.proofs.existence.some_memory_shows_a_state.Goals as goal

pub returns : goal.returns
returns c = some_memory_shows
