use Rattle.sb_shows.proofs.Refuted.{no_page_is_written_and_fetched}
use Rattle.sb_shows.proofs.defects.no_page_is_written_and_fetched.Goals as goal

pub returns : goal.returns
returns c = no_page_is_written_and_fetched
