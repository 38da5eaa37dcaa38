use Rattle.sb_shows.proofs.Refuted.{no_second_page_in_a_frame}
use Rattle.sb_shows.proofs.defects.no_second_page_in_a_frame.Goals as goal

pub returns : goal.returns
returns c = no_second_page_in_a_frame
