use Rattle.sb_shows.proofs.Refuted.{no_data_of_the_client}
use Rattle.sb_shows.proofs.defects.no_data_of_the_client.Goals as goal

pub returns : goal.returns
returns c = no_data_of_the_client
