use Rattle.sb_shows.proofs.Dumped.{dumps_one_machine, dumps_show}
use Rattle.sb_shows.proofs.dump.a_dump_is_of_one_machine.Goals as goal

pub returns-clause-one : goal.returns-clause-one
returns-clause-one c = dumps_one_machine

pub returns-clause-shows : goal.returns-clause-shows
returns-clause-shows c = dumps_show
