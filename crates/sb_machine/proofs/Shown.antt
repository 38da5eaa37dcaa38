-- A machine shows the state for which it stands.
use Rattle.sb_shows.proofs.Steps.{keeps_shows}
use Rattle.sb_machine.specs.Machine.{words_of}
use Rattle.sb_machine.specs.Laws.{MachinesShow}

pub machines_show : MachinesShow
machines_show machine state is =
    keeps_shows is.stands.placement state machine.memory (words_of machine) is.stands.keeps is.words
