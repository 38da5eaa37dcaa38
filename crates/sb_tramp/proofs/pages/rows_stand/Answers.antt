use Rattle.sb_tramp.proofs.Bytes.{home_stands, home_filled, server_stands, server_filled}
use Rattle.sb_tramp.proofs.Switches.{home_switches, server_switches}
use Rattle.sb_tramp.proofs.Phases.{each_phase_stands}
use Rattle.sb_tramp.proofs.pages.rows_stand.Goals as goal

pub returns-clause-home : goal.returns-clause-home
returns-clause-home c = home_stands

pub returns-clause-server : goal.returns-clause-server
returns-clause-server c = server_stands

pub returns-clause-phases : goal.returns-clause-phases
returns-clause-phases c = each_phase_stands

pub returns-clause-home_filler : goal.returns-clause-home_filler
returns-clause-home_filler c = home_filled

pub returns-clause-server_filler : goal.returns-clause-server_filler
returns-clause-server_filler c = server_filled

pub returns-clause-home_switch : goal.returns-clause-home_switch
returns-clause-home_switch c = home_switches

pub returns-clause-server_switch : goal.returns-clause-server_switch
returns-clause-server_switch c = server_switches
