use Rattle.sb_sub.proofs.Pooled.{finds_pool, registered_carried}
use Rattle.sb_sub.proofs.Registered.{registered_stands}
use Rattle.sb_sub.proofs.Servable.{sound_servable, server_servable}
use Rattle.sb_sub.proofs.laws.servers_are_carried.Goals as goal

pub returns-clause-finds_pool : goal.returns-clause-finds_pool
returns-clause-finds_pool c = finds_pool

pub returns-clause-registers : goal.returns-clause-registers
returns-clause-registers c = registered_carried

pub returns-clause-servable : goal.returns-clause-servable
returns-clause-servable c = sound_servable

pub returns-clause-server : goal.returns-clause-server
returns-clause-server c = server_servable

pub returns-clause-stands : goal.returns-clause-stands
returns-clause-stands c = registered_stands
