use Rattle.sb_shows.proofs.SeenPages.{processes_see, homes_see_save, homes_see_stacks, both_see_buffers}
use Rattle.sb_shows.proofs.call_laws.pages_are_seen.Goals as goal

pub returns-clause-processes : goal.returns-clause-processes
returns-clause-processes c = processes_see

pub returns-clause-saves : goal.returns-clause-saves
returns-clause-saves c = homes_see_save

pub returns-clause-stacks : goal.returns-clause-stacks
returns-clause-stacks c = homes_see_stacks

pub returns-clause-buffers : goal.returns-clause-buffers
returns-clause-buffers c = both_see_buffers
