use Rattle.sb_shows.proofs.Starting.{first_kept, thread_kept}
use Rattle.sb_shows.proofs.Processes.{process_kept}
use Rattle.sb_shows.proofs.WholeProcesses.{whole_kept}
use Rattle.sb_shows.proofs.WholeStart.{start_kept}
use Rattle.sb_shows.proofs.WholeThreads.{whole_thread_kept}
use Rattle.sb_shows.proofs.Listing.{list_kept}
use Rattle.sb_shows.proofs.call_laws.start_steps_keep.Goals as goal

pub returns-clause-first : goal.returns-clause-first
returns-clause-first c = first_kept

pub returns-clause-processes : goal.returns-clause-processes
returns-clause-processes c = process_kept

pub returns-clause-whole_processes : goal.returns-clause-whole_processes
returns-clause-whole_processes c = whole_kept

pub returns-clause-lists : goal.returns-clause-lists
returns-clause-lists c = list_kept

pub returns-clause-threads : goal.returns-clause-threads
returns-clause-threads c = thread_kept

pub returns-clause-whole_threads : goal.returns-clause-whole_threads
returns-clause-whole_threads c = whole_thread_kept

pub returns-clause-start : goal.returns-clause-start
returns-clause-start c = start_kept
