use Rattle.sb_book.proofs.threads.history_by_threads.Given as goal

abbrev pub ghosts-on_threads-E-Ledger : goal.ghosts-on_threads-E-Ledger
ghosts-on_threads-E-Ledger g a = record { name = a.entries.name; parts = a.entries.parts }

abbrev pub ghosts-on_threads-Z-Ledger : goal.ghosts-on_threads-Z-Ledger
ghosts-on_threads-Z-Ledger g a = record { name = a.stops.name; parts = a.stops.parts }

abbrev pub ghosts-on_threads-E-Task : goal.ghosts-on_threads-E-Task
ghosts-on_threads-E-Task g a = record { load = a.loaded; limit = a.steps }
