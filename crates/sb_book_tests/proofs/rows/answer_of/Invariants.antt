use Rattle.sb_book_tests.proofs.rows.answer_of.Given as goal

abbrev pub ghosts-came_of-E-Ledger : goal.ghosts-came_of-E-Ledger
ghosts-came_of-E-Ledger a = record { name = a.entries.name; parts = a.entries.parts }

abbrev pub ghosts-came_of-Z-Ledger : goal.ghosts-came_of-Z-Ledger
ghosts-came_of-Z-Ledger a = record { name = a.stops.name; parts = a.stops.parts }

abbrev pub ghosts-came_of-E-Task : goal.ghosts-came_of-E-Task
ghosts-came_of-E-Task a = record { load = a.loaded; limit = a.row.now.room }
