use Rattle.sb_root.proofs.BaseAnswers.{rights_stay}
use Rattle.sb_root.proofs.Kept.{stands_kept, views_kept}
use Rattle.sb_root.proofs.Between.{booked_kept, booked_beside}
use Rattle.sb_root.proofs.laws.roots_keep_apart.Goals as goal

pub returns-clause-stands : goal.returns-clause-stands
returns-clause-stands c = stands_kept

pub returns-clause-views : goal.returns-clause-views
returns-clause-views c = views_kept

pub returns-clause-booked : goal.returns-clause-booked
returns-clause-booked c = booked_kept

pub returns-clause-book : goal.returns-clause-book
returns-clause-book c = booked_beside

pub returns-clause-rights : goal.returns-clause-rights
returns-clause-rights c = rights_stay
