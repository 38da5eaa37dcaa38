use Rattle.sb_pagewalk.proofs.Untouched.{tables_stay, walks_stay}
use Rattle.sb_pagewalk.proofs.laws.sets_keep_apart.Goals as goal

pub returns-clause-tables : goal.returns-clause-tables
returns-clause-tables c = tables_stay

pub returns-clause-walks : goal.returns-clause-walks
returns-clause-walks c = walks_stay
