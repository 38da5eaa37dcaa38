use Rattle.sb_pagewalk.proofs.Through.{goes_through, reads_tables}
use Rattle.sb_pagewalk.proofs.laws.walks_go_through_sets.Goals as goal

pub returns-clause-answer : goal.returns-clause-answer
returns-clause-answer c = goes_through

pub returns-clause-reads : goal.returns-clause-reads
returns-clause-reads c = reads_tables
