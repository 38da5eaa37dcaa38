use Rattle.sb_root.proofs.TablesRead.{base_reads, set_reads, view_reads}
use Rattle.sb_root.proofs.laws.walks_read_tables.Goals as goal

pub returns-clause-base : goal.returns-clause-base
returns-clause-base c = base_reads

pub returns-clause-view : goal.returns-clause-view
returns-clause-view c = view_reads

pub returns-clause-set : goal.returns-clause-set
returns-clause-set c = set_reads
