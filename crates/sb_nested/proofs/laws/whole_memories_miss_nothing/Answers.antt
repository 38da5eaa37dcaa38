use Rattle.sb_walks.proofs.Whole.{ept_whole, nested_whole}
use Rattle.sb_nested.proofs.NoGaps.{byte_no_gap}
use Rattle.sb_nested.proofs.laws.whole_memories_miss_nothing.Goals as goal

pub returns-clause-ept : goal.returns-clause-ept
returns-clause-ept c = λ memory eptp at access all root. ept_whole memory all eptp root at access

pub returns-clause-translation : goal.returns-clause-translation
returns-clause-translation c = λ memory eptp cr3 linear access all root. nested_whole memory all eptp root cr3 linear access

pub returns-clause-byte : goal.returns-clause-byte
returns-clause-byte c = byte_no_gap
