use Rattle.sb_memory.specs.Changes.{SameOutside}
use Rattle.sb_pagewalk.specs.TableSet.{set_frames}
use Rattle.sb_pagewalk.specs.Building.{IsLinked}
use Rattle.sb_pagewalk.proofs.table_set.TableSet.link.Given as goal

abbrev pub invariant-loop-table : goal.invariant-loop-table
invariant-loop-table l = IsLinked l.self l.memory l.table × SameOutside (set_frames l.self) l.fn.memory l.memory
