use Rattle.sb_memory.specs.Physical.{HasSize}
use Rattle.sb_memory.specs.Changes.{SameOutside}
use Rattle.sb_pagewalk.specs.TableSet.{set_frames}
use Rattle.sb_pagewalk.specs.Building.{IsCleared}
use Rattle.sb_pagewalk.proofs.table_set.TableSet.clear.Given as goal

abbrev pub invariant-loop-table : goal.invariant-loop-table
invariant-loop-table l = IsCleared l.self l.memory l.table × HasSize l.memory
    × SameOutside (set_frames l.self) l.fn.memory l.memory
