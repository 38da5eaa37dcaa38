-- A set of page tables that stands in a memory.
use Rattle.std.specs.Prelude.{ℕ, ◌≡◌, ◌≢◌, ◌<◌, List}
use Rattle.std.specs.List.{Contains}
use Rattle.sb_memory.specs.Physical.{Physical, frame_count}
use Rattle.sb_memory.specs.Words.{word_at}
use Rattle.sb_pagewalk.specs.declared.table_set.TableSet.{TableSet}
use Rattle.sb_pagewalk.specs.Windows.{next_table}
use Rattle.sb_pagewalk.specs.TableSet.{table_frame, place_in, entry_to}

-- twelve different frames of the memory
pub record AreFrames (set : TableSet) (memory : Physical) : Type 0 where
  pub inside : (table : ℕ) → table < 12 → table_frame set table < frame_count memory
  pub different : (table other : ℕ) → table < 12 → other < 12 → table ≢ other → table_frame set table ≢ table_frame set other

-- the set's tables stand in the memory, and those above the lowest level are as they were built
pub record HasTables (set : TableSet) (memory : Physical) : Type 0 where
  pub frames : AreFrames set memory
  pub upper : (table index : ℕ) → table < 4 → index < 512
      → word_at memory.bytes (place_in set table index) ≡ entry_to set (next_table table index)

-- none of these frames is one of the set
abbrev pub IsApart : TableSet → List ℕ → Type 0
IsApart set frames = (table : ℕ) → table < 12 → ¬ Contains frames (table_frame set table)
