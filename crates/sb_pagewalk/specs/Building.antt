-- How the tables of a set are built: each is cleared, and then entered in the one above it.
use Rattle.std.specs.Prelude.{ℕ, ◌≡◌, ◌%◌, ◌<◌, ◌≤◌, ◌==◌, nat_lt, if◌then◌else◌}
use Rattle.sb_abi.specs.declared.space.TheConstants.{TEXT_ADDRESS, DATA_ADDRESS, HEAP_ADDRESS, BUFFERS_ADDRESS, STACKS_ADDRESS, SERVER_STACKS_ADDRESS}
use Rattle.sb_abi.specs.declared.trampoline.TheConstants.{TRAMPOLINE_ADDRESS}
use Rattle.sb_memory.specs.Physical.{Physical}
use Rattle.sb_memory.specs.Words.{word_at}
use Rattle.sb_pagewalk.specs.declared.table_set.TableSet.{TableSet}
use Rattle.sb_pagewalk.specs.Windows.{next_table, region_of}
use Rattle.sb_pagewalk.specs.TableSet.{place_in, entry_to}

-- the table above one that is not the root
unfoldable pub parent_of : ℕ → ℕ
parent_of table = if table == 1 then 0 else if nat_lt table 4 then 1 else if table == 11 then 3 else 2

-- the index at which it is entered there
unfoldable pub slot_of : ℕ → ℕ
slot_of table =
    if table == 3 then 1
    else if table == 5 then region_of TEXT_ADDRESS
    else if table == 6 then region_of DATA_ADDRESS
    else if table == 7 then region_of HEAP_ADDRESS
    else if table == 8 then region_of BUFFERS_ADDRESS
    else if table == 9 then region_of STACKS_ADDRESS
    else if table == 10 then region_of SERVER_STACKS_ADDRESS
    else if table == 11 then region_of TRAMPOLINE_ADDRESS % 512
    else 0

-- a table, if it is one of the first; else none
abbrev pub among_first : ℕ → ℕ → ℕ
among_first count table = if nat_lt table count then table else 0

-- the entries of the first tables are 0
pub record IsCleared (set : TableSet) (memory : Physical) (count : ℕ) : Type 0 where
  pub zero : (table index : ℕ) → table < count → index < 512 → word_at memory.bytes (place_in set table index) ≡ 0

-- the first tables are entered, and all other entries are 0
pub record IsLinked (set : TableSet) (memory : Physical) (count : ℕ) : Type 0 where
  pub upper : (table index : ℕ) → table < 4 → index < 512
      → word_at memory.bytes (place_in set table index) ≡ entry_to set (among_first count (next_table table index))
  pub lowest : (table index : ℕ) → 4 ≤ table → table < 12 → index < 512 → word_at memory.bytes (place_in set table index) ≡ 0
