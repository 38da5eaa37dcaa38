use Rattle.std.proofs.Common.{◌≡◌, ◌+◌, ◌-◌}
use Rattle.sb_memory.specs.Physical.{Physical, frame_count}
use Rattle.sb_frames.specs.Book.{Book}
use Rattle.sb_root.specs.Standing.{IsBooked, Stands}
use Rattle.sb_shows.specs.Starts.{ExposesTables}
use Rattle.sb_mapping.proofs.tables.expose_tables.Given as goal

abbrev pub invariant-loop-table : goal.invariant-loop-table
invariant-loop-table l = record {
  root : l.root ≡ l.fn.root;
  stands : Stands l.root l.memory;
  size : frame_count l.memory ≡ frame_count l.fn.memory;
  exposed : (new : Physical) → ExposesTables l.fn.root l.set (1 + l.table) (11 - l.table) l.memory new
      → ExposesTables l.fn.root l.set 1 11 l.fn.memory new;
  booked : (book : Book) → IsBooked l.fn.root book l.fn.memory → IsBooked l.root book l.memory;
}
