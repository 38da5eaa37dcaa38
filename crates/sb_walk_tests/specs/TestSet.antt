-- The set of the tests: frame 16 is the root, frames 600 to 610 are the tables.
use Rattle.std.specs.Prelude.{ℕ, [], ◌∷◌, map}
use Rattle.sb_memory.specs.declared.address.Frame.{Frame}
use Rattle.sb_pagewalk.specs.declared.table_set.TableSet.{TableSet}

abbrev pub frame_numbered : ℕ → Frame
frame_numbered number = record { 0 = number }

abbrev pub test_set : TableSet
test_set = record {
  root = frame_numbered 16;
  tables = map frame_numbered (600 ∷ 601 ∷ 602 ∷ 603 ∷ 604 ∷ 605 ∷ 606 ∷ 607 ∷ 608 ∷ 609 ∷ 610 ∷ []);
}
