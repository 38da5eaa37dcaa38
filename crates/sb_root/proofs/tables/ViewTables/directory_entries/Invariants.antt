use Rattle.std.proofs.Common.{◌≡◌, ℕ, ◌<◌, length, get_or}
use Rattle.sb_root.specs.Tables.{directory_entries}
use Rattle.sb_root.proofs.tables.ViewTables.directory_entries.Given as goal

abbrev pub invariant-loop-region : goal.invariant-loop-region
invariant-loop-region l =
    (length l.entries ≡ 16) × ((index : ℕ) → index < l.region → get_or l.entries index 0 ≡ directory_entries l.self.first.0 index)
