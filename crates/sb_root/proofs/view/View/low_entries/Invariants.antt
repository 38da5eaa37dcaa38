use Rattle.std.proofs.Common.{◌≡◌, ℕ, ◌<◌, length, get_or}
use Rattle.sb_root.specs.Tables.{view_entries}
use Rattle.sb_root.proofs.view.View.low_entries.Given as goal

abbrev pub invariant-loop-page : goal.invariant-loop-page
invariant-loop-page l =
    (length l.entries ≡ 32) × ((page : ℕ) → page < l.page → get_or l.entries page 0 ≡ view_entries l.self page)
