use Rattle.std.proofs.Common.{◌≡◌, ℕ, ◌<◌, length, get_or}
use Rattle.sb_root.specs.Tables.{base_entries}
use Rattle.sb_root.proofs.view.base_entries.Given as goal

abbrev pub invariant-loop-page : goal.invariant-loop-page
invariant-loop-page l = (length l.entries ≡ 32) × ((page : ℕ) → page < l.page → get_or l.entries page 0 ≡ base_entries page)
