-- How many pages bytes take.
use Rattle.std.specs.Prelude.{ℕ, ◌+◌, ◌-◌, ◌/◌}
use Rattle.sb_memory.specs.declared.page.TheConstants.{PAGE_SIZE}

-- the pages that so many bytes take
abbrev pub page_count : ℕ → ℕ
page_count bytes = (bytes + (PAGE_SIZE - 1)) / PAGE_SIZE
