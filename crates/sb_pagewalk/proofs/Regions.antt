-- Windows and the tables that they have.
use Rattle.std.proofs.Common.{◌≡◌, ◌≢◌, ℕ, ◌+◌, ◌<◌, ◌≤◌, ◌==◌, ap, sym, ◌∙◌, arith}
use Rattle.std.specs.Prelude.{if◌then◌else◌}
use Rattle.std.proofs.lemmas.Grind.{common_steps}
use Rattle.sb_pagewalk.specs.Windows.{page_table_of, next_table}

pub page_table_small : (region : ℕ) → page_table_of region < 12
unfolding page_table_of
page_table_small region = grind (arith, common_steps)

pub page_table_lowest : (region : ℕ) → page_table_of region ≢ 0 → 4 ≤ page_table_of region
unfolding page_table_of
page_table_lowest region window = grind (arith, common_steps)

pub next_table_small : (table index : ℕ) → next_table table index < 12
unfolding next_table
next_table_small table index = let h = page_table_small index in let k =
    page_table_small (512 + index) in grind (arith, common_steps)

-- the region whose page table has a number
unfoldable pub region_with : ℕ → ℕ
region_with table =
    if table == 4 then 0
    else if table == 5 then 2
    else if table == 6 then 4
    else if table == 7 then 6
    else if table == 8 then 16
    else if table == 9 then 24
    else if table == 10 then 32
    else 896

-- it is the region that has the table
pub only_region : (region : ℕ) → page_table_of region ≢ 0 → region_with (page_table_of region) ≡ region
unfolding page_table_of region_with
only_region region window = grind (arith, common_steps)

-- no two windows have one page table
pub page_tables_differ : (region other : ℕ) → page_table_of region ≢ 0 → page_table_of region ≡ page_table_of other
    → region ≡ other
page_tables_differ region other window same =
    sym (only_region region window) ∙ ap region_with same ∙ only_region other (λ none. window (same ∙ none))

pub windows_are_low : (region : ℕ) → page_table_of region ≢ 0 → region < 1024
unfolding page_table_of
windows_are_low region window = grind (arith, common_steps)
