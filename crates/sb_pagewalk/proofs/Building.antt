-- Each table is entered once, and a step of building does one more.
use Rattle.std.proofs.Common.{◌≡◌, ◌≢◌, ℕ, zero, suc, ◌+◌, ◌*◌, ◌/◌, ◌%◌, ◌<◌, ◌≤◌, ◌∙◌, arith}
use Rattle.std.proofs.lemmas.Grind.{common_steps}
use Rattle.sb_pagewalk.specs.Windows.{page_table_of, next_table}
use Rattle.sb_pagewalk.proofs.Regions.{region_with, only_region, page_table_small, page_table_lowest}
use Rattle.sb_pagewalk.specs.Building.{parent_of, slot_of}

-- what stands where a table is entered leads to it
pub entered : (table : ℕ) → table ≢ 0 → table < 12 → next_table (parent_of table) (slot_of table) ≡ table
unfolding next_table page_table_of parent_of slot_of
entered table not_root within = grind (arith, common_steps)

-- where a page table is entered, by its region
page_table_parent : (table : ℕ) → 4 ≤ table → table < 12 → parent_of table ≡ 2 + region_with table / 512
unfolding parent_of region_with
page_table_parent table lowest within = grind (arith, common_steps)

page_table_slot : (table : ℕ) → 4 ≤ table → table < 12 → slot_of table ≡ region_with table % 512
unfolding slot_of region_with
page_table_slot table lowest within = grind (arith, common_steps)

-- what leads to a page table stands where that table is entered
directory_once : (gib index region : ℕ) → region ≡ 512 * gib + index → index < 512 → page_table_of region ≢ 0
    → (parent_of (page_table_of region) ≡ 2 + gib) × (slot_of (page_table_of region) ≡ index)
directory_once gib index region is within leads =
    let back = only_region region leads in
    let parent = page_table_parent (page_table_of region) (page_table_lowest region leads) (page_table_small region) in
    let slot = page_table_slot (page_table_of region) (page_table_lowest region leads) (page_table_small region) in
    (parent ∙ omega arith, slot ∙ omega arith)

root_once : (index : ℕ) → next_table 0 index ≢ 0 → (parent_of (next_table 0 index) ≡ 0) × (slot_of (next_table 0 index) ≡ index)
unfolding next_table parent_of slot_of
root_once index leads = (grind (arith, common_steps), grind (arith, common_steps))

pointers_once : (index : ℕ) → next_table 1 index ≢ 0
    → (parent_of (next_table 1 index) ≡ 1) × (slot_of (next_table 1 index) ≡ index)
unfolding next_table parent_of slot_of
pointers_once index leads = (grind (arith, common_steps), grind (arith, common_steps))

-- what leads to a table stands where that table is entered
pub entered_once : (table index : ℕ) → table < 4 → index < 512 → next_table table index ≢ 0
    → (parent_of (next_table table index) ≡ table) × (slot_of (next_table table index) ≡ index)
unfolding next_table
entered_once zero index upper within leads = root_once index leads
entered_once (suc zero) index upper within leads = pointers_once index leads
entered_once (suc (suc zero)) index upper within leads = directory_once 0 index index (omega arith) within leads
entered_once (suc (suc (suc zero))) index upper within leads = directory_once 1 index (512 + index) (omega arith) within leads
entered_once (suc (suc (suc (suc table)))) index upper within leads = absurd (omega arith)
