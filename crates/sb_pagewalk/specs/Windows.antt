-- The windows of a process: the 2 MiB regions of its address space that have a page table.
use Rattle.std.specs.Prelude.{ℕ, ◌≢◌, ◌+◌, ◌/◌, ◌^◌, ◌==◌, if◌then◌else◌}
use Rattle.sb_abi.specs.declared.space.TheConstants.{TEXT_ADDRESS, DATA_ADDRESS, HEAP_ADDRESS, BUFFERS_ADDRESS, STACKS_ADDRESS, SERVER_STACKS_ADDRESS}
use Rattle.sb_abi.specs.declared.trampoline.TheConstants.{TRAMPOLINE_ADDRESS}

-- the number of the 2 MiB region of an address
abbrev pub region_of : ℕ → ℕ
region_of address = address / 2 ^ 21

-- the number of the page table of a region, by the window that it is; 0 where it is none
unfoldable pub page_table_of : ℕ → ℕ
page_table_of region =
    if region == region_of 0 then 4
    else if region == region_of TEXT_ADDRESS then 5
    else if region == region_of DATA_ADDRESS then 6
    else if region == region_of HEAP_ADDRESS then 7
    else if region == region_of BUFFERS_ADDRESS then 8
    else if region == region_of STACKS_ADDRESS then 9
    else if region == region_of SERVER_STACKS_ADDRESS then 10
    else if region == region_of TRAMPOLINE_ADDRESS then 11
    else 0

-- an address in a window
abbrev pub IsInWindow : ℕ → Type 0
IsInWindow address = page_table_of (region_of address) ≢ 0

-- the number of the table to which an entry of a table above the lowest level leads; 0 where it leads nowhere. Table 0 is the
-- PML4 table, 1 the page-directory-pointer table, 2 and 3 are the page directories of the first and the second GiB.
unfoldable pub next_table : ℕ → ℕ → ℕ
next_table table index =
    if table == 0 then (if index == 0 then 1 else 0)
    else if table == 1 then (if index == 0 then 2 else if index == 1 then 3 else 0)
    else if table == 2 then page_table_of index
    else page_table_of (512 + index)
