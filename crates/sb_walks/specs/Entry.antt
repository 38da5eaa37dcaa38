-- Entries of page tables, and where the entry for an address stands (SDM volume 3, section 4.5).
use Rattle.std.specs.Prelude.{ℕ, ◌+◌, ◌*◌, ◌/◌, ◌%◌, ◌^◌, ◌==◌, Bool, List, [], ◌∷◌}
use Rattle.sb_memory.specs.declared.page.TheConstants.{PAGE_SIZE}
use Rattle.sb_walks.specs.declared.entry.TheConstants.{PS}

-- whether a bit of a word is set
abbrev pub has_bit : ℕ → ℕ → Bool
has_bit word bit = word / 2 ^ bit % 2 == 1

-- P: the entry is in use
abbrev pub is_present : ℕ → Bool
is_present entry = has_bit entry 0

-- R/W: writes are permitted
abbrev pub is_writable : ℕ → Bool
is_writable entry = has_bit entry 1

-- U/S: user-mode accesses are permitted
abbrev pub is_user : ℕ → Bool
is_user entry = has_bit entry 2

-- PS: at levels 3 and 2, the entry maps a large page
abbrev pub maps_large_page : ℕ → Bool
maps_large_page entry = has_bit entry PS

-- XD: fetches are not permitted
abbrev pub is_execute_disabled : ℕ → Bool
is_execute_disabled entry = has_bit entry 63

-- the number of the frame to which an entry or CR3 leads: bits 51 to 12
abbrev pub frame_in : ℕ → ℕ
frame_in word = word / 2 ^ 12 % 2 ^ 40

-- the index of an address into a table of a level: nine bits, from bit 12 on at level 1
abbrev pub index_at : ℕ → ℕ → ℕ
index_at level address = address / 2 ^ (3 + 9 * level) % 512

-- the place of the entry with an index in the table that stands in a frame
abbrev pub entry_in : ℕ → ℕ → ℕ
entry_in frame index = PAGE_SIZE * frame + 8 * index

-- the place of the entry for an address
abbrev pub entry_place : ℕ → ℕ → ℕ → ℕ
entry_place frame level address = entry_in frame (index_at level address)

-- the levels from the PML4 table down to the page table
abbrev pub four_levels : List ℕ
four_levels = 4 ∷ 3 ∷ 2 ∷ 1 ∷ []
