-- The tables of an EPT. The base and each view have four of their own: of levels 4, 3 and 2, and of level 1 for the first
-- 2 MiB. The tables of level 1 for the other fifteen times 2 MiB are the base's, and all share them.
use Rattle.std.specs.Prelude.{ℕ, ◌≡◌, ◌≢◌, ◌+◌, ◌-◌, ◌/◌, ◌%◌, ◌<◌, ◌≤◌, ◌==◌, ◌&&◌, Bool, IsTrue, List, ◌∷◌, nat_lt, nat_le, get_or, if◌then◌else◌}
use Rattle.std.specs.List.{range_with_len}
use Rattle.sb_abi.specs.declared.layout.TheConstants.{HOME_TRAMPOLINE_FRAME, SERVER_TRAMPOLINE_FRAME, FIRST_ROOT, LAST_ROOT, FIRST_REGION_TABLE, BASE_ROOT, BASE_POINTERS, BASE_DIRECTORY, TRAMPOLINE_GUEST_PAGE, RECORD_GUEST_PAGE, SCRATCH_GUEST_PAGE}
use Rattle.sb_abi.specs.declared.frames.TheConstants.{KEPT_FRAMES, MIN_FRAMES, MAX_FRAMES}
use Rattle.sb_memory.specs.Physical.{Physical, HasSize, HasAllFrames, frame_count}
use Rattle.sb_memory.specs.Words.{word_at}
use Rattle.sb_walks.specs.Entry.{entry_in}
use Rattle.sb_root.specs.declared.entry.TheConstants.{RIGHT_READ, RIGHT_READ_WRITE, RIGHT_EXECUTE}
use Rattle.sb_root.specs.declared.tables.ViewTables.{ViewTables}
use Rattle.sb_root.specs.declared.view.View.{View}
use Rattle.sb_root.specs.Entry.{eptp_to, link_to, leaf_to, is_rights}
use Rattle.sb_root.specs.declared.tables.TheConstants.{REGIONS}

-- the tables of the base
abbrev pub base_tables : ViewTables
base_tables =
    record {
      root = record { 0 = BASE_ROOT };
      pointers = record { 0 = BASE_POINTERS };
      directory = record { 0 = BASE_DIRECTORY };
      first = record { 0 = FIRST_REGION_TABLE };
    }

abbrev pub base_eptp : ℕ
base_eptp = eptp_to BASE_ROOT

-- the frame of the table of level 1 for a 2 MiB region other than the first
abbrev pub shared_table : ℕ → ℕ
shared_table region = FIRST_REGION_TABLE + region

-- these tables, for the second to the sixteenth region
unfoldable pub shared_frames : List ℕ
shared_frames = range_with_len (FIRST_REGION_TABLE + 1) (REGIONS - 1)

-- the frames that the base is built in
abbrev pub base_frames : List ℕ
base_frames = BASE_ROOT ∷ BASE_POINTERS ∷ BASE_DIRECTORY ∷ FIRST_REGION_TABLE ∷ shared_frames

-- the entries of a frame are these, by their index
pub record IsPage (memory : Physical) (frame : ℕ) (entries : ℕ → ℕ) : Type 0 where
  pub entry : (index : ℕ) → index < 512 → word_at memory.bytes (entry_in frame index) ≡ entries index

-- these words, and zeros behind them
abbrev pub from_start : List ℕ → ℕ → ℕ
from_start words index = get_or words index 0

-- the entries of a table of level 4 or 3: the first leads to the next table
abbrev pub upper_entries : ℕ → ℕ → ℕ
upper_entries next index = if index == 0 then link_to next else 0

-- the entries of a table of level 2: the first leads to the table for the first 2 MiB, the next fifteen to the shared ones
abbrev pub directory_entries : ℕ → ℕ → ℕ
directory_entries first index =
    if index == 0 then link_to first else if nat_lt index REGIONS then link_to (shared_table index) else 0

-- the frames of the roots of the processes' page tables
abbrev pub is_root_frame : ℕ → Bool
is_root_frame frame = nat_le FIRST_ROOT frame && nat_lt frame (LAST_ROOT + 1)

-- the lowest entries of the base for the first 2 MiB, by the number of the page: the home trampoline page, in frame 1, and
-- the root frames
unfoldable pub base_entries : ℕ → ℕ
base_entries page =
    if page == TRAMPOLINE_GUEST_PAGE then leaf_to HOME_TRAMPOLINE_FRAME RIGHT_EXECUTE
    else if is_root_frame page then leaf_to page RIGHT_READ
    else 0

-- the frame of the trampoline page of a view: the server's or the home one
abbrev pub trampoline_frame : Bool → ℕ
trampoline_frame server = if server then SERVER_TRAMPOLINE_FRAME else HOME_TRAMPOLINE_FRAME

-- the lowest entries of a view for the first 2 MiB: the base's but for four pages
unfoldable pub view_entries : View → ℕ → ℕ
view_entries view page =
    if page == view.home_root.0 then leaf_to view.target_root.0 RIGHT_READ
    else if page == TRAMPOLINE_GUEST_PAGE then leaf_to (trampoline_frame view.server) RIGHT_EXECUTE
    else if page == RECORD_GUEST_PAGE then leaf_to view.record_page.0 RIGHT_READ
    else if page == SCRATCH_GUEST_PAGE then leaf_to view.scratch_page.0 RIGHT_READ_WRITE
    else base_entries page

-- four tables stand in a memory, the lowest with these entries
pub record HasTables (memory : Physical) (tables : ViewTables) (entries : ℕ → ℕ) : Type 0 where
  pub root : IsPage memory tables.root.0 (upper_entries tables.pointers.0)
  pub pointers : IsPage memory tables.pointers.0 (upper_entries tables.directory.0)
  pub directory : IsPage memory tables.directory.0 (directory_entries tables.first.0)
  pub first : IsPage memory tables.first.0 entries
  pub inside : (tables.root.0 < frame_count memory) × (tables.pointers.0 < frame_count memory)
      × (tables.directory.0 < frame_count memory) × (tables.first.0 < frame_count memory)

-- the place of the lowest entry for a page after the first 2 MiB
abbrev pub shared_place : ℕ → ℕ
shared_place page = entry_in (shared_table (page / 512)) (page % 512)

-- what such an entry permits
abbrev pub rights_in : Physical → ℕ → ℕ
rights_in memory page = word_at memory.bytes (shared_place page) % 8

-- it leads to the page's own frame of the memory, or nowhere
pub record IsExposed (memory : Physical) (page : ℕ) : Type 0 where
  pub possible : IsTrue (is_rights (rights_in memory page))
  pub entry : word_at memory.bytes (shared_place page) ≡ leaf_to page (rights_in memory page)
  pub inside : rights_in memory page ≢ 0 → page < frame_count memory

-- a memory of so many frames that has them all
pub record IsRootMemory (memory : Physical) : Type 0 where
  pub size : HasSize memory
  pub all : HasAllFrames memory
  pub least : MIN_FRAMES ≤ frame_count memory
  pub most : frame_count memory ≤ MAX_FRAMES

-- the base stands in a memory
pub record HasBase (memory : Physical) : Type 0 where
  pub tables : HasTables memory base_tables base_entries
  pub shared : (page : ℕ) → KEPT_FRAMES ≤ page → page < MAX_FRAMES → IsExposed memory page
