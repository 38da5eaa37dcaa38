-- The words of extended page tables, and what a lowest one answers (SDM volume 3, sections 24.6.11 and 28.3.2).
use Rattle.std.specs.Prelude.{ℕ, ◌+◌, ◌*◌, ◌==◌, ◌||◌, Bool, Result, Ok, Err, if◌then◌else◌}
use Rattle.sb_memory.specs.declared.page.TheConstants.{PAGE_SIZE}
use Rattle.sb_memory.specs.declared.address.Access.{Access}
use Rattle.sb_memory.specs.declared.address.PhysAddr.{PhysAddr}
use Rattle.sb_memory.specs.declared.address.EptStop.{EptStop}
use Rattle.sb_memory.specs.declared.address.EptStop.TheVariants.{NotPresent, Denied}
use Rattle.sb_walks.specs.declared.entry.TheConstants.{EPTP_FLAGS, LEAF_WRITE_BACK}
use Rattle.sb_walks.specs.Ept.{ept_permits, phys_in}
use Rattle.sb_root.specs.declared.entry.TheConstants.{RIGHT_READ, RIGHT_READ_WRITE, RIGHT_EXECUTE}

-- the EPT pointer to a table of level 4: memory type 6, a walk of four levels
abbrev pub eptp_to : ℕ → ℕ
eptp_to frame = PAGE_SIZE * frame + EPTP_FLAGS

-- the entry above the lowest level that leads to a table, with all rights
abbrev pub link_to : ℕ → ℕ
link_to frame = PAGE_SIZE * frame + 7

-- nothing, read, read and write, or execute: bits 2 to 0 of a lowest entry
abbrev pub is_rights : ℕ → Bool
is_rights rights = (rights == 0) || (rights == RIGHT_READ) || (rights == RIGHT_READ_WRITE) || (rights == RIGHT_EXECUTE)

-- the lowest entry that leads to a frame with memory type 6; one without rights is 0
abbrev pub leaf_to : ℕ → ℕ → ℕ
leaf_to frame rights = if rights == 0 then 0 else PAGE_SIZE * frame + (LEAF_WRITE_BACK + rights)

-- what an address answers whose page leads to a frame with these rights
unfoldable pub entry_reached : ℕ → ℕ → ℕ → Access → Result PhysAddr EptStop
entry_reached frame rights at access =
    if rights == 0 then Err (NotPresent 1)
    else if ept_permits access rights then Ok (phys_in at frame)
    else Err (Denied 1)
