-- The walk through the extended page tables, over physical memory (SDM volume 3, section 28.3).
use Rattle.std.specs.Prelude.{ℕ, ◌+◌, ◌*◌, ◌/◌, ◌%◌, ◌^◌, ◌==◌, ◌&&◌, ◌||◌, nat_le, nat_lt, not, Bool, List, [], ◌∷◌, Result, Ok, Err, if◌then◌else◌}
use Rattle.sb_memory.specs.declared.page.TheConstants.{PAGE_SIZE}
use Rattle.sb_memory.specs.Outcome.{and_then}
use Rattle.sb_memory.specs.Physical.{Physical, frame_count}
use Rattle.sb_memory.specs.Reading.{word_read}
use Rattle.sb_memory.specs.declared.address.Missing.{Missing}
use Rattle.sb_memory.specs.declared.address.Access.{Access}
use Rattle.sb_memory.specs.declared.address.Access.TheVariants.{Read, Write, Fetch}
use Rattle.sb_memory.specs.declared.address.PhysAddr.{PhysAddr}
use Rattle.sb_memory.specs.declared.address.EptStop.{EptStop}
use Rattle.sb_memory.specs.declared.address.EptStop.TheVariants as stop
use Rattle.sb_walks.specs.declared.entry.TheConstants.{EPTP_FLAGS, WRITE_BACK}
use Rattle.sb_walks.specs.Entry.{has_bit, maps_large_page, frame_in, entry_place, four_levels}
use Rattle.sb_walks.specs.Reads.{where_ok}

-- reads are permitted
abbrev pub is_readable : ℕ → Bool
is_readable entry = has_bit entry 0

-- writes are permitted
abbrev pub is_writable : ℕ → Bool
is_writable entry = has_bit entry 1

-- fetches are permitted
abbrev pub is_executable : ℕ → Bool
is_executable entry = has_bit entry 2

-- whether an entry permits an access
abbrev pub ept_permits : Access → ℕ → Bool
ept_permits Read entry = is_readable entry
ept_permits Write entry = is_writable entry
ept_permits Fetch entry = is_executable entry

-- write without read, or at the lowest level another memory type than 6, write-back
abbrev pub is_misconfigured : ℕ → ℕ → Bool
is_misconfigured level entry =
    (is_writable entry && not (is_readable entry)) || ((level == 1) && not (entry / 2 ^ 3 % 8 == WRITE_BACK))

-- a large page
abbrev pub is_large : ℕ → ℕ → Bool
is_large level entry = ((level == 3) || (level == 2)) && maps_large_page entry

-- an EPT pointer: memory type 6, a walk of four levels, and an address below 2 ^ 52
abbrev pub is_eptp : ℕ → Bool
is_eptp word = (word % 2 ^ 12 == EPTP_FLAGS) && nat_lt word (2 ^ 52)

-- what an entry leads to in a memory of so many frames: the next frame, or the first refusal that applies
unfoldable pub ept_entry_answer : ℕ → Access → ℕ → ℕ → Result ℕ EptStop
ept_entry_answer frames access level entry =
    if entry % 8 == 0 then Err (stop.NotPresent level)
    else if is_misconfigured level entry then Err (stop.Misconfigured level)
    else if is_large level entry then Err (stop.Large level)
    else if nat_le frames (frame_in entry) then Err (stop.Outside level)
    else if not (ept_permits access entry) then Err (stop.Denied level)
    else Ok (frame_in entry)

-- the same of what was read at the entry's place
abbrev pub ept_entry : ℕ → Access → ℕ → Result ℕ Missing → Result ℕ EptStop
ept_entry frames access level (Ok entry) = ept_entry_answer frames access level entry
ept_entry frames access level (Err gap) = Err (stop.Missing gap.frame)

-- one level: from the frame of a table to the frame to which the entry for the address leads
unfoldable pub ept_step : Physical → ℕ → Access → ℕ → ℕ → Result ℕ EptStop
ept_step memory at access level frame =
    ept_entry (frame_count memory) access level (word_read memory (entry_place frame level at))

-- these levels, from the frame of the first one's table on: the frame to which the last leads, or the first refusal
abbrev pub ept_levels : Physical → ℕ → Access → List ℕ → ℕ → Result ℕ EptStop
ept_levels memory at access [] frame = Ok frame
ept_levels memory at access (level ∷ levels) frame =
    and_then (ept_step memory at access level frame) (ept_levels memory at access levels)

-- the places of the entries that are read, up to and with that of the refusal
abbrev pub ept_reads : Physical → ℕ → Access → List ℕ → ℕ → List ℕ
ept_reads memory at access [] frame = []
ept_reads memory at access (level ∷ levels) frame =
    entry_place frame level at ∷ where_ok (ept_step memory at access level frame) (ept_reads memory at access levels)

-- the address in a frame that stands where another stands in its page
abbrev pub phys_in : ℕ → ℕ → PhysAddr
phys_in at frame = record { 0 = PAGE_SIZE * frame + at % PAGE_SIZE }

-- the walk from the table to which the EPT pointer leads
unfoldable pub ept_walk : Physical → ℕ → ℕ → Access → Result PhysAddr EptStop
ept_walk memory eptp at access =
    if nat_le (2 ^ 48) at then Err stop.TooWide
    else and_then (ept_levels memory at access four_levels (frame_in eptp)) (λ frame. Ok (phys_in at frame))

-- the places of the entries that it reads
unfoldable pub ept_walk_reads : Physical → ℕ → ℕ → Access → List ℕ
ept_walk_reads memory eptp at access =
    if nat_le (2 ^ 48) at then [] else ept_reads memory at access four_levels (frame_in eptp)
